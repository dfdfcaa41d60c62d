-- The loop's invariant: the first `p` places have been passed.
use mathlib.Core.Bool.{Bool}
use mathlib.Core.Path.{◌≡◌, refl, sym, ◌∙◌}
use Prim.Native.Nat.{ℕ, ◌-◌, ◌≤◌, ◌<◌}
use native.Mathlib.Omega.{arith}
use borrow.Author.Rules.{rules}
use Rattle.order.specs.Orders.{Governed, tested_in}
use Rattle.std.specs.Prelude.{Ok}
use Rattle.order.proofs.Passing.{Fresh, fresh-named, Passing, passing-none, left-fresh, passing-more, passing-refused, passing-end}
use Rattle.order.proofs.test.pass.Statement.{statement}
use Rattle.order.proofs.test.pass.Tie as tie

abbrev invariant-loop : tie.invariant-loop-p
invariant-loop n over order left₀ good₀ p₀ left good p = (p ≤ n) × Passing n over order p left good

abbrev decreases-loop : tie.decreases-loop-p
decreases-loop n over order left₀ good₀ p₀ left good p = n - p

loop-holds : tie.Need-loop-p-init invariant-loop decreases-loop
loop-holds c = (omega arith, passing-none _ _ _ c.full-left.ensures)

returns : tie.Need-returns-then-not-still_left invariant-loop decreases-loop
returns c =
    let w = c in
    let t = w in
    λ R G. passing-refused _ _ _ t.loop-p.invariant.1 w.wide-v.ensures R (omega arith) t.loop-p-test.true
    (sym c.still_left.ensures ∙ c.if-not-still_left.true)

-- The number that was looked at is of one that is left.
fresh : (c : tie.Else-not-still_left invariant-loop decreases-loop) → let t = c in let s = t in
    Fresh s.args.n s.args.order.now t.loop-p.p
fresh c =
    let w = c in
    left-fresh _ _ _ w.loop-p.invariant.1 w.wide-v.ensures (sym c.still_left.ensures ∙ c.if-not-still_left.false)

named : (c : tie.Else-not-still_left invariant-loop decreases-loop) → let w = c in
    (1 ≤ w.wide-v.result) × (w.wide-v.result - 1 < w.args.n)
named c = fresh-named _ _ (fresh c) c.wide-v.ensures

loop-again : tie.Need-loop-p-preserved invariant-loop decreases-loop
loop-again c =
    let o = c in
    let b = o in
    let e = b in
    let w = e in
    (omega arith, passing-more _ _ _ w.loop-p.invariant.1 w.wide-v.ensures (fresh c.before.before.before.before.before) refl b.both.ensures o.single.ensures c.without-left.ensures)

-- All places have been passed.
told : (c : tie.After-loop-p invariant-loop decreases-loop) → let s = c in
    (R : ℕ → ℕ → Bool) → Governed s.args.n R s.args.over.now → tested_in s.args.n R s.args.order.now ≡ Ok c.loop-p.good
told c R G = passing-end _ _ _ c.loop-p.invariant.1 (omega arith) R (omega arith) c.requires.1 G

returns-2 : tie.Need-returns invariant-loop decreases-loop
returns-2 c = λ R G. sym (told c R G)

pub pass_spec : {M : Type 1} → statement M
pass_spec =
    tie.close
    (tie.spec
    invariant-loop
    decreases-loop
    (λ c κs. search rules)
    loop-holds
    (λ c. search rules)
    (λ c κs. search rules)
    (λ c κs. search rules)
    returns
    (λ c. let i = named c in search rules)
    (λ c. let i = named c in search rules)
    (λ c. let i = named c.before in search rules)
    (λ c κs. search rules)
    (λ c κs. let i = named c.before.before.before in search rules)
    (λ c κs. search rules)
    (λ c. search rules)
    (λ c. search rules)
    loop-again
    returns-2)
