-- The loop's invariant: no variable below `i` may come.
use mathlib.Core.Bool.{false}
use mathlib.Core.Path.{◌≡◌, sym, ◌∙◌}
use Prim.Native.Nat.{ℕ, ◌-◌, ◌≤◌, ◌<◌}
use native.Mathlib.Omega.{arith}
use lib.ListN.{get_or}
use borrow.Author.Count.{below_more}
use borrow.Author.Rules.{rules}
use Rattle.bounded.proofs.Fold.{first_is}
use Rattle.order.specs.Orders.{may_come}
use Rattle.order.proofs.Placing.{first-none}
use Rattle.order.proofs.find.next.Statement.{statement}
use Rattle.order.proofs.find.next.Tie as tie

abbrev invariant-loop : tie.invariant-loop-i
invariant-loop n over left i₀ i = (i ≤ n) × ((k : ℕ) → k < i → may_come left (get_or over k 0) k ≡ false)

abbrev decreases-loop : tie.decreases-loop-i
decreases-loop n over left i₀ i = n - i

loop-holds : tie.Need-loop-i-init invariant-loop decreases-loop
loop-holds c = (omega arith, λ k l. absurd (let b : ⊥ = omega arith in b))

returns : tie.Need-returns-then-may_come invariant-loop decreases-loop
returns c =
    let t = c in
    sym (first_is _ _ _ t.loop-i-test.true (sym c.may_come.ensures ∙ c.if-may_come.true) t.loop-i.invariant.1)

loop-again : tie.Need-loop-i-preserved invariant-loop decreases-loop
loop-again c =
    let t = c in
    (omega arith, below_more _ _ t.loop-i.invariant.1 (sym c.may_come.ensures ∙ c.if-may_come.false))

returns-2 : tie.Need-returns invariant-loop decreases-loop
returns-2 c = sym (first-none _ _ λ k l. c.loop-i.invariant.1 k (omega arith))

pub next_spec : {M : Type 1} → statement M
next_spec =
    tie.close
    (tie.spec
    invariant-loop
    decreases-loop
    loop-holds
    (λ c. search rules)
    (λ c. search rules)
    (λ c κs. search rules)
    returns
    (λ c. search rules)
    (λ c. search rules)
    loop-again
    returns-2)
