-- The loop's invariant: the first `p` places are those of the order that is found, whoever governs whom.
use mathlib.Core.Bool.{Bool}
use mathlib.Core.Path.{◌≡◌, sym, ◌∙◌}
use Prim.Native.Nat.{ℕ, ◌-◌, ◌≤◌}
use native.Mathlib.Omega.{arith}
use lib.ListN.{length, length-set}
use borrow.Author.Rules.{rules}
use Rattle.bounded.proofs.Fold.{first-le}
use Rattle.order.specs.Orders.{Governed}
use Rattle.order.proofs.Placing.{Placing, placing-none, placing-more, placing-end}
use Rattle.order.proofs.find.place_all.Statement.{statement}
use Rattle.order.proofs.find.place_all.Tie as tie

abbrev invariant-loop : tie.invariant-loop-p
invariant-loop n over order₀ left₀ p₀ order left p = (p ≤ n) × (length order ≡ n) × ((R : ℕ → ℕ → Bool) → Governed n R over → Placing n R p left order)

abbrev decreases-loop : tie.decreases-loop-p
decreases-loop n over order₀ left₀ p₀ order left p = n - p

loop-holds : tie.Need-loop-p-init invariant-loop decreases-loop
loop-holds c = let l = c.requires.1 in (omega arith, l, λ R G. placing-none _ l c.full-left.ensures)

within : (c : tie.After-next-i invariant-loop decreases-loop) → c.next-i.result ≤ c.args.n
within c = rw c.next-i.ensures (first-le _ _)

loop-again : tie.Need-loop-p-preserved invariant-loop decreases-loop
loop-again c =
    let o = c in
    let x = o in
    let t = x in
    let i = t.loop-p.invariant in (
      omega arith,
      simp length-set i.1,
      λ R G. placing-more _ (omega arith) G t.loop-p-test.true (i.2 R G) x.next-i.ensures o.single.ensures c.without-left.ensures,
    )

same_length : tie.Need-shape_of-order invariant-loop decreases-loop
same_length c = c.loop-p.invariant.1 ∙ sym c.requires.1

returns : tie.Need-returns invariant-loop decreases-loop
returns c = λ R G. placing-end _ c.loop-p-test.false (c.loop-p.invariant.2 R G)

pub place_all_spec : {M : Type 1} → statement M
place_all_spec =
    tie.close
    (tie.spec
    invariant-loop
    decreases-loop
    (λ c κs. search rules)
    loop-holds
    (λ c κs. search rules)
    (λ c. let l = within c in search rules)
    (λ c. let l = within c in search rules)
    (λ c. search rules)
    (λ c κs. let l = within c in search rules)
    (λ c κs. search rules)
    (λ c. search rules)
    (λ c. search rules)
    loop-again
    same_length
    returns)
