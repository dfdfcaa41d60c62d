-- The loop's invariant: no row below `c` has a bit at or above the size.
use mathlib.Core.Bool.{true, false}
use mathlib.Core.Path.{◌≡◌}
use Prim.Native.Nat.{ℕ, ◌-◌, ◌^◌, ◌<◌}
use native.Mathlib.Omega.{arith}
use lib.Dec.{ltb}
use lib.ListN.{length, get_or}
use borrow.Author.Count.{below_none, below_more}
use borrow.Author.Rules.{rules}
use borrow.Author.Tests.{not-true, not-false}
use Rattle.step_add_judge.proofs.Judging.{row_within, wrong-count, wrong_row, right-rows}
use Rattle.step_add_judge.proofs.rows_fit.Statement.{statement}
use Rattle.step_add_judge.proofs.rows_fit.Tie as tie

abbrev invariant-loop : tie.invariant-loop-c
invariant-loop table size other c₀ c-end c = (c-end ≡ length table) × ((k : ℕ) → k < c → ltb (get_or table k 0) (2 ^ other) ≡ true)

abbrev decreases-loop : tie.decreases-loop-c
decreases-loop table size other c₀ c-end c = c-end - c

returns : tie.Need-returns-then-table-size invariant-loop decreases-loop
returns c = wrong-count _ _ _ c.if-table-size.true

loop-holds : tie.Need-loop-c-init invariant-loop decreases-loop
loop-holds c = (search rules, below_none _)

returns-2 : tie.Need-returns-then-not-within invariant-loop decreases-loop
returns-2 c =
    let w = c in
    wrong_row _ _ _ (omega arith) (row_within 32 _ _ false (w.shared_slice_known-in-loop-c-1.given _).fits w.within.ensures (c.if-not-within.true))

loop-again : tie.Need-loop-c-preserved invariant-loop decreases-loop
loop-again c =
    let w = c in
    let k = w in
    (search rules, below_more _ _ k.loop-c.invariant.1 (row_within 32 _ _ true (k.shared_slice_known-in-loop-c-1.given _).fits w.within.ensures (c.if-not-within.false)))

returns-3 : tie.Need-returns invariant-loop decreases-loop
returns-3 c = right-rows _ _ _ c.if-table-size.false (λ k l. c.loop-c.invariant.1 k (omega arith))

pub rows_fit_spec : {M : Type 1} → statement M
rows_fit_spec =
    tie.close
    (tie.spec
    invariant-loop
    decreases-loop
    returns
    loop-holds
    (λ c. search rules)
    (λ c. search rules)
    (λ c κs. search rules)
    returns-2
    (λ c. search rules)
    (λ c. search rules)
    loop-again
    returns-3)
