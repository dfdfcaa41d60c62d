-- The loop's invariant: the rows before the `a`th are stored and joined.
use mathlib.Core.Path.{◌≡◌}
use Prim.Native.Nat.{◌-◌, ◌≤◌}
use native.Mathlib.Omega.{arith}
use borrow.Author.Rules.{rules}
use Rattle.read_rows.specs.Rows.{RowsJoined}
use Rattle.read_number.proofs.Numbers.{row_inside}
use Rattle.read_rows.proofs.Rows.{joined-none, joined-more}
use Rattle.read_rows.proofs.store_rows.Statement.{statement}
use Rattle.read_rows.proofs.store_rows.Tie as tie

abbrev invariant-loop : tie.invariant-loop-a
invariant-loop bytes from k i j count rows₀ union₀ filled₀ a₀ rows union filled a = (a ≤ count) × RowsJoined 32 k bytes from i j a rows₀ rows union filled

abbrev decreases-loop : tie.decreases-loop-a
decreases-loop bytes from k i j count rows₀ union₀ filled₀ a₀ rows union filled a = count - a

loop-holds : tie.Need-loop-a-init invariant-loop decreases-loop
loop-holds c = (omega arith, joined-none)

mul-number : tie.Need-overflow_mul-k invariant-loop decreases-loop
mul-number c = omega (arith, row_inside c.args.k c.loop-a-test.true)

add-number : tie.Need-overflow_add-from invariant-loop decreases-loop
add-number c = omega (arith, row_inside c.args.k c.loop-a-test.true)

number-requires : tie.Need-number-row-requires invariant-loop decreases-loop
number-requires c κs = omega (arith, row_inside c.args.k c.loop-a-test.true)

put-row-requires : tie.Need-put_row-requires invariant-loop decreases-loop
put-row-requires c κs = omega (arith, c.loop-a.invariant.1.stored.size)

loop-again : tie.Need-loop-a-preserved invariant-loop decreases-loop
loop-again c =
    let put = c in
    let read = put in
    (omega arith, joined-more read.loop-a.invariant.1 read.number-row.ensures put.put_row.ensures c.either-union.ensures)

returns : tie.Need-returns invariant-loop decreases-loop
returns c = let e : c.loop-a.a ≡ c.args.count = omega arith in rw e at c.loop-a.invariant.1

pub store_rows_spec : {M : Type 1} → statement M
store_rows_spec =
    tie.close
    (tie.spec
    invariant-loop
    decreases-loop
    loop-holds
    mul-number
    add-number
    number-requires
    put-row-requires
    (λ c κs. search rules)
    (λ c. search rules)
    (λ c. search rules)
    loop-again
    returns)
