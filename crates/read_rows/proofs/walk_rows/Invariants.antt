-- The rows before the counter are parsed, and the next is at `at`.
use Rattle.format.specs.Layout.{row_test}
use Rattle.read_rows.proofs.Rows.{RowsSoFar}
use Rattle.read_rows.proofs.walk_rows.Given as goal

abbrev pub invariant-loop : goal.invariant-loop
invariant-loop l = RowsSoFar l.k (row_test l.filled l.size) l.bytes l.from l.count l.at l.counter
