-- The tables before the counter are held, and the next is at `at`.
use Rattle.read_tables.proofs.TablesLoop.{TablesSoFar}
use Rattle.read_tables.proofs.take_tables.Given as goal

abbrev pub invariant-loop : goal.invariant-loop
invariant-loop l = TablesSoFar l.bytes l.from l.k l.filled l.n l.count l.sizes l.stated l.rows l.at l.previous l.counter
