-- The tables of `i` and the variables that are no longer to come are written.
use Rattle.words.specs.Word.{width}
use Rattle.write_tables.specs.Texts.{row_of, table_text}
use Rattle.write_tables.proofs.Later.{LaterSoFar}
use Rattle.write_tables.proofs.write_later.Given as goal

abbrev pub invariant-loop-j : goal.invariant-loop-j
invariant-loop-j l =
    LaterSoFar width (table_text l.bytes (row_of width l.rows) l.size l.stated l.i) l.stated l.i l.n l.fn.buffer l.buffer l.at l.next l.j-iterator.left
