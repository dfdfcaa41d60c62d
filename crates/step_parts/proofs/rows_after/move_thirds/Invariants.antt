-- The third variables that are no longer to come have moved. A turn moves one more.
use Rattle.words.specs.Word.{width}
use Rattle.step_parts.specs.StepParts.{made_at, MovedRows}
use Rattle.step_parts.proofs.Thirds.{Left}
use Rattle.step_parts.proofs.StepRows.{done}
use Rattle.step_parts.proofs.rows_after.move_thirds.Given as goal

abbrev pub invariant-loop-k : goal.invariant-loop-k
invariant-loop-k l =
    Left width l.thirds l.k-iterator.left
    × MovedRows width l.initial.rows l.rows l.i l.j (done l.thirds l.k-iterator.left) (made_at width l.initial.rows l.domains l.others l.i l.j l.ti)
