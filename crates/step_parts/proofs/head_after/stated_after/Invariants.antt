-- What is no longer to come is as it is to be. A turn does a third variable more.
use Rattle.words.specs.Word.{width}
use Rattle.step_parts.proofs.Thirds.{Left}
use Rattle.step_parts.proofs.StepArrays.{Linked}
use Rattle.step_parts.proofs.head_after.stated_after.Given as goal

abbrev pub invariant-loop-k : goal.invariant-loop-k
invariant-loop-k l = Left width l.thirds l.k-iterator.left × Linked width l.stated l.thirds l.i l.j l.after l.k-iterator.left
