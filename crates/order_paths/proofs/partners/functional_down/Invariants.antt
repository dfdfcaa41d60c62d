-- The rows of the values that are no longer to come share no value of the domain.
use Rattle.words.specs.Word.{width}
use Rattle.order_paths.proofs.Alone.{Alone}
use Rattle.order_paths.proofs.partners.functional_down.Given as goal

abbrev pub invariant-loop-b : goal.invariant-loop-b
invariant-loop-b l = Alone width l.rows l.i l.j l.di l.dj l.b-iterator.left l.seen
