-- The values that are no longer to come have been found within the bounds.
use Rattle.words.specs.Word.{width}
use Rattle.pairs.proofs.Runs.{Passed}
use Rattle.pairs_read.proofs.partners_within.Given as goal

abbrev pub invariant-loop-a : goal.invariant-loop-a
invariant-loop-a l = Passed width l.rows l.i l.j l.di l.dj l.least l.most l.a-iterator.left
