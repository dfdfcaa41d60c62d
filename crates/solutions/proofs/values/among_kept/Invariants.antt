-- The variables that are no longer to come go with i. The first that does not decides.
use Rattle.std.proofs.Common.{get_or}
use Rattle.words.specs.Word.{width}
use Rattle.pairs.specs.Pairs.{allows_of}
use Rattle.solutions.proofs.Choices.{Seen}
use Rattle.solutions.proofs.values.among_kept.Given as goal

abbrev pub invariant-loop-j : goal.invariant-loop-j
invariant-loop-j l = Seen width l.among (λ j. allows_of width l.rows l.i j (get_or l.values l.i 0) (get_or l.values j 0)) l.j-iterator.left
