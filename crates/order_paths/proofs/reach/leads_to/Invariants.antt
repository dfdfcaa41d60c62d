-- Of the variables that are no longer to come, those to which the table is functional are kept.
use lib.ListN.{get_or}
use Rattle.words.specs.Word.{width}
use Rattle.pairs.specs.Pairs.{partners_within}
use Rattle.order_paths.proofs.Members.{Kept}
use Rattle.order_paths.proofs.reach.leads_to.Given as goal

abbrev pub invariant-loop-j : goal.invariant-loop-j
invariant-loop-j l =
    Kept width l.stated (λ j. partners_within width l.rows l.i j (get_or l.domains l.i 0) (get_or l.domains j 0) 0 1) l.j-iterator.left l.found
