-- Between two turns. A turn takes the lowest of what is left: `turn_more`, `turn-less`. In the end nothing is: `trimming-end`.
use Rattle.step_live.proofs.Turn.{Trimming, work}
use Rattle.step_live.proofs.trim_live.Given as goal

abbrev pub invariant-loop-left : goal.invariant-loop-left
invariant-loop-left l = Trimming l.head l.rows l.lists l.left

abbrev pub decreases-loop-left : goal.decreases-loop-left
decreases-loop-left l = work l.head l.rows l.lists l.left
