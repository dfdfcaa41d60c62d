-- The values of all but those that are still to come have narrowed the lists.
use Rattle.survey.proofs.Settling.{SettlingTo}
use Rattle.survey.proofs.settle.narrow_lists.Given as goal

abbrev pub invariant-loop-i : goal.invariant-loop-i
invariant-loop-i l = SettlingTo l.rows l.singles l.domains l.stated l.initial.lists l.lists l.i-iterator.left
