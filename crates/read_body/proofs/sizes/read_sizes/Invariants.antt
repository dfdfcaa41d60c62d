-- The sizes before the `i`th stand in the array, and the next is at `at`.
use Rattle.read_body.proofs.SizesLoop.{SizesSoFar}
use Rattle.read_body.proofs.sizes.read_sizes.Given as goal

abbrev pub invariant-loop-i : goal.invariant-loop-i
invariant-loop-i l = SizesSoFar l.bytes l.n l.most l.sizes l.at l.i
