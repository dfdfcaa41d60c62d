-- The rows of the values that are no longer to come have been joined.
use Rattle.std.proofs.Common.{◌≡◌, ◌^◌, ◌<◌}
use Rattle.words.specs.Word.{width}
use Rattle.pairs.proofs.Runs.{union_but, Within}
use Rattle.pairs.proofs.run.union.Given as goal

abbrev pub invariant-loop-a : goal.invariant-loop-a
invariant-loop-a l = (l.a-iterator.left < 2 ^ width) × Within l.a-iterator.left l.set × (l.all ≡ union_but width l.rows l.at l.set l.a-iterator.left)
