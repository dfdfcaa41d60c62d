use Rattle.std.proofs.Common.{rules}
use mathlib.Core.Path.{refl}
use Rattle.bounded.proofs.Fold.{test-joins}
use Rattle.bounded.specs.Fold.{every}
use Rattle.folds.proofs.every.Goals as goal

pub loop-i-init : goal.loop-i-init
unfolding every
loop-i-init g c = λ p h. refl

pub loop-i-preserved : goal.loop-i-preserved
loop-i-preserved g c = λ p h. test-joins p _ (c.loop-i.invariant p h) (h _ _ (search rules) c.test-all.ensures)
