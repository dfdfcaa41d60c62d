use Rattle.std.proofs.Common.{rules}
use mathlib.Core.Path.{sym}
use native.Mathlib.Omega.{arith}
use lib.Pow.{pow_mono}
use Rattle.words.proofs.Laws.{word-zero}
use Rattle.folds.proofs.Bits.{bit-joins}
use Rattle.folds.proofs.gather.Goals as goal

pub loop-i-init : goal.loop-i-init
loop-i-init g c = λ p h. sym (word-zero _)

pub loop-i-preserved : goal.loop-i-preserved
loop-i-preserved g c = λ p h. bit-joins 4294967296 p _ (pow_mono {j = 32} (omega arith)) (c.loop-i.invariant p h) (h _ _ (search rules) c.test.ensures)
