-- `x - 1` lacks the lowest member of `x` alone, of those that `x` has: `dropped-is`.
use Rattle.words.proofs.Machine.{machine}
use Rattle.words.proofs.Laws.{dropped-is}
use Rattle.words.proofs.dropped.Statement.{statement}
use Rattle.words.proofs.dropped.Tie as tie

pub dropped_spec : {M : Type 1} → statement M
dropped_spec = tie.close (tie.spec (λ c. search machine) (λ c. dropped-is 32 _ c.ranges.x.fits c.requires))
