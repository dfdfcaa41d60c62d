-- `&` goes bit by bit: `meets-is`.
use Rattle.pairs.proofs.Runs.{meets-is}
use Rattle.pairs.proofs.run.meets.Statement.{statement}
use Rattle.pairs.proofs.run.meets.Tie as tie

pub meets_spec : {M : Type 1} → statement M
meets_spec = tie.close (tie.spec (λ c. meets-is 32 _ _ c.ranges.x.fits))
