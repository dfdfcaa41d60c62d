-- `&` of two truth values: `machine-and`.
use Rattle.bounded.proofs.Bool.{machine-and}
use Rattle.pairs_read.proofs.between.Statement.{statement}
use Rattle.pairs_read.proofs.between.Tie as tie

pub between_spec : {M : Type 1} → statement M
between_spec = tie.close (tie.spec (λ c. machine-and _ _))
