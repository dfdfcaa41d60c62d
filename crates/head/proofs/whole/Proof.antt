use Rattle.head.proofs.Held.{shape}
use Rattle.head.proofs.whole.Statement.{statement}
use Rattle.head.proofs.whole.Tie as tie

pub whole_spec : {M : Type 1} → statement M
whole_spec = tie.close (tie.spec (λ c. search shape))
