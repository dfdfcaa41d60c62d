-- A word is below 2 ^ k exactly when no bit at or above k is set: `within-is`.
use Rattle.words.proofs.Machine.{machine}
use Rattle.words.proofs.within.Statement.{statement}
use Rattle.words.proofs.within.Tie as tie

pub within_spec : {M : Type 1} → statement M
within_spec = tie.close (tie.spec (λ c. search machine) (λ c. search machine))
