-- One less than a power of two has all bits below the exponent set: `Full-is`, and `full-fits` for 32, where the power itself does not fit a `u32`.
use Rattle.words.proofs.Machine.{machine}
use Rattle.words.proofs.full.Statement.{statement}
use Rattle.words.proofs.full.Tie as tie

pub full_spec : {M : Type 1} → statement M
full_spec = tie.close (tie.spec (λ c. search machine) (λ c. search machine) (λ c. search machine) (λ c. search machine))
