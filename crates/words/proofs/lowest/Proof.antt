-- The zeros below the lowest set bit count up to the lowest member: `trailing-first`.
use Rattle.words.proofs.Machine.{machine}
use Rattle.words.proofs.lowest.Statement.{statement}
use Rattle.words.proofs.lowest.Tie as tie

cast-result : tie.Need-overflow_cast-result
cast-result c = search machine

returns : tie.Need-returns
returns c = search machine

pub lowest_spec : {M : Type 1} → statement M
lowest_spec = tie.close (tie.spec cast-result returns)
