-- A 1 moved to the place of `v`, which is below 32, is not lost: `single-is`.
use Rattle.words.proofs.Machine.{machine}
use Rattle.words.proofs.single.Statement.{statement}
use Rattle.words.proofs.single.Tie as tie

cast-result : tie.Need-overflow_cast-result
cast-result c = search machine

shl-result : tie.Need-overflow_shl-result
shl-result c = search machine

returns : tie.Need-returns
returns c = search machine

pub single_spec : {M : Type 1} → statement M
single_spec = tie.close (tie.spec cast-result shl-result returns)
