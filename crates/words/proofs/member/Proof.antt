-- The bit at `v`, moved to the lowest place, tells of `v` alone: `member_is`.
use Rattle.words.proofs.Machine.{machine}
use Rattle.words.proofs.member.Statement.{statement}
use Rattle.words.proofs.member.Tie as tie

cast-result : tie.Need-overflow_cast-result
cast-result c = search machine

shr-result : tie.Need-overflow_shr-result
shr-result c = search machine

returns : tie.Need-returns
returns c = search machine

pub member_spec : {M : Type 1} → statement M
member_spec = tie.close (tie.spec cast-result shr-result returns)
