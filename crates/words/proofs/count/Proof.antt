-- The set bits are the members: `ones-count`.
use Rattle.words.proofs.Machine.{machine}
use Rattle.words.proofs.count.Statement.{statement}
use Rattle.words.proofs.count.Tie as tie

cast-result : tie.Need-overflow_cast-result
cast-result c = search machine

returns : tie.Need-returns
returns c = search machine

pub count_spec : {M : Type 1} → statement M
count_spec = tie.close (tie.spec cast-result returns)
