-- `&` goes bit by bit: `both_is`.
use Rattle.words.proofs.Machine.{machine}
use Rattle.words.proofs.both.Statement.{statement}
use Rattle.words.proofs.both.Tie as tie

returns : tie.Need-returns
returns c = search machine

pub both_spec : {M : Type 1} → statement M
both_spec = tie.close (tie.spec returns)
