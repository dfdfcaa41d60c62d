-- `&` and `!` go bit by bit: `without_is`.
use Rattle.words.proofs.Machine.{machine}
use Rattle.words.proofs.without.Statement.{statement}
use Rattle.words.proofs.without.Tie as tie

returns : tie.Need-returns
returns c = search machine

pub without_spec : {M : Type 1} → statement M
without_spec = tie.close (tie.spec returns)
