-- `|` goes bit by bit: `Either-is`.
use Rattle.words.proofs.Machine.{machine}
use Rattle.words.proofs.either.Statement.{statement}
use Rattle.words.proofs.either.Tie as tie

returns : tie.Need-returns
returns c = search machine

pub either_spec : {M : Type 1} → statement M
either_spec = tie.close (tie.spec returns)
