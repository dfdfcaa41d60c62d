-- One byte is stored: `wrote_one`.
use borrow.Author.Rules.{rules}
use Rattle.buffers.proofs.Laws.{wrote_one}
use Rattle.buffers.proofs.put_byte.Statement.{statement}
use Rattle.buffers.proofs.put_byte.Tie as tie

returns : tie.Need-returns
returns c = wrote_one _ _ _ (search rules)

pub put_byte_spec : {M : Type 1} → statement M
put_byte_spec = tie.close (tie.spec (λ c. search rules) (λ c. search rules) (λ c. search rules) returns)
