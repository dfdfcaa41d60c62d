-- The same fields.
use borrow.Author.Rules.{rules}
use Rattle.bins_text.specs.Machine.{taken}
use Rattle.bins_text.proofs.take.Statement.{statement}
use Rattle.bins_text.proofs.take.Tie as tie

returns : tie.Need-returns
unfolding taken
returns c = rw c.up.ensures

pub take_spec : {M : Type 1} → statement M
take_spec = tie.close (tie.spec (λ c. search rules) (λ c. search rules) (λ c κs. search rules) (λ c. search rules) returns)
