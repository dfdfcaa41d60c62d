-- Trailing zeros of row AND domain name the lowest partner.
use borrow.Author.Rules.{rules}
use Rattle.solutions.specs.Choices.{partner_of}
use Rattle.solutions.proofs.Choices.{partner-found}
use Rattle.solutions.proofs.values.partner_of.Statement.{statement}
use Rattle.solutions.proofs.values.partner_of.Tie as tie

returns : tie.Need-returns
unfolding partner_of
returns c = partner-found 32 _ _ c.row.ensures c.both.ensures c.lowest_value.ensures

pub partner_of_spec : {M : Type 1} → statement M
partner_of_spec = tie.close (tie.spec (λ c κs. search rules) (λ c κs. search rules) (λ c κs. search rules) returns)
