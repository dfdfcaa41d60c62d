-- One of the others counts the values of its list.
use mathlib.Core.Path.{sym, ◌∙◌}
use borrow.Author.Rules.{rules}
use Rattle.survey.proofs.Spreading.{besides-one, besides-list}
use Rattle.survey.proofs.spread.besides.Statement.{statement}
use Rattle.survey.proofs.spread.besides.Tie as tie

returns : tie.Need-returns-then-not-member
returns c = besides-one _ _ _ (sym c.member.ensures ∙ c.if-not-member.true)

returns-2 : tie.Need-returns
returns-2 c = c.count.ensures ∙ besides-list _ _ _ (sym c.member.ensures ∙ c.if-not-member.false)

pub besides_spec : {M : Type 1} → statement M
besides_spec = tie.close (tie.spec (λ c κs. search rules) returns (λ c κs. search rules) returns-2)
