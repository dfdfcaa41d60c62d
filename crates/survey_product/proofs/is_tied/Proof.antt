-- A free variable whose word meets that of the free ones.
use mathlib.Core.Path.{sym, ◌∙◌}
use borrow.Author.Rules.{rules}
use Rattle.survey_product.proofs.Ties.{tied-none, tied-some}
use Rattle.survey_product.proofs.is_tied.Statement.{statement}
use Rattle.survey_product.proofs.is_tied.Tie as tie

returns : tie.Need-returns-then-not-member
returns c = tied-none _ _ _ (sym c.member.ensures ∙ c.if-not-member.true)

returns-2 : tie.Need-returns
returns-2 c = tied-some _ _ _ _ (sym c.member.ensures ∙ c.if-not-member.false) c.both.ensures

pub is_tied_spec : {M : Type 1} → statement M
is_tied_spec = tie.close (tie.spec (λ c κs. search rules) returns (λ c κs. search rules) returns-2)
