-- A tied variable, and the ones of its domain.
use mathlib.Core.Path.{sym, ◌∙◌}
use borrow.Author.Rules.{rules}
use Rattle.survey.proofs.Settling.{single-none, single-some}
use Rattle.survey.proofs.settle.is_single.Statement.{statement}
use Rattle.survey.proofs.settle.is_single.Tie as tie

returns : tie.Need-returns-then-not-member
returns c = single-none _ _ _ (sym c.member.ensures ∙ c.if-not-member.true)

returns-2 : tie.Need-returns
returns-2 c = single-some _ _ _ (sym c.member.ensures ∙ c.if-not-member.false) c.count.ensures

pub is_single_spec : {M : Type 1} → statement M
is_single_spec = tie.close (tie.spec (λ c κs. search rules) returns (λ c κs. search rules) returns-2)
