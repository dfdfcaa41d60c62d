-- A variable of one value keeps no pair.
use mathlib.Core.Path.{sym, ◌∙◌}
use borrow.Author.Rules.{rules}
use Rattle.survey.proofs.Settling.{unstated-single, unstated-other}
use Rattle.survey.proofs.settle.unstated_word.Statement.{statement}
use Rattle.survey.proofs.settle.unstated_word.Tie as tie

returns : tie.Need-returns-then-member
returns c = unstated-single _ _ _ (sym c.member.ensures ∙ c.if-member.true)

returns-2 : tie.Need-returns
returns-2 c = unstated-other _ _ _ (sym c.member.ensures ∙ c.if-member.false) c.without.ensures

pub unstated_word_spec : {M : Type 1} → statement M
unstated_word_spec = tie.close (tie.spec (λ c κs. search rules) returns (λ c κs. search rules) returns-2)
