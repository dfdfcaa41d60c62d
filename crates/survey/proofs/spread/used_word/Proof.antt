-- By the word of those that are left.
use mathlib.Core.Path.{sym, ◌∙◌}
use borrow.Author.Rules.{rules}
use Rattle.survey.proofs.Spreading.{used-left, used-list}
use Rattle.survey.proofs.spread.used_word.Statement.{statement}
use Rattle.survey.proofs.spread.used_word.Tie as tie

returns : tie.Need-returns-then-member
returns c = (used-left _ _ _ _ (sym c.member.ensures ∙ c.if-member.true), c.ranges.used.fits)

returns-2 : tie.Need-returns
returns-2 c = (used-list _ _ _ _ (sym c.member.ensures ∙ c.if-member.false), c.ranges.list.fits)

pub used_word_spec : {M : Type 1} → statement M
used_word_spec = tie.close (tie.spec (λ c κs. search rules) returns returns-2)
