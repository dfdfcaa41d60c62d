-- A follower's value is not looked at.
use mathlib.Core.Path.{◌∙◌}
use Rattle.solutions.proofs.Choices.{value-led, value-live}
use borrow.Author.Rules.{rules}
use Rattle.solutions.proofs.values.value_kept.Statement.{statement}
use Rattle.solutions.proofs.values.value_kept.Tie as tie

returns : tie.Need-returns-then-leader-ne0
returns c = value-led _ _ _ c.if-leader-ne0.true

returns-2 : tie.Need-returns
returns-2 c = c.has_value.ensures ∙ value-live _ _ _ c.if-leader-ne0.false

pub value_kept_spec : {M : Type 1} → statement M
value_kept_spec = tie.close (tie.spec returns (λ c κs. search rules) returns-2)
