-- The byte as a number.
use mathlib.Core.Path.{ap, ◌∙◌}
use borrow.Author.Rules.{rules}
use Rattle.words.specs.Word.{has}
use Rattle.solutions.proofs.values.has_value.Statement.{statement}
use Rattle.solutions.proofs.values.has_value.Tie as tie

returns : tie.Need-returns
returns c = c.has_number.ensures ∙ ap (has _) c.wide.ensures

pub has_value_spec : {M : Type 1} → statement M
has_value_spec = tie.close (tie.spec (λ c κs. search rules) (λ c κs. search rules) returns)
