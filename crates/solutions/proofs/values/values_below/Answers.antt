use Rattle.std.proofs.Common.{rules}
use Rattle.solutions.specs.Choices.{values_below}
use Rattle.solutions.proofs.values.values_below.Goals as goal

pub returns : goal.returns
unfolding values_below
returns c = c.every.ensures _ (λ i r l m. search rules)
