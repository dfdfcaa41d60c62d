use Rattle.std.proofs.Common.{rules}
use Rattle.solutions.specs.Choices.{values_kept}
use Rattle.solutions.proofs.values.values_kept.Goals as goal

pub returns : goal.returns
unfolding values_kept
returns c = c.every.ensures _ (λ i r l m. search rules)
