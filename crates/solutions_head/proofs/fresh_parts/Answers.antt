use Rattle.std.proofs.Common.{rules}
use Rattle.solutions.specs.Choices.{fresh_parts}
use Rattle.solutions_head.proofs.fresh_parts.Goals as goal

pub returns : goal.returns
unfolding fresh_parts
returns c = c.every.ensures _ (λ i r l m. search rules)
