use Rattle.std.proofs.Common.{rules}
use Rattle.solutions.specs.Choices.{domains_open}
use Rattle.solutions_head.proofs.domains_open.Goals as goal

pub returns : goal.returns
unfolding domains_open
returns c = c.every.ensures _ (λ i r l m. search rules)
