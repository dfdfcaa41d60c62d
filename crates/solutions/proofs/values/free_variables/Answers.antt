use Rattle.std.proofs.Common.{rules}
use Rattle.solutions.specs.Choices.{free_word}
use Rattle.solutions.proofs.values.free_variables.Goals as goal

pub returns : goal.returns
unfolding free_word
returns c = c.gather.ensures _ (λ i r l m. search rules)
