use Rattle.std.proofs.Common.{rules}
use Rattle.survey.specs.Settle.{single_word}
use Rattle.survey.proofs.settle.single_variables.Goals as goal

pub returns : goal.returns
unfolding single_word
returns c = c.gather.ensures _ (λ i r l m. search rules)
