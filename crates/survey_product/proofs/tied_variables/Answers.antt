use Rattle.std.proofs.Common.{rules}
use Rattle.survey_product.specs.Tied.{tied_word}
use Rattle.survey_product.proofs.tied_variables.Goals as goal

pub returns : goal.returns
unfolding tied_word
returns c = c.gather.ensures _ (λ i r l m. search rules)
