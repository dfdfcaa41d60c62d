-- What the survey of a sound state promises.
use Rattle.std.specs.Prelude.{◌≡◌, ℕ, min, ltb}
use Rattle.bounded.specs.Table.{tabulate}
use Rattle.words.specs.Word.{width, word}
use Rattle.network.specs.Network.{Network}
use Rattle.network.specs.Survey.{surveyed, count_limit}
use Rattle.pairs.specs.Pairs.{variables}
use Rattle.survey.specs.declared.Surveyed.{Surveyed}

-- "how many builds the state has, and for each option the word of exactly those values that some build has. The count is capped at 2^64 - 1, and a flag says
-- that there are more."
pub record SurveyedIn (N : Network) (r : Surveyed) : Type 0 where
  pub count_is : r.count ≡ min (surveyed N).count count_limit
  pub more_is : r.more ≡ ltb count_limit (surveyed N).count
  pub words_are : r.words ≡ tabulate variables (λ (i : ℕ). word width ((surveyed N).used i))
