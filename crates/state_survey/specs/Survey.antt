-- The survey of a state: how many builds it has, and which values they have.
use Rattle.std.specs.Prelude.{Bool, true, false, List, ℕ, eqb, replicate, Result, Ok, Err}
use Rattle.bounded.specs.Bool.{not, if}
use Rattle.bounded.specs.Table.{tabulate}
use Rattle.words.specs.Word.{width, word}
use Rattle.network.specs.Survey.{used_value, survey_refusal, capped_count, more_than_count}
use Rattle.cause.specs.declared.Cause.{Cause}
use Rattle.cause.specs.Number.{number_of}
use Rattle.survey.specs.declared.Surveyed.{Surveyed}
use Rattle.state.specs.declared.state.State.{State}
use Rattle.state.specs.View.{view, sound_state}

-- What is told: the number that refuses, or 0; "how many builds the state has" and the flag that "there are more"; and for each option the word of values.
pub record SurveyTold : Type 0 where
  pub number : ℕ
  pub count : ℕ
  pub more : Bool
  pub words : List ℕ

unfoldable pub survey_told : Result Surveyed Cause → SurveyTold
survey_told (Ok r) = record { number = 0; count = r.count; more = r.more; words = r.words }
survey_told (Err c) = record { number = number_of c; count = 0; more = false; words = replicate 16 0 }

-- It "refuses with 9; then 23", and else 0.
unfoldable pub survey_number : State → ℕ
survey_number s = if (not (sound_state s)) 9 (survey_refusal (view s))

-- "how many builds the state has, and for each option the word of exactly those values that some build has. The count is capped at 2^64 - 1, and a flag says
-- that there are more. Zero past n; a refusal is zero throughout."
unfoldable pub survey_of : State → SurveyTold
survey_of s =
    if (eqb (survey_number s) 0)
    (record {
      number = 0;
      count = capped_count (view s);
      more = more_than_count (view s);
      words = tabulate 16 (λ (i : ℕ). word width (used_value (view s) (λ (f : ℕ → ℕ). true) i));
    })
    (record { number = survey_number s; count = 0; more = false; words = replicate 16 0 })
