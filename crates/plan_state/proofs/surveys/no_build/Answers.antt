use Rattle.std.proofs.Common.{rules}
use Rattle.std.specs.Prelude.{Result, Ok, Err, MatchResult, ◌≡◌, Bool, false, eqb}
use mathlib.Core.Path.{◌∙◌}
use Rattle.cause.specs.declared.Cause.{Cause}
use Rattle.survey.specs.declared.Surveyed.{Surveyed}
use Rattle.state_survey.specs.Survey.{survey_told}
use Rattle.plan_state.specs.Plan.{builds_none}
use Rattle.plan_state.proofs.Laws.{some_build, counted_builds}
use Rattle.plan_state.proofs.surveys.no_build.Goals as goal

either : (survey : Result Surveyed Cause) (answer : Bool) (P : Surveyed → Type 0) → MatchResult survey P (λ c. answer ≡ false)
    → ((a : Surveyed) → P a → answer ≡ eqb a.count 0) → answer ≡ builds_none (survey_told survey)
either (Ok a) answer P h k = k a h ∙ counted_builds a
either (Err c) answer P h k = h ∙ some_build c

pub returns : goal.returns
returns c = either _ _ _ c.is_ok_and.ensures (λ a h. search rules)
