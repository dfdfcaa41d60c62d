-- What the planning table promises, about the bytes of the sheet. Together with the contract of `plan_into`, which cites the same `plan_text`, it speaks of
-- what is printed.
use Rattle.std.specs.Prelude.{Bool, true, false, Option, None, Some, List, [], ◌∷◌, ◌++◌, ◌≡◌, ℕ, ◌<◌, length, get_or, take}
use Rattle.bounded.specs.Bool.{and, if}
use Rattle.words.specs.Word.{has}
use Rattle.network.specs.Completion.{NONE, BUILT, follow, allowed_choice}
use Rattle.network.specs.Calls.{Call, full_reduction, trimmed_reduction, led_reduction, add_table}
use Rattle.format.specs.Parse.{Octets}
use Rattle.format.specs.Builds.{options, is_build_of}
use Rattle.answers.specs.Answers.{rules}
use Rattle.state.specs.declared.state.State.{State}
use Rattle.state.specs.View.{view}
use Rattle.state.specs.Read.{read_sheet}
use Rattle.state.specs.Steps.{led}
use Rattle.state.specs.Solutions.{values_of, completed_buffer, verdict_of}
use Rattle.state_survey.specs.Survey.{survey_number, survey_of}
use Rattle.promise.specs.Promise.{last_state, build_count}
use Rattle.meter_rule.specs.PageNine.{page_nine}
use Rattle.meter.specs.Fitted.{fitted}
use Rattle.meter.specs.Promise.{keeps_page_nine}
use Rattle.plan_lines.specs.Lines.{idle_word}
use Rattle.plan_ifs.specs.Ifs.{leads}
use Rattle.plan_state.specs.Plan.{condition_lines, state_text}
use Rattle.plan_text.specs.declared.Ask.{Ask}
use Rattle.plan_text.specs.Text.{plan_text}

-- The calls that are made on the sheet, in their order: the leader that is named, page nine (L7: "adds this as a table, reduces fully"), and the reductions.
unfoldable pub calls_to_lead : Option ℕ → List Call
calls_to_lead None = []
calls_to_lead (Some leader) = led_reduction leader ∷ []

unfoldable pub lead_calls : Ask → List Call
lead_calls ask = calls_to_lead ask.lead

unfoldable pub page_calls : Ask → List Call
page_calls ask = if ask.page9 (add_table 1 2 page_nine ∷ full_reduction ∷ []) []

unfoldable pub calls_of : Ask → List Call
calls_of ask = lead_calls ask ++ (page_calls ask ++ (full_reduction ∷ trimmed_reduction ∷ []))

-- The builds that the table speaks of: those of the sheet, and with --page9 those of them that keep page nine.
unfoldable pub build_for : Ask → List ℕ → List ℕ → Bool
build_for ask bytes b = if ask.page9 (and (is_build_of bytes b) (keeps_page_nine b)) (is_build_of bytes b)

-- Nothing is refused: neither the sheet, nor the leader, nor page nine.
pub record Accepted (ask : Ask) (bytes : List ℕ) : Type 0 where
  pub sheet_read : (read_sheet bytes).number ≡ 0
  pub leader_led : (leader : ℕ) → ask.lead ≡ Some leader → (led (read_sheet bytes).state leader).number ≡ 0
  pub page_added : ask.page9 ≡ true → (fitted (last_state bytes (lead_calls ask))).number ≡ 0

module _ (ask : Ask) (bytes : List ℕ) where
  -- The state that the table tells of.
  abbrev pub planned : State
  planned = last_state bytes (calls_of ask)

  -- The word that is printed as USED.
  abbrev pub used_word : ℕ → ℕ
  used_word i = get_or (survey_of planned).words i 0

  pub record PlanPromise : Type 0 where
    -- What is printed is the table of that state.
    pub text_is : plan_text ask bytes ≡ state_text planned
    -- "USED j VALUES v v ..: exactly the values that some build has":
    pub used_some : survey_number planned ≡ 0 → (i v : ℕ) → has (used_word i) v ≡ true
        → (b : List ℕ) × (build_for ask bytes b ≡ true) × (i < options bytes) × (get_or b i 0 ≡ v)
    -- "IDLE j VALUES v v ..: the others below the size: stock nothing": no build has such a value.
    pub idle_none : survey_number planned ≡ 0 → (i v : ℕ) → has (idle_word (get_or planned.sizes i 0) (used_word i)) v ≡ true
        → (b : List ℕ) → build_for ask bytes b ≡ true → i < options bytes → get_or b i 0 ≡ v → ⊥
    -- Nor has one where the survey is refused: what MAYBE leaves out is outside the list.
    pub idle_maybe : (i v : ℕ) → has (idle_word (get_or planned.sizes i 0) (get_or planned.domains i 0)) v ≡ true
        → (b : List ℕ) → build_for ask bytes b ≡ true → i < options bytes → get_or b i 0 ≡ v → ⊥
    -- "BUILDS k" without OVER is the number of those builds.
    pub builds_number : survey_number planned ≡ 0 → (survey_of planned).more ≡ false → (survey_of planned).count ≡ build_count bytes (calls_of ask)
    -- "IF i a THEN j b ..": b is what the completer writes for j wherever i has a.
    pub followers : (b : List ℕ) → length b ≡ options bytes → allowed_choice (view planned) (values_of b) ≡ true
        → (i j : ℕ) → leads (view planned) i j ≡ true → get_or (completed_buffer planned b) j 0 ≡ follow (view planned) j (get_or b i 0)
    -- "with NONE: no IF line"
    pub none_conditions : (build : List ℕ) → verdict_of planned ≡ rules NONE build → condition_lines (view planned) (survey_of planned) ≡ []
    -- A build that is shown is one of them: with --page9 it keeps page nine.
    pub shown_build : (build : List ℕ) → verdict_of planned ≡ rules BUILT build → build_for ask bytes (take (options bytes) build) ≡ true

-- Of every sheet and everything asked, where nothing is refused.
unfoldable pub PlansEvery : Type 0
PlansEvery = (ask : Ask) (bytes : List ℕ) → Octets bytes → Accepted ask bytes → PlanPromise ask bytes
