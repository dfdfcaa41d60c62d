-- What the survey answers of a state, sentence by sentence. Together with the contract of the call, which cites the same `survey_of`, it speaks of the code.
use Rattle.std.specs.Prelude.{true, false, List, ◌↔◌, ◌≡◌, ℕ, ◌≤◌, ◌<◌, min, ltb, length, get_or, replicate}
use Rattle.words.specs.Word.{has}
use Rattle.network.specs.Completion.{NONE, BUILT}
use Rattle.network.specs.Count.{solution_count}
use Rattle.network.specs.Search.{choice_product}
use Rattle.network.specs.Survey.{tied_product, count_limit}
use Rattle.answers.specs.Answers.{says, rules}
use Rattle.state.specs.declared.state.State.{State}
use Rattle.state.specs.View.{Shaped, view, sound_state}
use Rattle.state.specs.Solutions.{tested, verdict_of}
use Rattle.state_survey.specs.Survey.{SurveyTold, survey_number, survey_of}

-- Zero throughout but for a number.
abbrev pub nothing_told : ℕ → SurveyTold
nothing_told number = record { number = number; count = 0; more = false; words = replicate 16 0 }

-- "A build of a state is n bytes to which the tester says yes."
abbrev pub Build : State → List ℕ → Type 0
Build s b = tested s b ≡ says true

-- A build with v at option i.
abbrev pub BuildWith : State → ℕ → ℕ → Type 0
BuildWith s i v = (b : List ℕ) × (Build s b) × (i < s.n) × (get_or b i 0 ≡ v)

pub record Surveys (s : State) : Type 0 where
  -- "refuses with 9" exactly when the state is not sound,
  pub nine_exactly : (survey_number s ≡ 9) ↔ (sound_state s ≡ false)
  -- "then 23 .. when the product of the list sizes of those live options that are stated with another live option exceeds 1,000,000";
  pub twenty_three_exactly : (survey_number s ≡ 23) ↔ ((sound_state s ≡ true) × (1000000 < tied_product (view s)))
  -- and with nothing else.
  pub otherwise_zero : sound_state s ≡ true → tied_product (view s) ≤ 1000000 → survey_number s ≡ 0
  pub number_is : (survey_of s).number ≡ survey_number s
  -- "a refusal is zero throughout"
  pub refusal_zero : 1 ≤ survey_number s → survey_of s ≡ nothing_told (survey_number s)
  -- Else: "how many builds the state has", "capped at 2^64 - 1, and a flag says that there are more",
  pub count_builds : survey_number s ≡ 0 → (survey_of s).count ≡ min (solution_count (view s) (λ (f : ℕ → ℕ). true)) count_limit
  pub more_builds : survey_number s ≡ 0 → (survey_of s).more ≡ ltb count_limit (solution_count (view s) (λ (f : ℕ → ℕ). true))
  -- "and for each option the word of exactly those values that some build has".
  pub sixteen : length (survey_of s).words ≡ 16
  pub value_exactly : survey_number s ≡ 0 → (i v : ℕ) → (has (get_or (survey_of s).words i 0) v ≡ true) ↔ BuildWith s i v
  -- "Zero past n"
  pub past_n : (i : ℕ) → s.n ≤ i → get_or (survey_of s).words i 0 ≡ 0
  -- No build: 0 and empty words. So it is where the verdict is NONE, and then it never refuses.
  pub no_build : survey_number s ≡ 0 → ((b : List ℕ) → Build s b → ⊥) → survey_of s ≡ nothing_told 0
  pub none_nothing : (build : List ℕ) → verdict_of s ≡ rules NONE build → survey_of s ≡ nothing_told 0
  -- Where the verdict is BUILT it never refuses either: the count is the product of the live list sizes, and the words are the lists.
  pub built_all : (build : List ℕ) → verdict_of s ≡ rules BUILT build
      → survey_of s
      ≡ record { number = 0; count = min (choice_product (view s)) count_limit; more = ltb count_limit (choice_product (view s)); words = s.domains }

-- Of every state, sound or not.
unfoldable pub SurveysEvery : Type 0
SurveysEvery = (s : State) → Shaped s → Surveys s
