-- Demand 3: "What demand 3 counts" of document 01, sentence by sentence, with what document 02 adds to it. Together with the contracts of the calls, which cite the same definitions
-- (`read_sheet`, `stepped`, `reduced`, `table_added`, `tested`, `complete_number`, `completed_buffer`, `verdict_of`, `search_of`, `survey_of`), it speaks of the code.
use Rattle.std.specs.Prelude.{Bool, true, false, List, [], ◌∷◌, ◌++◌, ◌↔◌, ◌≡◌, ℕ, ◌+◌, ◌<◌, min, eqb, ltb, length, get_or, take, replicate}
use Rattle.bounded.specs.Bool.{and, if}
use Rattle.words.specs.Word.{has}
use Rattle.network.specs.Network.{Network, free}
use Rattle.network.specs.Reduction.{free_count}
use Rattle.network.specs.Completion.{Verdict, NONE, BUILT, allowed_choice, decided}
use Rattle.network.specs.Search.{precedes}
use Rattle.network.specs.Count.{count_tuples, choice_count}
use Rattle.network.specs.Survey.{count_limit}
use Rattle.network.specs.Sheet.{Table, Sheet, network_of}
use Rattle.network.specs.Calls.{Call, after, tables_of, keeps_to, tableless}
use Rattle.format.specs.Parse.{Octets, Parse, got, bad, parse}
use Rattle.format.specs.Builds.{options, option_size, is_a_build, is_build_of}
use Rattle.state.specs.declared.state.State.{State}
use Rattle.state.specs.View.{view, pack, state_of_zeros}
use Rattle.answers.specs.Answers.{says, VerdictTold, rules}
use Rattle.state.specs.Read.{read_sheet}
use Rattle.state.specs.Calls.{called}
use Rattle.state.specs.Solutions.{values_of, tested, complete_number, completed_buffer, verdict_of, search_number, search_of}
use Rattle.state_survey.specs.Survey.{survey_number, survey_of}

-- "Each call gets the state that the one before it handed back; a refused call hands back what it was given, and nobody else changes it meanwhile."
unfoldable pub state_handed_back : State → Call → State
state_handed_back s c = (called s c).state

unfoldable pub state_after : State → List Call → State
state_after s [] = s
state_after s (c ∷ cs) = state_after (state_handed_back s c) cs

-- The table that a call adds to the sheet, read off the call and its answer: one that was not refused.
unfoldable pub adds_to : State → Call → List Table
adds_to s c = if (eqb (called s c).number 0) (tables_of c) []

-- "the tables that calls not refused added" (document 02)
unfoldable pub tables_added : State → List Call → List Table
tables_added s [] = []
tables_added s (c ∷ cs) = adds_to s c ++ tables_added (state_handed_back s c) cs

-- The network of an accepted sheet.
unfoldable pub network_read : Parse Sheet → Network
network_read (got s next) = network_of s
network_read (bad c at) = view state_of_zeros

-- The kind of a verdict is k, whatever solution is shown.
unfoldable pub ruled_as : Verdict → VerdictTold → Type 0
ruled_as k v = (build : List ℕ) × (v ≡ rules k build)

module _ (bytes : List ℕ) (cs : List Call) where
  -- "It starts from the state that the reader returned for the accepted sheet." "On the state handed back last":
  unfoldable pub last_state : State
  last_state = state_after (read_sheet bytes).state cs

  -- "Live options, options' lists and pairs are those that the rules above give from the sheet, call by call."
  unfoldable pub last_network : Network
  last_network = after (network_read (parse bytes)) cs

  -- All tables that the calls added to the sheet.
  unfoldable pub last_tables : List Table
  last_tables = tables_added (read_sheet bytes).state cs

  -- "A build of a sheet is read off its bytes alone", and "builds are counted against the accepted sheet together with the tables that calls not refused
  -- added" (document 02).
  unfoldable pub build_of_sheet : List ℕ → Bool
  build_of_sheet build = and (is_build_of bytes build) (keeps_to last_tables (values_of build))

  -- "Choices are told apart by the values of live options, builds by their n bytes": builds are counted over all tuples below the sizes.
  unfoldable pub build_count : ℕ
  build_count =
      count_tuples (options bytes) (λ (i : ℕ). option_size bytes (i + 1))
      (λ (f : ℕ → ℕ). and (is_a_build bytes f) (keeps_to last_tables f))

  -- Two buffers have the same values at the free variables.
  abbrev pub SameFree : List ℕ → List ℕ → Type 0
  SameFree b c = (i : ℕ) → i < options bytes → free last_network i ≡ true → get_or b i 0 ≡ get_or c i 0

  -- The verdict is BUILT, "and the first n bytes shown are a build of the sheet".
  abbrev pub ShowsBuild : Type 0
  ShowsBuild = (build : List ℕ) × (verdict_of last_state ≡ rules BUILT build) × (build_of_sheet (take (options bytes) build) ≡ true)

  -- The search "finds the first build, live options compared in ascending number and lower values first" (document 02).
  abbrev pub FindsFirst : Type 0
  FindsFirst =
      (build : List ℕ) × (search_of last_state ≡ rules BUILT build)
      × (build_of_sheet (take (options bytes) build) ≡ true)
      × ((c : List ℕ) → build_of_sheet c ≡ true → precedes last_network (values_of c) (values_of (take (options bytes) build)) ≡ false)

  pub record Promise : Type 0 where
    -- The state handed back last is the one of that network.
    pub packed : last_state ≡ pack last_network
    -- "the tester says yes to a buffer exactly when its bytes are a build of the sheet"
    pub tester : (b : List ℕ) → (tested last_state b ≡ says true) ↔ (build_of_sheet b ≡ true)
    -- "From every allowed choice the completer gives a build of the sheet": for n bytes that are an allowed choice at the free variables,
    -- whatever the others hold, it does not refuse, keeps the bytes of free variables,
    pub completer_accepts : (b : List ℕ) → length b ≡ options bytes → allowed_choice last_network (values_of b) ≡ true → complete_number last_state b ≡ 0
    pub completer_keeps : (b : List ℕ) → length b ≡ options bytes → allowed_choice last_network (values_of b) ≡ true
        → SameFree (completed_buffer last_state b) b
    -- and leaves a build of the sheet,
    pub completer_builds : (b : List ℕ) → length b ≡ options bytes → allowed_choice last_network (values_of b) ≡ true
        → build_of_sheet (completed_buffer last_state b) ≡ true
    -- "and no other build of the sheet has these values at the live options".
    pub completer_only : (b c : List ℕ) → length b ≡ options bytes → allowed_choice last_network (values_of b) ≡ true
        → build_of_sheet c ≡ true → SameFree c b → c ≡ completed_buffer last_state b
    -- "the number of allowed choices equals the number of builds of the sheet"
    pub counted : choice_count last_network ≡ build_count
    -- "the verdict is NONE only when the sheet has no build."
    pub none_only : ruled_as NONE (verdict_of last_state) → (b : List ℕ) → build_of_sheet b ≡ false
    -- "what demand 3 says of the verdict with one live option, NONE and the build shown alike, now holds wherever no two live options are stated
    -- together" (document 02): "it is NONE exactly when the sheet has no build,
    pub none_when : decided last_network ≡ true → ((b : List ℕ) → build_of_sheet b ≡ false) → ruled_as NONE (verdict_of last_state)
    -- and otherwise BUILT, and the first n bytes shown are a build of the sheet."
    pub built : decided last_network ≡ true → (ruled_as NONE (verdict_of last_state) → ⊥) → ShowsBuild
    -- "It says none exactly when the state has no build, and so, for a state that demand 3's list of calls hands back, the sheet with its added tables has
    -- none" (document 02): the search, where it does not refuse,
    pub search_none : search_number last_state ≡ 0 → (search_of last_state ≡ rules NONE (replicate 16 0)) ↔ ((b : List ℕ) → build_of_sheet b ≡ false)
    -- and otherwise it shows the first build of the sheet with its added tables.
    pub search_first : search_number last_state ≡ 0 → (search_of last_state ≡ rules NONE (replicate 16 0) → ⊥) → FindsFirst
    -- The survey, where it does not refuse, tells "how many builds" the sheet with its added tables has, "capped at 2^64 - 1, and a flag says that there are more":
    pub survey_count : survey_number last_state ≡ 0 → (survey_of last_state).count ≡ min build_count count_limit
    pub survey_more : survey_number last_state ≡ 0 → (survey_of last_state).more ≡ ltb count_limit build_count
    -- and "exactly those values that some build has": a value in the word of option i is that of some build of the sheet,
    pub survey_inside : survey_number last_state ≡ 0 → (i v : ℕ) → has (get_or (survey_of last_state).words i 0) v ≡ true
        → (b : List ℕ) × (build_of_sheet b ≡ true) × (i < options bytes) × (get_or b i 0 ≡ v)
    -- and one outside it is that of none.
    pub survey_outside : survey_number last_state ≡ 0 → (i v : ℕ) → has (get_or (survey_of last_state).words i 0) v ≡ false
        → (b : List ℕ) → build_of_sheet b ≡ true → i < options bytes → get_or b i 0 ≡ v → ⊥

  -- Without added tables builds are those of the sheet's bytes, and all of the promise is document 01's own (`tables-none`).
  pub record WithoutTables : Type 0 where
    pub same_builds : tableless cs ≡ true → (b : List ℕ) → build_of_sheet b ≡ is_build_of bytes b
    pub same_count : tableless cs ≡ true → build_count ≡ count_tuples (options bytes) (λ (i : ℕ). option_size bytes (i + 1)) (is_a_build bytes)

  -- One free variable is such a case, and so document 01's own sentence still holds (`one_live`): "With exactly one live option it is NONE exactly when the
  -- sheet has no build, and otherwise BUILT, and the first n bytes shown are a build of the sheet."
  pub record OneLive : Type 0 where
    pub none_exactly : free_count last_network ≡ 1 → ruled_as NONE (verdict_of last_state) ↔ ((b : List ℕ) → build_of_sheet b ≡ false)
    pub built_otherwise : free_count last_network ≡ 1 → (ruled_as NONE (verdict_of last_state) → ⊥) → ShowsBuild

-- Demand 3, whole: "Take any accepted sheet. For every list of follow steps and full reductions asked of it, in any order, refused ones included", and
-- of added tables: "such calls belong to demand 3's list too, refused ones included" (document 02).
unfoldable pub Demand3 : Type 0
Demand3 = (bytes : List ℕ) → Octets bytes → (read_sheet bytes).number ≡ 0 → (cs : List Call) → Promise bytes cs
