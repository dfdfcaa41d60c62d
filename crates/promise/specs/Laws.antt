-- What a layer above the sheets leans on: laws of any sound state that speak of what the calls answer, and not of how a state is held. A build is what the
-- tester says yes to.
use Rattle.std.specs.Prelude.{Bool, true, false, List, [], ◌∷◌, ◌++◌, ◌≡◌, ℕ, pred, ◌≤◌, ◌<◌, length, get_or, take}
use Rattle.bounded.specs.Bool.{and}
use Rattle.words.specs.Word.{has}
use Rattle.network.specs.Completion.{NONE, BUILT, decided}
use Rattle.network.specs.Calls.{Call, full_reduction, add_table}
use Rattle.format.specs.Parse.{Octets}
use Rattle.format.specs.Builds.{options}
use Rattle.state.specs.declared.state.State.{State}
use Rattle.state.specs.View.{Shaped, view, sound_state}
use Rattle.answers.specs.Answers.{test_agrees, rules}
use Rattle.state.specs.Read.{read_sheet}
use Rattle.state.specs.Steps.{reduced}
use Rattle.state.specs.Tables.{table_added}
use Rattle.state.specs.Solutions.{tested, verdict_of}
use Rattle.promise.specs.Promise.{ruled_as, last_state, build_of_sheet}

-- "A build of a state is n bytes to which the tester says yes."
unfoldable pub build_of : State → List ℕ → Bool
build_of s b = test_agrees (tested s b)

-- The row of the build's value of x has the bit of its value of y, variables counted from 1.
unfoldable pub keeps_to_rows : ℕ → ℕ → List ℕ → List ℕ → Bool
keeps_to_rows x y rows b = has (get_or rows (get_or b (pred x) 0) 0) (get_or b (pred y) 0)

-- t is handed back for the sound state s by a call that is not refused: it is sound too, and has of the builds of s those that p lets pass.
pub record HandedOn (s t : State) (p : List ℕ → Bool) : Type 0 where
  pub on_shaped : Shaped t
  pub on_sound : sound_state t ≡ true
  pub on_n : t.n ≡ s.n
  pub on_builds : (b : List ℕ) → build_of t b ≡ and (build_of s b) (p b)

-- Rows that a table of the variables x and y may have.
pub record RowsFit (s : State) (x y : ℕ) (rows : List ℕ) : Type 0 where
  pub first_in : (1 ≤ x) × (x ≤ s.n)
  pub second_in : (1 ≤ y) × (y ≤ s.n)
  pub apart : x ≡ y → ⊥
  pub a_row_each : length rows ≡ get_or s.sizes (pred x) 0
  pub bits_below : (c d : ℕ) → has (get_or rows c 0) d ≡ true → d < get_or s.sizes (pred y) 0

-- What holds of the calls on a sound state:
pub record StateLaws (s : State) : Type 0 where
  -- rows that fit are added, and then of the builds those stay that keep to them,
  pub adds : (x y : ℕ) (rows : List ℕ) → RowsFit s x y rows → (table_added s x y rows).number ≡ 0
  pub added_on : (x y : ℕ) (rows : List ℕ) → (table_added s x y rows).number ≡ 0 → HandedOn s (table_added s x y rows).state (keeps_to_rows x y rows)
  -- a full reduction keeps every build,
  pub reduced_on : HandedOn s (reduced s).state (λ (b : List ℕ). true)
  -- NONE is said only where there is no build, and where no two free variables are stated together, exactly there,
  pub none_only : ruled_as NONE (verdict_of s) → (b : List ℕ) → build_of s b ≡ false
  pub none_when : decided (view s) ≡ true → ((b : List ℕ) → build_of s b ≡ false) → ruled_as NONE (verdict_of s)
  -- and otherwise BUILT; and with BUILT, wherever it is said, the first n bytes shown are a build.
  pub built : decided (view s) ≡ true → (ruled_as NONE (verdict_of s) → ⊥) → ruled_as BUILT (verdict_of s)
  pub shows : (shown : List ℕ) → verdict_of s ≡ rules BUILT shown → build_of s (take s.n shown) ≡ true

-- Of every sound state.
unfoldable pub SoundLaws : Type 0
SoundLaws = (s : State) → Shaped s → sound_state s ≡ true → StateLaws s

-- The state handed back last by a list of calls on an accepted sheet: it is sound, its builds are demand 3's, and a table added to it and reduced is two calls
-- more.
pub record LastLaws (bytes : List ℕ) (cs : List Call) : Type 0 where
  pub last_shaped : Shaped (last_state bytes cs)
  pub last_sound : sound_state (last_state bytes cs) ≡ true
  pub last_n : (last_state bytes cs).n ≡ options bytes
  pub last_builds : (b : List ℕ) → build_of (last_state bytes cs) b ≡ build_of_sheet bytes cs b
  pub then_adds : (x y : ℕ) (rows : List ℕ)
      → last_state bytes (cs ++ (add_table x y rows ∷ full_reduction ∷ [])) ≡ (reduced (table_added (last_state bytes cs) x y rows).state).state

-- Of every accepted sheet and every list of calls.
unfoldable pub AfterLaws : Type 0
AfterLaws = (bytes : List ℕ) → Octets bytes → (read_sheet bytes).number ≡ 0 → (cs : List Call) → LastLaws bytes cs
