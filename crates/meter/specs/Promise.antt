-- What the layer promises. It stands on the laws of `sheet` alone: `SoundLaws` of any sound state, and `AfterLaws` of the state after a list of calls.
use Rattle.std.specs.Prelude.{Bool, true, false, List, [], ◌∷◌, ◌++◌, ◌≡◌, ℕ, get_or, take}
use Rattle.bounded.specs.Bool.{and}
use Rattle.network.specs.Completion.{NONE, BUILT, decided}
use Rattle.network.specs.Calls.{Call, full_reduction, add_table}
use Rattle.format.specs.Parse.{Octets}
use Rattle.format.specs.Builds.{options}
use Rattle.answers.specs.Answers.{rules}
use Rattle.state.specs.declared.state.State.{State}
use Rattle.state.specs.View.{Shaped, view, sound_state}
use Rattle.state.specs.Read.{read_sheet}
use Rattle.promise.specs.Promise.{ruled_as, last_state, build_of_sheet}
use Rattle.promise.specs.Laws.{build_of}
use Rattle.meter_rule.specs.PageNine.{go_together, page_nine}
use Rattle.meter.specs.Fitted.{fitted}

-- The build's cell and interval go together.
unfoldable pub keeps_page_nine : List ℕ → Bool
keeps_page_nine b = go_together (get_or b 0 0) (get_or b 1 0)

-- What the answer of s says of the builds of n bytes that pass p.
pub record KeepsPageNine (n : ℕ) (p : List ℕ → Bool) (s : State) : Type 0 where
  -- The builds of the state handed back are exactly those whose cell and interval go together.
  pub builds : (b : List ℕ) → build_of (fitted s).state b ≡ and (p b) (keeps_page_nine b)
  -- "no build it shows breaks page nine", and the first n bytes of what it shows are such a build.
  pub none_breaks : (shown : List ℕ) → (fitted s).verdict ≡ rules BUILT shown → keeps_page_nine shown ≡ true
  pub shows : (shown : List ℕ) → (fitted s).verdict ≡ rules BUILT shown → p (take n shown) ≡ true
  -- NONE is said only where no build keeps page nine,
  pub none_only : ruled_as NONE (fitted s).verdict → (b : List ℕ) → p b ≡ true → keeps_page_nine b ≡ false
  -- and where no two live options of the state handed back are stated together, exactly there, and otherwise BUILT.
  pub none_when : decided (view (fitted s).state) ≡ true → ((b : List ℕ) → p b ≡ true → keeps_page_nine b ≡ false) → ruled_as NONE (fitted s).verdict
  pub built : decided (view (fitted s).state) ≡ true → (ruled_as NONE (fitted s).verdict → ⊥) → ruled_as BUILT (fitted s).verdict

-- Of every state that is not refused, and its own builds; a refusal hands back the state given.
pub record MeterPromise (s : State) : Type 0 where
  pub still_sound : (fitted s).number ≡ 0 → sound_state (fitted s).state ≡ true
  pub fits : (fitted s).number ≡ 0 → KeepsPageNine s.n (build_of s) s
  pub handed_back : ((fitted s).number ≡ 0 → ⊥) → (fitted s).state ≡ s

unfoldable pub PageNineKept : Type 0
PageNineKept = (s : State) → Shaped s → MeterPromise s

-- With demand 3: after any list of calls on an accepted sheet, builds are those of the sheet with its added tables and page nine. The state handed back is the one
-- that two calls more on the list hand back, so that all of demand 3 holds of it.
pub record SheetPromise (bytes : List ℕ) (cs : List Call) : Type 0 where
  pub of_sheet : (fitted (last_state bytes cs)).number ≡ 0 → KeepsPageNine (options bytes) (build_of_sheet bytes cs) (last_state bytes cs)
  pub of_list : (fitted (last_state bytes cs)).number ≡ 0
      → (fitted (last_state bytes cs)).state ≡ last_state bytes (cs ++ (add_table 1 2 page_nine ∷ full_reduction ∷ []))

unfoldable pub PageNineAfter : Type 0
PageNineAfter = (bytes : List ℕ) → Octets bytes → (read_sheet bytes).number ≡ 0 → (cs : List Call) → SheetPromise bytes cs
