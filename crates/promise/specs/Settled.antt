-- Where calls leave no two live options stated together the verdict settles a sheet: a leader that is named (document 02, L12).
use Rattle.std.specs.Prelude.{true, false, List, ◌↔◌, ◌≡◌, ℕ, pred, ◌≤◌, take}
use Rattle.network.specs.Network.{free}
use Rattle.network.specs.Completion.{NONE, BUILT, OPEN}
use Rattle.network.specs.Reach.{Way, leads_to}
use Rattle.format.specs.Parse.{Octets}
use Rattle.format.specs.Builds.{options, is_build_of}
use Rattle.state.specs.declared.state.State.{State}
use Rattle.state.specs.View.{view}
use Rattle.answers.specs.Answers.{rules}
use Rattle.state.specs.Read.{read_sheet}
use Rattle.state.specs.Steps.{led}
use Rattle.state.specs.Solutions.{verdict_of}
use Rattle.promise.specs.Promise.{ruled_as}

-- The verdict of a state "is never OPEN", NONE exactly when the sheet of these bytes has no build, and otherwise it shows one.
pub record Settles (bytes : List ℕ) (s : State) : Type 0 where
  pub never_open : ruled_as OPEN (verdict_of s) → ⊥
  pub none_exactly : ruled_as NONE (verdict_of s) ↔ ((b : List ℕ) → is_build_of bytes b ≡ false)
  pub shows_build : (ruled_as NONE (verdict_of s) → ⊥)
      → (build : List ℕ) × (verdict_of s ≡ rules BUILT build) × (is_build_of bytes (take (options bytes) build) ≡ true)

-- The option l, counted from 1, is named to lead a sheet just read: it is not refused, "it ends as the only live option and the verdict is never OPEN".
pub record OnlyLive (bytes : List ℕ) (l : ℕ) : Type 0 where
  pub not_refused : (led (read_sheet bytes).state l).number ≡ 0
  pub only_live : (x : ℕ) → 1 ≤ x → x ≤ options bytes → (free (view (led (read_sheet bytes).state l).state) (pred x) ≡ true) ↔ (x ≡ l)
  pub settles : Settles bytes (led (read_sheet bytes).state l).state

-- "On a sheet just accepted, if every other option can be reached from it through tables functional along the way": on the full lists of the sheet.
unfoldable pub NamedLeader : Type 0
NamedLeader =
    (bytes : List ℕ) → Octets bytes → (read_sheet bytes).number ≡ 0 → (l : ℕ) → 1 ≤ l → l ≤ options bytes
    → ((x : ℕ) → 1 ≤ x → x ≤ options bytes → Way (leads_to (view (read_sheet bytes).state)) (pred l) (pred x))
    → OnlyLive bytes l
