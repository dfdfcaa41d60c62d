-- What a byte, and the end of the list, are to the program of a year.
use mathlib.Core.Bool.{Bool, true, false}
use mathlib.Core.List.{[]}
use mathlib.Core.Path.{◌≡◌}
use Prim.Native.Nat.{ℕ, ◌≤◌, ◌<◌}
use native.Mathlib.Omega.{arith}
use lib.Dec.{eqb}
use borrow.Author.Tests.{eqb-true, eqb-false}
use Rattle.bounded.proofs.Bool.{by_cases, if-true, if-false}
use Rattle.state.specs.declared.state.State.{State}
use Rattle.scan.specs.declared.Scan.{Scan}
use Rattle.scan.specs.Scan.{opening, step}
use Rattle.scan.specs.Line.{finish}
use Rattle.stream.specs.Bytes.{At, moved, ended, next, text, last_text, last_state}
use Rattle.stream.proofs.Parts.{next-moved, next-ended, text-moved, text-ended}
use Rattle.year_entries.specs.Year.{Year, act}
use Rattle.year_act.specs.Answers.{answer}
use Rattle.year_feed.specs.Feed.{year_program}

module _ (s : State) (quiet : Bool) (z : At Scan Year) where
  module _ (byte : ℕ) where
    pub moved-is : eqb byte 10 ≡ false → next (year_program s quiet) z byte ≡ record { seen = step z.seen byte; begun = true; state = z.state }
    unfolding year_program moved
    moved-is h = next-moved (year_program s quiet) z byte h

    pub quiet_is : eqb byte 10 ≡ false → text (year_program s quiet) z byte ≡ []
    quiet_is h = text-moved (year_program s quiet) z byte h

    pub ended_is : eqb byte 10 ≡ true → next (year_program s quiet) z byte ≡ record { seen = opening false; begun = false; state = act s z.state (finish z.seen) }
    unfolding year_program ended
    ended_is h = next-ended (year_program s quiet) z byte h

    pub answer-is : eqb byte 10 ≡ true → text (year_program s quiet) z byte ≡ answer quiet s z.state (finish z.seen)
    unfolding year_program
    answer-is h = text-ended (year_program s quiet) z byte h

  -- The end, with a line that goes on and without.
  pub last-state-on : z.begun ≡ true → last_state (year_program s quiet) z ≡ act s z.state (finish z.seen)
  unfolding year_program last_state
  last-state-on h = if-true _ _ _ h

  pub last-text-on : z.begun ≡ true → last_text (year_program s quiet) z ≡ answer quiet s z.state (finish z.seen)
  unfolding year_program last_text
  last-text-on h = if-true _ _ _ h

  pub last-state-off : z.begun ≡ false → last_state (year_program s quiet) z ≡ z.state
  unfolding last_state
  last-state-off h = if-false _ _ _ h

  pub last-text-off : z.begun ≡ false → last_text (year_program s quiet) z ≡ []
  unfolding last_text
  last-text-off h = if-false _ _ _ h

-- Where some text was put, some byte was taken.
pub moved_on : (from to most len : ℕ) → from ≤ to → (to ≡ from → len ≡ 0) → most < len → from < to
moved_on from to most len h z k =
    by_cases (eqb to from)
    (λ t. absurd (let e = z (eqb-true to from t) in let no : ⊥ = omega (arith, e) in no))
    (λ t. let d = eqb-false to from t in omega (arith, d))
