-- The text of an answer: what it is in either case, and that its numbers are as small as its type says.
use mathlib.Core.List.{List}
use mathlib.Core.Path.{◌≡◌, sym, ◌∙◌, ap, ap₂}
use Prim.Native.Nat.{ℕ, ◌≤◌, ◌<◌}
use native.Mathlib.Omega.{arith}
use lib.ListN.{get_or}
use Rattle.std.specs.Prelude.{Result, Ok, Err}
use Rattle.cause.specs.declared.Refusal.{Refusal}
use Rattle.cause.proofs.Laws.{number-range}
use Rattle.state_cut.specs.declared.CutParts.{CutParts}
use Rattle.answers.specs.Answers.{number_read, read_place, verdict_told, verdict_solution}
use Rattle.state.specs.Cut.{cut_sheet}
use Rattle.state_cut.specs.Parts.{cut_parts_told}
use Rattle.state_cut.proofs.Cuts.{Small, cut_small}
use Rattle.text_lines.specs.Text.{refused_text}
use Rattle.text_report.specs.Text.{text_as, cut_text}
use Rattle.text_report.specs.Printed.{Printable, Narrow}
use Rattle.text_report.proofs.Fits.{text-accepted, text-refused}

pub accepted-text : (a : CutParts) (rows : List ℕ) {done : Unit {0}} → a.outcome ≡ Ok done
    → text_as (cut_parts_told a rows) ≡ cut_text a.head.n a.head.leaders a.head.domains a.steps (verdict_told a.verdict)
unfolding cut_parts_told number_read
accepted-text a rows e = text-accepted (cut_parts_told a rows) (ap number_read e)

pub refused-text : (a : CutParts) (rows : List ℕ) {r : Refusal} {number place : ℕ} → a.outcome ≡ Err r → number ≡ number_read a.outcome
    → place ≡ read_place a.outcome → text_as (cut_parts_told a rows) ≡ refused_text number place
unfolding cut_parts_told number_read
refused-text a rows {r} e n p =
    text-refused (cut_parts_told a rows) (λ z. omega (arith, number-range r.cause, sym z ∙ ap number_read e)) ∙ ap₂ refused_text (sym n) (sym p)

-- An answer whose bytes are bytes can be printed where it is narrow,
pub printable-answer : (a : CutParts) (rows : List ℕ) → Narrow (cut_parts_told a rows) → ((k : ℕ) → get_or a.head.leaders k 0 < 256)
    → ((k : ℕ) → get_or (verdict_solution (verdict_told a.verdict)) k 0 < 256) → Printable (cut_parts_told a rows)
unfolding cut_parts_told
printable-answer a rows small leaders values =
    record {
      number_lt = small.number_lt;
      place_le = small.place_le;
      options_le = small.options_le;
      steps_lt = small.steps_lt;
      leaders_lt = leaders;
      values_lt = values;
    }

number_small : (o : Result (Unit {0}) Refusal) → number_read o < 100
unfolding number_read
number_small (Ok done) = omega arith
number_small (Err r) = omega (arith, number-range r.cause)

-- and that for the bytes of a sheet is narrow, whatever they are.
pub narrow-answer : (bytes : List ℕ) → ((k : ℕ) → get_or bytes k 0 < 256) → (a : CutParts) (rows : List ℕ) → cut_parts_told a rows ≡ cut_sheet bytes
    → (other : List ℕ) → Narrow (cut_parts_told a other)
unfolding cut_parts_told
narrow-answer bytes octets a rows e other =
    let small : Small (cut_parts_told a rows) = rw e (cut_small bytes octets) in
    record { number_lt = number_small a.outcome; place_le = small.place_small; options_le = small.n_small; steps_lt = small.steps_small }
