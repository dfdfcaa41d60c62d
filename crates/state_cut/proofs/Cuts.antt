-- Reading, the full reduction and the verdict in one call: each case of the definition.
use mathlib.Core.Bool.{true}
use mathlib.Core.List.{List}
use mathlib.Core.Path.{◌≡◌, refl, sym, ap, ◌∙◌}
use Prim.Native.Nat.{ℕ, ◌≤◌, ◌<◌}
use native.Mathlib.Omega.{arith}
use lib.ListN.{replicate}
use Rattle.cause.specs.declared.Cause.{Cause}
use Rattle.cause.specs.Number.{number_of}
use Rattle.cause.proofs.Laws.{number-positive}
use Rattle.network.specs.Sheet.{Sheet}
use Rattle.pairs.specs.Pairs.{variables}
use Rattle.head.specs.Held.{zero_head}
use Rattle.head.proofs.Held.{held-n}
use Rattle.format.specs.Parse.{Octets, parse, got, bad}
use Rattle.format.specs.Layout.{longest}
use Rattle.format.proofs.Places.{refused-place}
use Rattle.state.specs.declared.state.State.{State}
use Rattle.std.specs.Prelude.{Ok, Err}
use Rattle.cause.specs.declared.Refusal.{Refusal}
use Rattle.head.specs.declared.Head.{Head}
use Rattle.state.specs.View.{state_of, view, sound_state, state_of_zeros}
use Rattle.answers.specs.Answers.{number_read, read_place, VerdictTold, verdict_told, no_verdict}
use Rattle.state.specs.Answers.{ReadTold, Told}
use Rattle.state.specs.Read.{read_sheet}
use Rattle.state.specs.Steps.{reduced}
use Rattle.state.specs.Solutions.{verdict_of}
use Rattle.state.specs.Cut.{CutTold, cut_accepted, cut_refused, cut_as, cut_sheet}
use Rattle.state_read.specs.Parts.{read_parts_told}
use Rattle.state_cut.specs.Parts.{cut_parts_told}
use Rattle.state.proofs.Calls.{StateKept}
use Rattle.state.proofs.Steps.{reduced-keeps, reduced-most}
use Rattle.state.proofs.Cut.{cut-taken, cut-away}
use Rattle.state_read.proofs.RoundTrip.{AsRead, got-or-bad, read-refused, read-got, read-sound}

-- What refuses the sheet refuses its verdict.
pub cut-refused : (bytes rows : List ℕ) (r : Refusal) → read_parts_told (Err r) rows ≡ read_sheet bytes
    → cut_parts_told (record { outcome = Err r; head = zero_head; steps = 0; verdict = Err r.cause }) rows ≡ cut_sheet bytes
unfolding cut_parts_told cut_sheet cut_refused read_parts_told number_read read_place verdict_told
cut-refused bytes rows r e =
    sym (cut-away (record { number = number_of r.cause; place = r.place; state = state_of zero_head rows }) (λ z. omega (arith, number-positive r.cause))) ∙ ap cut_as e

-- A head and rows that tell what reading says.
module _ (bytes : List ℕ) (h : Head) (rows : List ℕ) (e : read_parts_told (Ok h) rows ≡ read_sheet bytes) where
  abbrev pub state_read : State
  state_read = state_of h rows

  -- An accepted sheet gives a sound state,
  pub cut-read : Octets bytes → AsRead state_read
  unfolding read_parts_told
  cut-read octets = rw (ap (λ (r : ReadTold). r.state) e) (read-sound bytes octets (sym (ap (λ (r : ReadTold). r.number) e)))

  module _ (r : AsRead state_read) {b : Told} (told-reduced : b ≡ reduced state_read) where
    -- which the reduction keeps sound,
    kept : StateKept state_read b.state (λ (f : ℕ → ℕ). true)
    kept = rw (ap (λ (x : Told). x.state) told-reduced) (reduced-keeps state_read r.read_shaped)

    pub cut-sound : sound_state b.state ≡ true
    cut-sound = kept.kept_sound r.is_sound

    -- and its verdict is that of the reduced state.
    pub cut-accepted : {v : VerdictTold} → v ≡ verdict_of b.state
        → ◌≡◌ {A = CutTold} (record { number = 0; place = 0; state = b.state; steps = b.steps; verdict = v }) (cut_sheet bytes)
    unfolding cut_accepted cut_sheet read_parts_told
    cut-accepted g =
        (λ z. record { number = 0; place = 0; state = b.state; steps = b.steps; verdict = g z })
        ∙ ap (cut_accepted (read_parts_told (Ok h) rows)) told-reduced
        ∙ sym (cut-taken (read_parts_told (Ok h) rows) refl)
        ∙ ap cut_as e

-- How large the numbers of an answer are: a place is within the largest sheet, and there are at most 16 variables and so fewer steps.
pub record Small (c : CutTold) : Type 0 where
  pub place_small : c.place ≤ 15621
  pub n_small : c.state.n ≤ variables
  pub steps_small : c.steps < variables

-- "any other part of a refused answer is zero", but for the number that its verdict has from reading.
pub cut-zero : (bytes : List ℕ) (c : Cause) (at : ℕ) → parse bytes ≡ bad c at
    → cut_sheet bytes ≡ record { number = number_of c; place = at; state = state_of_zeros; steps = 0; verdict = no_verdict (number_of c) (replicate 16 0) }
unfolding cut_sheet cut_refused
cut-zero bytes c at e =
    ap cut_as (read-refused bytes c at e)
    ∙ cut-away (record { number = number_of c; place = at; state = state_of_zeros }) (λ z. omega (arith, number-positive c))

module _ (bytes : List ℕ) (octets : Octets bytes) where
  small-accepted : (s : Sheet) (next : ℕ) → parse bytes ≡ got s next → Small (cut_sheet bytes)
  unfolding cut_accepted cut_sheet
  small-accepted s next e =
      let g = read-got bytes s next e in
      let number : (read_sheet bytes).number ≡ 0 = ap (λ (x : ReadTold). x.number) g in
      let r = read-sound bytes octets number in
      let t = (read_sheet bytes).state in
      let p : (read_sheet bytes).place ≡ 0 = ap (λ (x : ReadTold). x.place) g in
      let few = held-n _ t.rows r.is_sound in
      let kept = (reduced-keeps t r.read_shaped).kept_n in
      let most = reduced-most t r.read_shaped r.is_sound in
      rw (cut-taken (read_sheet bytes) number) (record { place_small = omega arith; n_small = omega arith; steps_small = omega arith })

  small-refused : (c : Cause) (at : ℕ) → parse bytes ≡ bad c at → Small (cut_sheet bytes)
  unfolding state_of_zeros zero_head longest
  small-refused c at e =
      let l = refused-place bytes e in
      rw (cut-zero bytes c at e) (record { place_small = l; n_small = omega arith; steps_small = omega arith })

  pub cut_small : Small (cut_sheet bytes)
  cut_small = got-or-bad bytes (parse bytes) refl small-accepted small-refused
