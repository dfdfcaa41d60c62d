-- Version 3 beside version 2, of what is answered.
use mathlib.Core.Bool.{true}
use mathlib.Core.List.{List, ◌∷◌}
use mathlib.Core.Logic.{◌↔◌, ◌⊎◌, inl, inr, ⊎_elim}
use mathlib.Core.Path.{◌≡◌, refl, sym, ◌∙◌, ap}
use Prim.Native.Nat.{ℕ, zero, suc}
use native.Mathlib.Omega.{arith}
use Rattle.network.specs.Sheet.{Sheet}
use Rattle.format.specs.Parse.{Octets, Parse}
use Rattle.format.specs.Writable.{no_blank_row}
use Rattle.format.proofs.Beside.{Stricter, both_get, both_refuse, is_blank, blank-or-same, filled-of-accepted, accepted-of-filled}
use Rattle.state.specs.View.{view}
use Rattle.state.specs.Answers.{ReadTold}
use Rattle.state.specs.Read.{read_as, read_sheet}
use Rattle.state_read.specs.Beside.{Version3Beside2}
use Rattle.state_read.proofs.RoundTrip.{read-got, accepted}

answered-stricter : {p q : Parse Sheet} → Stricter p q → (read_as p ≡ read_as q) ⊎ ((read_as p).number ≡ 26)
unfolding read_as
answered-stricter (both_get l) = inl refl
answered-stricter both_refuse = inl refl
answered-stricter is_blank = inr refl

module _ (rest : List ℕ) (octets : Octets (3 ∷ rest)) where
  octets-beside : Octets (2 ∷ rest)
  octets-beside zero = omega arith
  octets-beside (suc k) = octets (suc k)

  same_answer : (read_sheet (3 ∷ rest) ≡ read_sheet (2 ∷ rest)) ⊎ ((read_sheet (3 ∷ rest)).number ≡ 26)
  unfolding read_sheet
  same_answer = answered-stricter (blank-or-same rest)

  accepted_alike : (read_sheet (3 ∷ rest)).number ≡ 0 → read_sheet (3 ∷ rest) ≡ read_sheet (2 ∷ rest)
  accepted_alike h = ⊎_elim (λ e. e) (λ b. absurd (let x : ⊥ = omega arith in x)) same_answer

  filled-exactly : (read_sheet (2 ∷ rest)).number ≡ 0
      → ((read_sheet (3 ∷ rest)).number ≡ 0) ↔ (no_blank_row (view (read_sheet (2 ∷ rest)).state) ≡ true)
  filled-exactly two = (
    λ h.
        let (s, A) = accepted (3 ∷ rest) octets h in
        let same = ap (λ (r : ReadTold). no_blank_row (view r.state)) (accepted_alike h) in
        sym same ∙ ap no_blank_row A.view_is ∙ filled-of-accepted rest s _ octets A.got_sheet,
    λ filled.
        let (s, A) = accepted (2 ∷ rest) octets-beside two in
        let e = accepted-of-filled rest s _ octets-beside A.got_sheet (sym (ap no_blank_row A.view_is) ∙ filled) in
        ap (λ (r : ReadTold). r.number) (read-got (3 ∷ rest) s _ e),
  )

pub version3-beside-2 : Version3Beside2
unfolding Version3Beside2
version3-beside-2 rest octets = record { same_or_26 = same_answer rest octets; accepted_filled = filled-exactly rest octets }
