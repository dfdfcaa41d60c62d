-- The reading call for the paired profile, beside the old one: by what the parser makes of the bytes, and by the network that it gets.
use mathlib.Core.Bool.{true, false}
use mathlib.Core.List.{List}
use mathlib.Core.Path.{◌≡◌, refl, sym, ◌∙◌, ap}
use Prim.Native.Nat.{ℕ, suc}
use native.Mathlib.Omega.{arith}
use Rattle.bounded.proofs.Bool.{by_cases, clash}
use Rattle.cause.specs.declared.Cause.{Cause}
use Rattle.cause.specs.declared.Cause.TheVariants.{NotPaired}
use Rattle.cause.specs.Number.{number_of}
use Rattle.cause.proofs.Laws.{number-positive}
use Rattle.network.specs.Network.{Network}
use Rattle.network.specs.Sheet.{Sheet, network_of}
use Rattle.network.specs.Paired.{paired, unpaired_first, unpaired_second}
use Rattle.format.specs.Parse.{Octets, got, bad, parse}
use Rattle.format.specs.Builds.{table_place}
use Rattle.format.specs.Profile.{unpaired_place}
use Rattle.format.proofs.Places.{refused-number}
use Rattle.format.proofs.Profile.{no_place, a-place, none_other, first-other, place_none, place-first, place-there}
use Rattle.format.proofs.Profile as format
use Rattle.std.specs.Prelude.{Result, Ok, Err}
use Rattle.cause.specs.declared.Refusal.{Refusal}
use Rattle.head.specs.declared.Head.{Head}
use Rattle.read_paired.specs.Accepted.{Accepted}
use Rattle.state.specs.View.{state_of_zeros}
use Rattle.state.specs.Answers.{ReadTold}
use Rattle.state.specs.Read.{read_as, read_sheet, read_paired}
use Rattle.state_read.specs.Parts.{read_parts_told}
use Rattle.state_read.proofs.RoundTrip.{read-got, read-refused, got-or-bad, got-accepted}
use Rattle.state_paired.specs.Beside.{network_old, BesideReading, PairedBeside}

-- ---- case by case, whatever the bytes are

module _ (bytes : List ℕ) where
  -- "after all other tests of reading"
  pub refused-before : (c : Cause) (at : ℕ) → parse bytes ≡ bad c at → read_paired bytes ≡ read_sheet bytes
  unfolding read_paired read_sheet
  refused-before c at e = ap read_as (format.refused_alike NotPaired c bytes at e ∙ sym e)

  module _ (s : Sheet) (next : ℕ) (e : parse bytes ≡ got s next) where
    pub none_found : unpaired_place bytes ≡ 0 → read_paired bytes ≡ read_sheet bytes
    unfolding read_paired read_sheet
    none_found z = ap read_as (no_place NotPaired bytes s next e z ∙ sym e)

    pub one_found : (unpaired_place bytes ≡ 0 → ⊥) → read_paired bytes ≡ read_as (bad NotPaired (unpaired_place bytes))
    unfolding read_paired
    one_found n = ap read_as (a-place NotPaired bytes s next e n)

-- ---- as the function goes: parts that tell what reading says

module _ (bytes rows : List ℕ) where
  -- A refusal is handed on.
  pub handed-on : (r : Refusal) → read_parts_told (Err r) rows ≡ read_sheet bytes → read_parts_told (Err r) rows ≡ read_paired bytes
  unfolding read_parts_told
  handed-on r told =
      told
      ∙ sym (got-or-bad bytes (parse bytes) refl
      (λ s next e. absurd (let z : (read_sheet bytes).number ≡ 0 = ap (λ (t : ReadTold). t.number) (read-got bytes s next e) in
      let n : number_of r.cause ≡ (read_sheet bytes).number = ap (λ (t : ReadTold). t.number) told in
      let x : ⊥ = omega (arith, number-positive r.cause) in x))
      (λ d place e. refused-before bytes d place e))

  module _ (h : Head) (told : read_parts_told (Ok h) rows ≡ read_sheet bytes) where
    -- An accepted sheet is one that the walk takes,
    pub walked : Accepted bytes
    unfolding read_parts_told
    walked =
        got-or-bad bytes (parse bytes) refl
        (λ s next e. record { sheet = s; end = next; read = e })
        (λ d place e. absurd (let z : (read_sheet bytes).number ≡ number_of d = ap (λ (t : ReadTold). t.number) (read-refused bytes d place e) in
        let n : 0 ≡ (read_sheet bytes).number = ap (λ (t : ReadTold). t.number) told in
        let x : ⊥ = omega (arith, number-positive d) in x))

    -- and it is accepted where that finds no place.
    pub kept : Accepted bytes → unpaired_place bytes ≡ 0 → read_parts_told (Ok h) rows ≡ read_paired bytes
    kept A z = told ∙ sym (none_found bytes A.sheet A.end A.read z)

-- Where it finds one the sheet is refused.
pub turned-away : (bytes : List ℕ) → Accepted bytes → {place : ℕ} → place ≡ unpaired_place bytes → (place ≡ 0 → ⊥)
    → read_as (bad NotPaired place) ≡ read_paired bytes
turned-away bytes A is n =
    ap (λ (at : ℕ). read_as (bad NotPaired at)) is ∙ sym (one_found bytes A.sheet A.end A.read (λ z. n (is ∙ z)))

-- ---- beside the old call

module _ (bytes : List ℕ) (octets : Octets bytes) where
  -- A sheet that the old call refuses, with a number that is not 31.
  of-refused : (c : Cause) (at : ℕ) → parse bytes ≡ bad c at → BesideReading bytes
  of-refused c at e =
      let same = refused-before bytes c at e in
      let is : (read_sheet bytes).number ≡ number_of c = ap (λ (r : ReadTold). r.number) (read-refused bytes c at e) in
      let is-too : (read_paired bytes).number ≡ number_of c = ap (λ (r : ReadTold). r.number) same ∙ is in
      let not-31 : (read_paired bytes).number ≡ 31 → ⊥ = λ h. omega (arith, refused-number bytes e) in
      record {
        accepted_alike = λ h. same;
        accepted_paired = λ h. absurd (let x : ⊥ = omega (arith, number-positive c) in x);
        refused_alike = λ h. same;
        accepts_exactly = λ h. absurd (let x : ⊥ = omega (arith, number-positive c) in x);
        refuses_exactly = (λ h. absurd (not-31 h), λ h. absurd (let z = h.0 in let x : ⊥ = omega (arith, number-positive c) in x));
        named = λ h. absurd (not-31 h);
      }

  module _ (s : Sheet) (next : ℕ) (e : parse bytes ≡ got s next) where
    old-number : (read_sheet bytes).number ≡ 0
    old-number = ap (λ (r : ReadTold). r.number) (read-got bytes s next e)

    old-network : network_old bytes ≡ network_of s
    unfolding network_old
    old-network = (got-accepted bytes octets s next e).view_is

    -- One of the profile.
    of-paired : paired (network_of s) ≡ true → BesideReading bytes
    of-paired p =
        let none = place_none bytes octets s next e p in
        let same = none_found bytes s next e none in
        let is : (read_paired bytes).number ≡ 0 = ap (λ (r : ReadTold). r.number) same ∙ old-number in
        let all : paired (network_old bytes) ≡ true = ap paired old-network ∙ p in
        let not-31 : (read_paired bytes).number ≡ 31 → ⊥ = λ h. omega arith in
        record {
          accepted_alike = λ h. same;
          accepted_paired = λ h. none_other bytes none;
          refused_alike = λ h. same;
          accepts_exactly = λ h. (λ _. all, λ _. is);
          refuses_exactly = (λ h. absurd (not-31 h), λ h. clash all h.1);
          named = λ h. absurd (not-31 h);
        }

    -- One that has another kind of table.
    module _ (p : paired (network_of s) ≡ false) where
      other : unpaired_place bytes ≡ 0 → ⊥
      other z = omega (arith, place-there bytes octets s next e p)

      answered : read_paired bytes ≡ read_as (bad NotPaired (unpaired_place bytes))
      answered = one_found bytes s next e other

      its-number : (read_paired bytes).number ≡ 31
      its-number = ap (λ (r : ReadTold). r.number) answered ∙ (unfold read_as in refl)

      its_place : (read_paired bytes).place ≡ unpaired_place bytes
      its_place = ap (λ (r : ReadTold). r.place) answered ∙ (unfold read_as in refl)

      its-state : (read_paired bytes).state ≡ state_of_zeros
      its-state = ap (λ (r : ReadTold). r.state) answered ∙ (unfold read_as in refl)

      of-unpaired : BesideReading bytes
      of-unpaired =
          let some : paired (network_old bytes) ≡ false = ap paired old-network ∙ p in
          let not-0 : (read_paired bytes).number ≡ 0 → ⊥ = λ h. omega (arith, its-number) in
          record {
            accepted_alike = λ h. absurd (not-0 h);
            accepted_paired = λ h. absurd (not-0 h);
            refused_alike = λ h. absurd (h old-number);
            accepts_exactly = λ h. (λ z. absurd (not-0 z), λ t. clash t some);
            refuses_exactly = (λ h. (old-number, some), λ h. its-number);
            named = λ h.
                record {
                  zero_state = its-state;
                  first_in_file = rw its_place (first-other bytes other);
                  first_pair =
                      its_place ∙ place-first bytes octets s next e p
                      ∙ sym (ap (λ (N : Network). table_place bytes (suc (unpaired_first N)) (suc (unpaired_second N))) old-network);
                };
          }

pub paired-beside : PairedBeside
unfolding PairedBeside
paired-beside bytes octets =
    got-or-bad bytes (parse bytes) refl
    (λ s next e. by_cases (paired (network_of s)) (of-paired bytes octets s next e) (of-unpaired bytes octets s next e))
    (of-refused bytes octets)
