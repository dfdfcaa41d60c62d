-- The answer, case by case.
use mathlib.Core.Bool.{true, false}
use mathlib.Core.List.{List}
use mathlib.Core.Path.{◌≡◌, refl, sym, ap, ◌∙◌}
use Prim.Native.Nat.{ℕ, ◌≤◌, ◌<◌}
use native.Mathlib.Omega.{arith}
use lib.Dec.{eqb, leb}
use lib.ListN.{get_or}
use borrow.Author.Tests.{eq-eqb, ne_eqb, eqb-true, eqb-false, leb-true, le-leb, lt-leb}
use Rattle.bounded.specs.Bool.{and}
use Rattle.bounded.proofs.Bool.{by_cases, and_l, and_r, and-false, and-fails, and-holds, if-true, if-false}
use Rattle.state.specs.declared.state.State.{State}
use Rattle.state.specs.View.{sound_state}
use Rattle.answers.specs.Answers.{VerdictTold}
use Rattle.state.specs.Answers.{Told}
use Rattle.state.specs.Steps.{reduced}
use Rattle.state.specs.Tables.{table_added}
use Rattle.state.specs.Solutions.{verdict_of}
use Rattle.meter_rule.specs.PageNine.{page_nine}
use Rattle.meter.specs.Fitted.{MeterTold, flat_meter, fit_refusal, turned_away, fitted_state, fitted}

-- A flat meter, test by test.
module _ (n : ℕ) (sizes : List ℕ) where
  pub few-options : n < 2 → flat_meter n sizes ≡ false
  unfolding flat_meter
  few-options l = and-fails _ _ (lt-leb 2 n l)

  pub other-cell : (get_or sizes 0 0 ≡ 4 → ⊥) → flat_meter n sizes ≡ false
  unfolding flat_meter
  other-cell d = ap (and (leb 2 n)) (and-fails _ _ (ne_eqb _ 4 d)) ∙ and-false _

  pub flat-by-interval : 2 ≤ n → get_or sizes 0 0 ≡ 4 → flat_meter n sizes ≡ eqb (get_or sizes 1 0) 4
  unfolding flat_meter
  flat-by-interval l e = and-holds _ _ (le-leb 2 n l) ∙ and-holds _ _ (eq-eqb _ 4 e)

module _ (s : State) where
  pub refuses-unsound : sound_state s ≡ false → fit_refusal s ≡ 9
  unfolding fit_refusal
  refuses-unsound t = if-false _ _ _ t

  pub refuses-not-flat : sound_state s ≡ true → flat_meter s.n s.sizes ≡ false → fit_refusal s ≡ 25
  unfolding fit_refusal
  refuses-not-flat t f = if-true _ _ _ t ∙ if-false _ _ _ f

  pub refuses-none : sound_state s ≡ true → flat_meter s.n s.sizes ≡ true → fit_refusal s ≡ 0
  unfolding fit_refusal
  refuses-none t f = if-true _ _ _ t ∙ if-true _ _ _ f

  pub fitted-away : (number : ℕ) → fit_refusal s ≡ number → 1 ≤ number → fitted s ≡ turned_away number s
  unfolding fitted
  fitted-away number e h = if-false _ _ _ (ne_eqb (fit_refusal s) 0 (omega arith)) ∙ ap (λ (k : ℕ). turned_away k s) e

  pub fitted-done : fit_refusal s ≡ 0 → fitted s ≡ record { number = 0; state = fitted_state s; verdict = verdict_of (fitted_state s) }
  unfolding fitted
  fitted-done e = if-true _ _ _ (eq-eqb _ 0 e)

  pub fitted-number : (fitted s).number ≡ fit_refusal s
  unfolding turned_away
  fitted-number =
      by_cases (eqb (fit_refusal s) 0)
      (λ t. let e = eqb-true _ 0 t in ap (λ (a : MeterTold). a.number) (fitted-done e) ∙ sym e)
      (λ t. let d : fit_refusal s ≡ 0 → ⊥ = eqb-false _ 0 t in ap (λ (a : MeterTold). a.number) (fitted-away _ refl (omega arith)))

  -- "Both hand back the state given."
  pub fitted-back : ((fitted s).number ≡ 0 → ⊥) → (fitted s).state ≡ s
  unfolding turned_away
  fitted-back n =
      ap (λ (a : MeterTold). a.state) (fitted-away _ refl (let d : fit_refusal s ≡ 0 → ⊥ = λ e. n (fitted-number ∙ e) in omega arith))

  -- What is not refused is a sound state of a flat meter.
  pub fits-sound : fit_refusal s ≡ 0 → sound_state s ≡ true
  fits-sound e = by_cases (sound_state s) (λ t. t) (λ t. absurd (let z : ⊥ = omega (arith, refuses-unsound t) in z))

  pub fits-flat : fit_refusal s ≡ 0 → flat_meter s.n s.sizes ≡ true
  fits-flat e =
      by_cases (flat_meter s.n s.sizes) (λ f. f) (λ f. absurd (let z : ⊥ = omega (arith, refuses-not-flat (fits-sound e) f) in z))

  pub flat-options : fit_refusal s ≡ 0 → 2 ≤ s.n
  unfolding flat_meter
  flat-options e = leb-true 2 s.n (and_l _ _ (fits-flat e))

  pub flat-cell : fit_refusal s ≡ 0 → get_or s.sizes 0 0 ≡ 4
  unfolding flat_meter
  flat-cell e = eqb-true _ 4 (and_l _ _ (and_r _ _ (fits-flat e)))

  pub flat-interval : fit_refusal s ≡ 0 → get_or s.sizes 1 0 ≡ 4
  unfolding flat_meter
  flat-interval e = eqb-true _ 4 (and_r _ _ (and_r _ _ (fits-flat e)))

  -- The three calls, one after the other.
  pub fitted-told : (table : List ℕ) (a b : Told) (v : VerdictTold) → fit_refusal s ≡ 0 → table ≡ page_nine
      → a ≡ table_added s 1 2 table → b ≡ reduced a.state → v ≡ verdict_of b.state
      → ◌≡◌ {A = MeterTold} (record { number = 0; state = b.state; verdict = v }) (fitted s)
  unfolding fitted_state
  fitted-told table a b v none p q r w =
      let left : b.state ≡ fitted_state s =
      ap (λ (x : Told). x.state) r ∙ ap (λ (x : Told). (reduced x.state).state) q ∙ ap (λ (x : List ℕ). (reduced (table_added s 1 2 x).state).state) p in
      (λ z. record { number = 0; state = left z; verdict = (w ∙ ap verdict_of left) z }) ∙ sym (fitted-done none)
