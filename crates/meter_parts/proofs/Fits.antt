-- Page nine on a head and rows: the calls one after the other.
use mathlib.Core.Bool.{true, false}
use mathlib.Core.List.{List}
use mathlib.Core.Path.{◌≡◌, refl, sym, ap, ◌∙◌}
use Prim.Native.Nat.{ℕ, ◌≤◌}
use native.Mathlib.Omega.{arith}
use lib.Dec.{eqb}
use borrow.Author.Tests.{eqb-true, eqb-false}
use Rattle.bounded.proofs.Bool.{by_cases}
use Rattle.cause.specs.Number.{number_of}
use Rattle.cause.specs.declared.Cause.{Cause}
use Rattle.cause.proofs.Laws.{number-positive}
use Rattle.std.specs.Prelude.{Ok, Err}
use Rattle.answers.specs.Answers.{VerdictTold, no_verdict}
use Rattle.network.specs.Calls.{full_reduction, add_table}
use Rattle.network.specs.Reduction.{reduce}
use Rattle.head.specs.Held.{HeadShaped, held}
use Rattle.step_reduce.specs.declared.Reduction.{Reduction}
use Rattle.step_reduce.specs.Reduced.{RanTo}
use Rattle.state.specs.declared.state.State.{State}
use Rattle.state.specs.View.{Shaped, head_in, state_of, sound_state}
use Rattle.state.specs.Answers.{Told}
use Rattle.state.specs.Steps.{reduced}
use Rattle.state.specs.Tables.{table_added}
use Rattle.state.specs.Solutions.{verdict_of}
use Rattle.state.specs.Worked.{worked_told}
use Rattle.state.specs.Calls.{refused}
use Rattle.meter_parts.specs.Parts.{fit_told}
use lib.ListN.{replicate}
use Rattle.state.proofs.Calls.{call-9, call-number, call_back, call_same, call-head, taken-sound}
use Rattle.state.proofs.WorkedOut.{reduction-told}
use Rattle.meter_rule.specs.PageNine.{page_nine}
use Rattle.meter.specs.Fitted.{MeterTold, flat_meter, fit_refusal, turned_away, fitted_state, fitted}
use Rattle.meter.proofs.Fitted.{refuses-unsound, refuses-none, fitted-away, fitted-done}
use Rattle.meter.proofs.Promise.{page-nine-taken, with-table, then-reduced}

-- Of a flat meter, after the table has been added.
module _ {s : State} (h : Shaped s) (f : flat_meter s.n s.sizes ≡ true) {table : List ℕ} (p : table ≡ page_nine) where
  added-told : {told : Told} → told ≡ table_added s 1 2 table → told ≡ table_added s 1 2 page_nine
  added-told told = told ∙ ap (table_added s 1 2) p

  -- A refusal is for want of soundness: page nine fits.
  pub refused-fit : (c : Cause) (rows : List ℕ) → worked_told (head_in s) (Err c) rows ≡ table_added s 1 2 table → fit_told (head_in s) (Err c) rows ≡ fitted s
  unfolding fit_told turned_away refused
  refused-fit c rows told =
      let n : (table_added s 1 2 page_nine).number ≡ number_of c = sym (ap (λ (t : Told). t.number) (added-told told)) in
      let unsound : sound_state s ≡ false =
      by_cases (sound_state s) (λ t. absurd (let z : ⊥ = omega (arith, page-nine-taken s h (refuses-none s t f), number-positive c) in z)) (λ t. t) in
      let nine : number_of c ≡ 9 = sym n ∙ ap (λ (t : Told). t.number) (call-9 s (add_table 1 2 page_nine) unsound) in
      let one : 1 ≤ 9 = omega arith in
      let left : state_of (head_in s) rows ≡ s =
      ap (λ (t : Told). t.state) (added-told told) ∙ call_back s (add_table 1 2 page_nine) (λ z. let y : ⊥ = omega (arith, n, number-positive c) in y) in
      (λ z. record { number = nine z; state = left z; verdict = no_verdict (nine z) (replicate 16 0) }) ∙ sym (fitted-away s 9 (refuses-unsound s unsound) one)

  module _ (a : Reduction) {rows : List ℕ} (told : worked_told (head_in s) (Ok a) rows ≡ table_added s 1 2 table) where
    limited-is : state_of a.head rows ≡ (table_added s 1 2 page_nine).state
    limited-is = ap (λ (t : Told). t.state) (added-told told)

    fits : fit_refusal s ≡ 0
    fits =
        let n : (table_added s 1 2 page_nine).number ≡ 0 = sym (ap (λ (t : Told). t.number) (added-told told)) in
        refuses-none s (taken-sound s (add_table 1 2 page_nine) (sym (call-number s (add_table 1 2 page_nine)) ∙ n)) f

    pub limited-shaped : Shaped (state_of a.head rows)
    limited-shaped = rw limited-is (with-table s h fits).on_shaped

    pub limited-sound : sound_state (state_of a.head rows) ≡ true
    limited-sound = ap sound_state limited-is ∙ (with-table s h fits).on_sound

    -- And after the reduction.
    module _ {b : Reduction} {left : List ℕ} (cut : RanTo (reduce (held a.head rows)) b left) where
      cut-told : record { number = 0; state = state_of b.head left; steps = b.steps } ≡ reduced (state_of a.head rows)
      cut-told = reduction-told a.head rows limited-sound cut

      left_is : state_of b.head left ≡ fitted_state s
      unfolding fitted_state
      left_is = ap (λ (t : Told). t.state) cut-told ∙ ap (λ (u : State). (reduced u).state) limited-is

      pub left-sound : sound_state (state_of b.head left) ≡ true
      left-sound = ap sound_state left_is ∙ (then-reduced s h fits).on_sound

      pub done-fit : {v : VerdictTold} → v ≡ verdict_of (state_of b.head left)
          → ◌≡◌ {A = MeterTold} (record { number = 0; state = state_of b.head left; verdict = v }) (fitted s)
      done-fit w =
          (λ z. record { number = 0; state = left_is z; verdict = (w ∙ ap verdict_of left_is) z })
          ∙ sym (fitted-done s fits)

-- Page nine moves neither n nor a size.
pub fitted-same : (s : State) → HeadShaped (head_in s) → ((fitted s).state.n ≡ s.n) × ((fitted s).state.sizes ≡ s.sizes)
unfolding turned_away fitted_state
fitted-same s h =
    by_cases (eqb (fit_refusal s) 0)
    (λ t. let x = call_same s h (add_table 1 2 page_nine) in
    let y = call_same _ (call-head s h (add_table 1 2 page_nine)) full_reduction in
    rw (fitted-done s (eqb-true _ 0 t)) (y.0 ∙ x.0, y.1 ∙ x.1))
    (λ t. let d : fit_refusal s ≡ 0 → ⊥ = eqb-false _ 0 t in rw (fitted-away s _ refl (omega arith)) (refl, refl))
