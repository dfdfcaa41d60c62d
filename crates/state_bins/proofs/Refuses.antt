-- Each number exactly when its own cause holds and none before it: a test of the ladder is its cause, and the ladder does the rest.
use mathlib.Core.Bool.{Bool, true, false}
use mathlib.Core.List.{List}
use mathlib.Core.Logic.Iff
use mathlib.Core.Logic.{◌↔◌}
use mathlib.Core.Path.{◌≡◌, refl, ap, subst}
use Prim.Native.Nat.{ℕ, ◌^◌}
use native.Mathlib.Omega.{arith}
use borrow.Author.Tests.{ltb-true, lt-ltb, leb-true, le-leb, eqb-true, eq-eqb}
use Rattle.bounded.specs.Bool.{or, not}
use Rattle.bounded.proofs.Bool.{by_cases, clash, not-true→false, and_i, and_l, and_r, or_l, or_r, or_elim, or-false-l, or-false-r, or-false-i, not-i, not-e, not-false-i, not-false-e}
use Rattle.network.proofs.Step.{here, past, never}
use Rattle.network.proofs.Added.{denied}
use Rattle.head.specs.Held.{held}
use Rattle.bins.specs.declared.Bin.{Bin}
use Rattle.bins.specs.Bins.{Place, stand_at, any, is_of, of_solution}
use Rattle.bins.proofs.Lists.{any-e, any-i}
use Rattle.bins.proofs.Places.{stand-e, stand-i}
use Rattle.answers.specs.Answers.{TestTold, says, refuses, test_agrees}
use Rattle.state.specs.declared.state.State.{State}
use Rattle.state.specs.View.{sound_state}
use Rattle.state.specs.Solutions.{tested}
use Rattle.state_bins.specs.Bins.{bin_places, bins_refusal, has_value, exceeds, delivery_number, lacks, call_off_number}
use Rattle.state_bins.specs.Refuses.{InPlace, ValueOf, WouldExceed, TooLow, DeliveryRefuses, CallOffRefuses}

-- ---- a test is its cause
holds : (b : Bool) → (not b ≡ false) ↔ (b ≡ true)
holds b = (not-false-e b, not-false-i b)

fails : (b : Bool) → (not b ≡ true) ↔ (b ≡ false)
fails b = (not-e b, not-i b)

refuted : {P : Type 0} (b : Bool) → (b ≡ true) ↔ P → (b ≡ false) ↔ (P → ⊥)
refuted b e = (λ f p. clash (e.1 p) f, λ n. not-true→false b (λ t. n (e.0 t)))

in_place : (s : State) (bins : List Bin) → (not (stand_at bins (bin_places s)) ≡ false) ↔ InPlace s bins
in_place s bins = (
  λ h. stand-e bins (bin_places s) (not-false-e _ h),
  λ e. not-false-i _ (subst (λ (ps : List Place). stand_at bins ps ≡ true) e (stand-i bins)),
)

pub value_of : (s : State) (variable value : ℕ) → (has_value s variable value ≡ true) ↔ ValueOf s variable value
unfolding has_value held
value_of s variable value = (
  λ h.
      record {
        numbered = record { from_1 = ltb-true 0 variable (and_l _ _ (and_l _ _ h)); to_n = leb-true variable s.n (and_r _ _ (and_l _ _ h)) };
        below_size = ltb-true value _ (and_r _ _ h);
      },
  λ v. and_i _ _ (and_i _ _ (lt-ltb 0 variable v.numbered.from_1) (le-leb variable s.n v.numbered.to_n)) (lt-ltb value _ v.below_size),
)

would-exceed : (bins : List Bin) (variable value amount : ℕ) → (any (exceeds variable value amount) bins ≡ true) ↔ WouldExceed bins variable value amount
unfolding exceeds is_of
would-exceed bins variable value amount = (
  λ h. let r = any-e (exceeds variable value amount) bins h in
      let t = and_l _ _ r.2 in
      record {
        which = r.0;
        inside = r.1;
        its_place = λ i. (eqb-true _ variable (and_l _ _ t) i, eqb-true _ value (and_r _ _ t) i);
        too_many = leb-true (2 ^ 32) _ (and_r _ _ r.2);
      },
  λ w. any-i (exceeds variable value amount) bins w.which w.inside
      (and_i _ _ (and_i _ _ (eq-eqb _ variable (ap (λ (p : Place). p.0) w.its_place)) (eq-eqb _ value (ap (λ (p : Place). p.1) w.its_place)))
      (le-leb (2 ^ 32) _ w.too_many)),
)

too-low : (bins : List Bin) (solution : List ℕ) (amount : ℕ) → (any (lacks solution amount) bins ≡ true) ↔ TooLow bins solution amount
unfolding lacks of_solution
too-low bins solution amount = (
  λ h. let r = any-e (lacks solution amount) bins h in
      let t = and_l _ _ r.2 in
      record {
        which = r.0;
        inside = r.1;
        from_1 = ltb-true 0 _ (and_l _ _ t);
        its_value = eqb-true _ _ (and_r _ _ t);
        too_few = ltb-true _ amount (and_r _ _ r.2);
      },
  λ w. any-i (lacks solution amount) bins w.which w.inside
      (and_i _ _ (and_i _ _ (lt-ltb 0 _ w.from_1) (eq-eqb _ _ w.its_value)) (lt-ltb _ amount w.too_few)),
)

pub says-yes : (t : TestTold) → (test_agrees t ≡ true) ↔ (t ≡ says true)
unfolding test_agrees
says-yes (says b) = (ap says, ap test_agrees)
says-yes (refuses k) = (λ h. clash {b = false} h refl, ap test_agrees)

-- At the foot of the ladder stands 0.
alone : (b : Bool) → ((b ≡ false) × (◌≡◌ {A = ℕ} 0 0)) ↔ (b ≡ false)
alone b = (λ h. h.0, λ f. (f, refl))

-- 28 of a delivery: not a value, or a count that would exceed.
module _ {P Q : Type 0} (a b : Bool) (p : (a ≡ true) ↔ P) (q : (b ≡ true) ↔ Q) where
  either-fails : (or (not a) b ≡ true) ↔ (P → Q)
  either-fails = (
    λ h v. or_elim _ _ h (λ t. clash (p.1 v) (not-e _ t)) q.0,
    λ f. by_cases a (λ t. or_r _ _ (q.1 (f (p.0 t)))) (λ t. or_l _ _ (not-i _ t)),
  )

  both_hold : (or (not a) b ≡ false) ↔ (P × (Q → ⊥))
  both_hold = (
    λ h. (p.0 (not-false-e _ (or-false-l _ _ h)), (refuted b q).0 (or-false-r _ _ h)),
    λ h. or-false-i _ _ (not-false-i _ (p.1 h.0)) ((refuted b q).1 h.1),
  )

pub delivery-refuses : (s : State) (bins : List Bin) (variable value amount : ℕ) → DeliveryRefuses s bins variable value amount
unfolding delivery_number bins_refusal
delivery-refuses s bins variable value amount =
    record {
      number_9 = Iff.trans (here _ 9 _ (never _ 27 _ 9 (omega arith) (never _ 28 _ 9 (omega arith) (omega arith)))) (fails (sound_state s));
      number_27 =
          Iff.trans (past _ 9 _ 27 (omega arith) (here _ 27 _ (never _ 28 _ 27 (omega arith) (omega arith))))
          (Iff.and (holds (sound_state s)) (denied _ (in_place s bins)));
      number_28 =
          Iff.trans (past _ 9 _ 28 (omega arith) (past _ 27 _ 28 (omega arith) (here _ 28 _ (omega arith))))
          (Iff.and (holds (sound_state s)) (Iff.and (in_place s bins)
          (either-fails (has_value s variable value) _ (value_of s variable value) (would-exceed bins variable value amount))));
      number_0 =
          Iff.trans (past _ 9 _ 0 (omega arith) (past _ 27 _ 0 (omega arith) (past _ 28 _ 0 (omega arith) Iff.rfl)))
          (Iff.and (holds (sound_state s)) (Iff.and (in_place s bins)
          (Iff.trans (alone _)
          (both_hold (has_value s variable value) _ (value_of s variable value) (would-exceed bins variable value amount)))));
    }

-- A build of the state is what its tester says yes to: 28 comes before a bin too low.
builds : (s : State) (solution : List ℕ) → (not (test_agrees (tested s solution)) ≡ false) ↔ (tested s solution ≡ says true)
builds s solution = Iff.trans (holds _) (says-yes (tested s solution))

non_build : (s : State) (bins : List Bin) (solution : List ℕ) (amount : ℕ)
    → (call_off_number s bins solution amount ≡ 28) ↔ ((sound_state s ≡ true) × (InPlace s bins × (tested s solution ≡ says true → ⊥)))
unfolding call_off_number bins_refusal
non_build s bins solution amount =
    Iff.trans (past _ 9 _ 28 (omega arith) (past _ 27 _ 28 (omega arith) (here _ 28 _ (never _ 29 _ 28 (omega arith) (omega arith)))))
    (Iff.and (holds (sound_state s)) (Iff.and (in_place s bins) (denied _ (builds s solution))))

pub call-off-refuses : (s : State) (bins : List Bin) (solution : List ℕ) (amount : ℕ) → CallOffRefuses s bins solution amount
unfolding call_off_number bins_refusal
call-off-refuses s bins solution amount =
    let low = too-low bins solution amount in
    record {
      number_9 =
          Iff.trans (here _ 9 _ (never _ 27 _ 9 (omega arith) (never _ 28 _ 9 (omega arith) (never _ 29 _ 9 (omega arith) (omega arith)))))
          (fails (sound_state s));
      number_27 =
          Iff.trans (past _ 9 _ 27 (omega arith) (here _ 27 _ (never _ 28 _ 27 (omega arith) (never _ 29 _ 27 (omega arith) (omega arith)))))
          (Iff.and (holds (sound_state s)) (denied _ (in_place s bins)));
      number_28 = non_build s bins solution amount;
      number_29 =
          Iff.trans (past _ 9 _ 29 (omega arith) (past _ 27 _ 29 (omega arith) (past _ 28 _ 29 (omega arith) (here _ 29 _ (omega arith)))))
          (Iff.and (holds (sound_state s)) (Iff.and (in_place s bins) (Iff.and (builds s solution) low)));
      number_0 =
          Iff.trans (past _ 9 _ 0 (omega arith) (past _ 27 _ 0 (omega arith) (past _ 28 _ 0 (omega arith) (past _ 29 _ 0 (omega arith) Iff.rfl))))
          (Iff.and (holds (sound_state s)) (Iff.and (in_place s bins) (Iff.and (builds s solution) (Iff.trans (alone _) (refuted _ low)))));
    }
