-- The numbers that come, and the bin that a 29 names.
use mathlib.Core.Bool.{Bool, true, false}
use mathlib.Core.List.{List}
use mathlib.Core.Logic.{◌⊎◌, inl, inr, ⊎_elim}
use mathlib.Core.Path.{◌≡◌, refl, sym, ap, subst, ◌∙◌}
use Prim.Native.Nat.{ℕ, suc, ◌+◌, ◌-◌, ◌<◌}
use native.Mathlib.Omega.{arith}
use lib.Dec.{eqb}
use lib.ListN.{length, get_or}
use borrow.Author.Tests.{eqb-true, eq-eqb}
use Rattle.bounded.specs.Bool.{and, or, not, bit, if}
use Rattle.bounded.proofs.Bool.{by_cases, clash, and_l, and_r, and_i, and-fails, and-false, bit-true, bit-false, if-true, if-false}
use Rattle.bins.specs.declared.Bin.{Bin}
use Rattle.bins.specs.Bins.{Place, is_of, any, no_bin}
use Rattle.bins_counts.specs.Counts.{bin_of_place, spot, plus, changed_at}
use Rattle.bins_counts.proofs.Changed.{length-changed, changed-here, changed-else, same-variable, same-value, plus-is}
use Rattle.answers.specs.Answers.{test_agrees}
use Rattle.state.specs.declared.state.State.{State}
use Rattle.state.specs.View.{sound_state}
use Rattle.state.specs.Solutions.{tested}
use Rattle.state_bins.specs.Bins.{has_value, exceeds, lacks, delivery_number, call_off_number}
use Rattle.state_bins.specs.Year.{Entry, delivery, call_off, number_of}
use Rattle.stock.specs.Stock.{bins_of, Sized}
use Rattle.stock.proofs.Sizes.{spot_in}
use Rattle.stock.proofs.Delivery.{own-number}
use Rattle.stock.proofs.CallOff.{low-spot}
use Rattle.scan.specs.declared.Line.{Line}
use Rattle.year_entries.specs.declared.Answer.{Answer}
use Rattle.year_entries.specs.Year.{Told, entry_of, low_of, fault_of, told_as, answered, faulty}
use Rattle.year_entries.specs.Entered.{Summed, told_by}
use Rattle.year_entries.proofs.Moved.{summed-none}
use Rattle.year_act.specs.Kept.{answered_by, ShortInside, ShortNoted}

-- Number 0, 28 or 29.
abbrev pub OneOfThree : ℕ → Type 0
OneOfThree k = (k ≡ 0) ⊎ ((k ≡ 28) ⊎ (k ≡ 29))

two : (b : Bool) → OneOfThree (if b 28 0)
unfolding if
two true = inr (inl refl)
two false = inl refl

three : (a b : Bool) → OneOfThree (if (not a) 28 (if b 29 0))
unfolding if not
three true true = inr (inr refl)
three true false = inl refl
three false b = inr (inl refl)

-- Each entry is answered in one of four ways.
four : (f : Bool) (k : ℕ) → (f ≡ true → OneOfThree k) → bit (and f (eqb k 0)) + bit (and f (eqb k 28)) + bit (and f (eqb k 29)) + bit (not f) ≡ 1
unfolding bit and not
four false k h = refl
four true k h =
    ⊎_elim (λ e. at 0 refl e) (λ r. ⊎_elim (λ e. at 28 refl e) (λ e. at 29 refl e) r) (h refl)
  where
    ways : ℕ → ℕ
    ways j = bit (eqb j 0) + bit (eqb j 28) + bit (eqb j 29) + 0

    at : (j : ℕ) → ways j ≡ 1 → k ≡ j → ways k ≡ 1
    at j r e = ap ways e ∙ r

not_short : (b : Bool) → if {A = ℕ} b 28 0 ≡ 29 → ⊥
unfolding if
not_short true e = omega (arith, e)
not_short false e = omega (arith, e)

module _ (s : State) (t : sound_state s ≡ true) (counts : List ℕ) where
  -- The state is sound and the bins stand as they must: 9 and 27 never come.
  pub only-three : (e : Entry) → OneOfThree (number_of s (bins_of s counts) e)
  unfolding number_of delivery_number call_off_number
  only-three (delivery variable value amount) =
      subst OneOfThree (sym (own-number s t counts _)) (two (or (not (has_value s variable value)) (any (exceeds variable value amount) (bins_of s counts))))
  only-three (call_off solution amount) =
      subst OneOfThree (sym (own-number s t counts _)) (three (test_agrees (tested s solution)) (any (lacks solution amount) (bins_of s counts)))

  pub one_each : (line : ℕ) (l : Line)
      → bit (answered 0 (told_as s (bins_of s counts) line l)) + bit (answered 28 (told_as s (bins_of s counts) line l)) + bit (answered 29 (told_as s (bins_of s counts) line l))
      + bit (faulty (told_as s (bins_of s counts) line l)) ≡ 1
  unfolding answered faulty told_as
  one_each line l = four (eqb (fault_of line l) 0) _ (λ f. subst OneOfThree (sym (if-true _ _ 0 f)) (only-three (entry_of l)))

  low-real : {A : Type 0} (e : Entry) → number_of s (bins_of s counts) e ≡ 29
      → ((o v : ℕ) → o < s.n → v < get_or s.sizes o 0 → low_of s (bins_of s counts) e ≡ bin_of_place (suc o, v) (get_or counts (spot s.sizes o v) 0) → A) → A
  unfolding number_of delivery_number low_of
  low-real (delivery variable value amount) z k =
      absurd (not_short (or (not (has_value s variable value)) (any (exceeds variable value amount) (bins_of s counts))) (sym (own-number s t counts _) ∙ z))
  low-real (call_off solution amount) z k = low-spot s t counts solution amount z k

  -- Of an answer with 29.
  module _ (line : ℕ) (l : Line) (a : Answer) (told : told_by line l a ≡ told_as s (bins_of s counts) line l) where
    low-bin : {A : Type 0} → answered_by 29 a ≡ true
        → ((o v : ℕ) → o < s.n → v < get_or s.sizes o 0 → a.low ≡ bin_of_place (suc o, v) (get_or counts (spot s.sizes o v) 0) → A) → A
    unfolding told_as answered_by
    low-bin h k =
        let f : eqb (fault_of line l) 0 ≡ true = ap (λ (x : Told). eqb x.fault 0) (sym told) ∙ and_l _ _ h in
        let n : number_of s (bins_of s counts) (entry_of l) ≡ 29 = sym (if-true _ _ 0 f) ∙ ap (λ (x : Told). x.number) (sym told) ∙ eqb-true _ 29 (and_r _ _ h) in
        low-real (entry_of l) n (λ o v lo b q. k o v lo b (ap (λ (x : Told). x.low) told ∙ if-true _ _ no_bin f ∙ q))

    pub short-inside : Sized (record { n = s.n; sizes = s.sizes; domains = s.domains; leaders = s.leaders; stated = s.stated }) → ShortInside s.sizes a
    short-inside S =
        record {
          from_1 = λ h. low-bin h (λ o v lo b q. let e : a.low.variable ≡ suc o = ap (λ (x : Bin). x.variable) q in omega (arith, e));
          to_16 = λ h. low-bin h (λ o v lo b q. let e : a.low.variable ≡ suc o = ap (λ (x : Bin). x.variable) q in omega (arith, e, lo, S.n_most));
          inside = λ h. low-bin h (λ o v lo b q.
              let e : a.low.variable - 1 ≡ o = omega (arith, ap (λ (x : Bin). x.variable) q) in
              subst (λ (k : ℕ). k < 512) (λ i. spot s.sizes (sym e i) (sym (ap (λ (x : Bin). x.value) q) i)) (spot_in (record { n = s.n; sizes = s.sizes; domains = s.domains; leaders = s.leaders; stated = s.stated }) S o v lo b));
        }

    -- It is counted at its own index alone.
    pub short-summed : (shorts shorts' : List ℕ) → length shorts ≡ 512 → ShortInside s.sizes a → ShortNoted s.sizes a shorts shorts'
        → Summed s (λ (p : Place). bit (and (answered_by 29 a) (is_of p.0 p.1 a.low))) shorts shorts'
    unfolding is_of
    short-summed shorts shorts' room S e =
        by_cases (answered_by 29 a)
        (λ h. low-bin h (λ x w lx bw q.
        let at : spot s.sizes (a.low.variable - 1) a.low.value ≡ spot s.sizes x w = (let r : a.low.variable - 1 ≡ x = omega (arith, ap (λ (k : Bin). k.variable) q) in
        λ i. spot s.sizes (r i) (ap (λ (k : Bin). k.value) q i)) in
        let c : shorts' ≡ changed_at (plus 1) shorts (spot s.sizes x w) = e ∙ if-true _ _ _ h ∙ ap (changed_at (plus 1) shorts) at in
        let m : spot s.sizes x w < length shorts = omega (arith, at, S.inside h, room) in
        record {
          same_length = ap length c ∙ length-changed (plus 1) shorts (spot s.sizes x w);
          adds = λ o v lo bv r.
              ap (λ (xs : List ℕ). get_or xs (spot s.sizes o v) 0) c
              ∙ by_cases (and (eqb a.low.variable (suc o)) (eqb a.low.value v))
              (λ t. let one : bit (and (answered_by 29 a) (and (eqb a.low.variable (suc o)) (eqb a.low.value v))) ≡ 1 = bit-true _ (and_i _ _ h t) in
              let ox : o ≡ x = omega (arith, eqb-true a.low.variable (suc o) (and_l _ _ t), ap (λ (k : Bin). k.variable) q) in
              let vw : v ≡ w = sym (eqb-true a.low.value v (and_r _ _ t)) ∙ ap (λ (k : Bin). k.value) q in
              changed-here (plus 1) shorts (spot s.sizes x w) (spot s.sizes o v) m (λ i. spot s.sizes (ox i) (vw i))
              ∙ plus-is 1 (get_or shorts (spot s.sizes o v) 0) (omega (arith, one, r))
              ∙ ap (λ (k : ℕ). get_or shorts (spot s.sizes o v) 0 + k) (sym one))
              (λ t. let none : bit (and (answered_by 29 a) (and (eqb a.low.variable (suc o)) (eqb a.low.value v))) ≡ 0 = bit-false _ (ap (and (answered_by 29 a)) t ∙ and-false _) in
              changed-else (plus 1) shorts (spot s.sizes x w) (spot s.sizes o v) m
              (λ z. clash (and_i _ _
              (eq-eqb a.low.variable (suc o) (ap (λ (k : Bin). k.variable) q ∙ ap suc (sym (same-variable s.sizes o x v w bv bw z))))
              (eq-eqb a.low.value v (ap (λ (k : Bin). k.value) q ∙ sym (same-value s.sizes o x v w bv bw z)))) t)
              ∙ (let f : get_or shorts (spot s.sizes o v) 0 ≡ get_or shorts (spot s.sizes o v) 0 + bit (and (answered_by 29 a) (and (eqb a.low.variable (suc o)) (eqb a.low.value v))) = omega (arith, none) in f));
        }))
        (λ h. subst (Summed s _ shorts) (sym (e ∙ if-false _ _ _ h)) (summed-none s _ (λ p. bit-false _ (and-fails _ _ h)) shorts))
