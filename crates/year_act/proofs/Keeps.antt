-- What a line does to what is kept is what it does to the year.
use mathlib.Core.Bool.{Bool, true, false}
use mathlib.Core.List.{List, [], ◌∷◌, ◌++◌}
use mathlib.Core.Path.{◌≡◌, refl, sym, ap, subst, ◌∙◌}
use Prim.Native.Nat.{ℕ, suc, ◌+◌, ◌≤◌, ◌<◌, ◌^◌}
use native.Mathlib.Omega.{arith}
use lib.Dec.{eqb, leb}
use lib.ListN.{length, get_or}
use borrow.Author.Tests.{leb-true, lt-ltb, le-ltb}
use Rattle.bounded.specs.Bool.{and, not, bit, if}
use Rattle.bounded.proofs.Bool.{by_cases, bit_le, if-true, if-false}
use Rattle.bins.specs.Bins.{Place, is_of}
use Rattle.bins_counts.specs.Counts.{spot}
use Rattle.state.specs.declared.state.State.{State}
use Rattle.state.specs.View.{sound_state}
use Rattle.state_bins.specs.Year.{Entry, bins_after, delivered_to, called_off_from, accepted_sum}
use Rattle.stock.specs.Stock.{bins_of}
use Rattle.scan.specs.declared.Line.{Line}
use Rattle.year_entries.specs.declared.Answer.{Answer}
use Rattle.year_entries.specs.Year.{Told, Year, is_entry, entry_of, amount_of, most_lines, fault_of, told_as, new_year, entered, passed, has_ended, act, answered, faulty, short_of, tally, recorded_of, first_short}
use Rattle.year_entries.specs.Entered.{Summed, told_by, LineEntered}
use Rattle.year_act.specs.declared.Entries.{Entries}
use Rattle.year_act.specs.Answers.{answer_text, told_text, answer}
use Rattle.year_act.specs.Kept.{AtEach, Within, Kept, answered_by, new_entries, noted_of, passed_of}
use Rattle.year_act.proofs.Low.{one_each}
use Rattle.year_act.proofs.Sums.{length_more, tally-more, tally-le, counted-more, adds, sum_more, adds-le, delivered-le, called-le, shortage, first_more}

up-most : (k : ℕ) → k ≤ most_lines + 2 → if (leb k most_lines) (k + 1) k ≤ most_lines + 2
up-most k h =
    by_cases (leb k most_lines)
    (λ t. let e : if (leb k most_lines) (k + 1) k ≡ k + 1 = if-true _ _ _ t in omega (arith, e, leb-true k most_lines t))
    (λ t. let e : if (leb k most_lines) (k + 1) k ≡ k = if-false _ _ _ t in omega (arith, e, h))

up_more : (n k : ℕ) → n < k → n < if (leb k most_lines) (k + 1) k
up_more n k h =
    by_cases (leb k most_lines)
    (λ t. let e : if (leb k most_lines) (k + 1) k ≡ k + 1 = if-true _ _ _ t in omega (arith, e, h))
    (λ t. let e : if (leb k most_lines) (k + 1) k ≡ k = if-false _ _ _ t in omega (arith, e, h))

module _ (s : State) (y : Year) (counts ins outs shorts : List ℕ) (e : Entries) (K : Kept s y counts ins outs shorts e) (l : Line) where
  -- A blank line.
  blank : Kept s (passed y) counts ins outs shorts (passed_of e)
  unfolding passed passed_of
  blank =
      record {
        bins_are = K.bins_are;
        line_is = ap (λ (k : ℕ). if (leb k most_lines) (k + 1) k) K.line_is;
        line_most = up-most y.line K.line_most;
        told_most = up_more (length y.told) y.line K.told_most;
        ins_are = K.ins_are;
        ins_most = K.ins_most;
        outs_are = K.outs_are;
        outs_most = K.outs_most;
        shorts_are = K.shorts_are;
        ok_is = K.ok_is;
        r28_is = K.r28_is;
        r29_is = K.r29_is;
        text_is = K.text_is;
        all_is = K.all_is;
        first_is = K.first_is;
      }

  pub kept-blank : is_entry l ≡ false → Kept s (act s y l) counts ins outs shorts (passed_of e)
  unfolding act
  kept-blank h = subst (λ (x : Year). Kept s x counts ins outs shorts (passed_of e)) (sym (if-false _ _ _ h)) blank

  pub text-blank : (quiet : Bool) → is_entry l ≡ false → [] ≡ answer quiet s y l
  unfolding answer
  text-blank quiet h = sym (if-false _ _ _ h)

  -- After a 108.
  ended : 4294967296 < e.line → has_ended y ≡ true
  unfolding has_ended
  ended h = lt-ltb (most_lines + 1) y.line (omega (arith, K.line_is, h))

  pub kept-ended : is_entry l ≡ true → 4294967296 < e.line → Kept s (act s y l) counts ins outs shorts e
  unfolding act
  kept-ended h m = subst (λ (x : Year). Kept s x counts ins outs shorts e) (sym (if-true _ _ _ h ∙ if-true _ _ _ (ended m))) K

  pub text-ended : (quiet : Bool) → is_entry l ≡ true → 4294967296 < e.line → [] ≡ answer quiet s y l
  unfolding answer
  text-ended quiet h m = sym (if-true _ _ _ h ∙ if-true _ _ _ (ended m))

  -- An entry.
  module _ (counts' ins' outs' shorts' : List ℕ) (a : Answer) (L : LineEntered s e.line l counts counts' ins ins' outs outs' a) (m : e.line ≤ 4294967296)
      (snd : sound_state s ≡ true) where
    abbrev t : Told
    t = told_as s y.bins y.line l

    abbrev ts : List Told
    ts = y.told

    told-eq : told_by e.line l a ≡ told_as s y.bins y.line l
    told-eq = L.told_is ∙ (λ i. told_as s (K.bins_are i) (K.line_is i) l)

    few : length y.told < 2 ^ 32
    few = omega (arith, K.told_most, K.line_is, m)

    small : amount_of t.entry < 2 ^ 32
    small = subst (λ (x : Told). amount_of x.entry < 2 ^ 32) told-eq L.amount_lt

    -- A sum over the recorded list.
    module _ (f : Place → Entry → ℕ) (le : (p : Place) (x : Entry) → f p x ≤ amount_of x) (W : (p : Place) → Within (length y.told) (accepted_sum (f p) (recorded_of y.told))) where
      sum-within : (p : Place) → Within (length (y.told ++ (t ∷ []))) (accepted_sum (f p) (recorded_of (y.told ++ (t ∷ []))))
      sum-within p = omega (arith, length_more ts t, sum_more (f p) ts t, adds-le (f p) t (le p), small, W p)

      sum-at : (xs xs' : List ℕ) → AtEach s xs (λ (p : Place). accepted_sum (f p) (recorded_of y.told)) → Summed s (λ (p : Place). adds (f p) (told_by e.line l a)) xs xs'
          → AtEach s xs' (λ (p : Place). accepted_sum (f p) (recorded_of (y.told ++ (t ∷ []))))
      sum-at xs xs' A S o v lo b =
          let q : adds (f (suc o, v)) (told_by e.line l a) ≡ adds (f (suc o, v)) t = ap (adds (f (suc o, v))) told-eq in
          let h = A o v lo b in
          let r = S.adds o v lo b (omega (arith, q, h, adds-le (f (suc o, v)) t (le (suc o, v)), small, W (suc o, v), few)) in
          omega (arith, q, h, r, sum_more (f (suc o, v)) ts t)

    short-eq : (p : Place) → bit (and (answered_by 29 a) (is_of p.0 p.1 a.low)) ≡ bit (short_of p t)
    unfolding short_of answered answered_by
    short-eq p = ap (λ (x : Told). bit (short_of p x)) told-eq

    shorts-at : Summed s (λ (p : Place). bit (and (answered_by 29 a) (is_of p.0 p.1 a.low))) shorts shorts'
        → AtEach s shorts' (λ (p : Place). tally (short_of p) (y.told ++ (t ∷ [])))
    shorts-at S o v lo b =
        let q = short-eq (suc o, v) in
        let h = K.shorts_are o v lo b in
        let r = S.adds o v lo b (omega (arith, q, h, tally-le (short_of (suc o, v)) ts, bit_le (short_of (suc o, v) t), few)) in
        omega (arith, q, h, r, tally-more (short_of (suc o, v)) ts t)

    ans-eq : (k : ℕ) → answered_by k a ≡ answered k t
    unfolding answered_by answered
    ans-eq k = ap (answered k) told-eq

    ways : bit (answered 0 t) + bit (answered 28 t) + bit (answered 29 t) + bit (faulty t) ≡ 1
    ways =
        subst (λ (x : Told). bit (answered 0 x) + bit (answered 28 x) + bit (answered 29 x) + bit (faulty x) ≡ 1) (λ i. told_as s (K.bins_are i) y.line l)
        (one_each s snd counts y.line l)

    text-eq : not (eqb a.fault 0) ≡ faulty t
    unfolding faulty
    text-eq = ap faulty told-eq

    pub kept-entered : Summed s (λ (p : Place). bit (and (answered_by 29 a) (is_of p.0 p.1 a.low))) shorts shorts'
        → Kept s (entered s y l) counts' ins' outs' shorts' (noted_of e a (amount_of (entry_of l)))
    unfolding entered noted_of
    kept-entered S =
        record {
          bins_are = L.bins_are ∙ (λ i. if (eqb (fault_of (K.line_is i) l) 0) (bins_after s (K.bins_are i) (entry_of l)) (K.bins_are i));
          line_is = ap (λ (k : ℕ). k + 1) K.line_is;
          line_most = omega (arith, K.line_is, m);
          told_most = omega (arith, length_more ts t, K.told_most);
          ins_are = sum-at delivered_to delivered-le K.ins_most ins ins' K.ins_are L.ins_are;
          ins_most = sum-within delivered_to delivered-le K.ins_most;
          outs_are = sum-at called_off_from called-le K.outs_most outs outs' K.outs_are L.outs_are;
          outs_most = sum-within called_off_from called-le K.outs_most;
          shorts_are = shorts-at S;
          ok_is = counted-more (answered 0) ts t e.ok (answered_by 0 a) K.ok_is (ans-eq 0) few;
          r28_is = counted-more (answered 28) ts t e.r28 (answered_by 28 a) K.r28_is (ans-eq 28) few;
          r29_is = counted-more (answered 29) ts t e.r29 (answered_by 29 a) K.r29_is (ans-eq 29) few;
          text_is = counted-more faulty ts t e.text (not (eqb a.fault 0)) K.text_is text-eq few;
          all_is =
              omega
              (arith, tally-more (answered 0) ts t, tally-more (answered 28) ts t, tally-more (answered 29) ts t, tally-more faulty ts t, length_more ts t, ways, K.all_is);
          first_is =
              (λ i. if (and (ans-eq 29 i) (eqb (K.r29_is i) 0)) (shortage (told-eq i)) (K.first_is i))
              ∙ sym (first_more ts t);
        }

    is-going : has_ended y ≡ false
    unfolding has_ended
    is-going = le-ltb (most_lines + 1) y.line (omega (arith, K.line_is, m))

    pub kept_entry : is_entry l ≡ true → Summed s (λ (p : Place). bit (and (answered_by 29 a) (is_of p.0 p.1 a.low))) shorts shorts'
        → Kept s (act s y l) counts' ins' outs' shorts' (noted_of e a (amount_of (entry_of l)))
    unfolding act
    kept_entry h S =
        subst (λ (x : Year). Kept s x counts' ins' outs' shorts' (noted_of e a (amount_of (entry_of l)))) (sym (if-true _ _ _ h ∙ if-false _ _ _ is-going)) (kept-entered S)

    pub text-entry : (quiet : Bool) → is_entry l ≡ true → answer_text quiet e.line a.fault a.place a.number a.low ≡ answer quiet s y l
    unfolding answer
    text-entry quiet h = ap (told_text quiet) told-eq ∙ sym (if-true _ _ _ h ∙ if-false _ _ _ is-going)

-- Before the first line, with sums that are all 0.
pub kept_new : (s : State) (counts zeros : List ℕ) → ((k : ℕ) → get_or zeros k 0 ≡ 0) → Kept s (new_year (bins_of s counts)) counts zeros zeros zeros new_entries
unfolding new_year new_entries recorded_of tally first_short
kept_new s counts zeros z =
    record {
      bins_are = refl;
      line_is = refl;
      line_most = omega arith;
      told_most = omega arith;
      ins_are = λ o v l b. z (spot s.sizes o v);
      ins_most = λ p. omega arith;
      outs_are = λ o v l b. z (spot s.sizes o v);
      outs_most = λ p. omega arith;
      shorts_are = λ o v l b. z (spot s.sizes o v);
      ok_is = refl;
      r28_is = refl;
      r29_is = refl;
      text_is = refl;
      all_is = refl;
      first_is = refl;
    }
