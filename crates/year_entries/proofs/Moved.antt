-- What an entry moves, as it is added to the sums.
use mathlib.Core.Bool.{true}
use mathlib.Core.List.{List}
use mathlib.Core.Path.{◌≡◌, refl, sym, ap, subst, ◌∙◌}
use Prim.Native.Nat.{ℕ, suc, ◌+◌, ◌-◌, ◌≤◌, ◌<◌}
use native.Mathlib.Omega.{arith}
use lib.Dec.{eqb, ltb}
use lib.ListN.{length, get_or}
use borrow.Author.Tests.{eqb-true, eq-eqb, ne_eqb, lt-ltb}
use Rattle.bounded.specs.Bool.{and, if}
use Rattle.bounded.proofs.Bool.{by_cases, clash, and_l, and_r, and_i, and-holds, if-true, if-false}
use Rattle.bins.specs.declared.Bin.{Bin}
use Rattle.bins.specs.Bins.{Place, no_bin}
use Rattle.bins_counts.specs.Counts.{spot, plus, changed_at, changed_each}
use Rattle.bins_counts.proofs.Changed.{length-changed, changed-here, changed-else, same-variable, same-value, length-each, each_at, plus-is}
use Rattle.head.specs.Held.{held}
use Rattle.state.specs.declared.state.State.{State}
use Rattle.answers.specs.Answers.{test_agrees}
use Rattle.state.specs.Solutions.{tested}
use Rattle.state_bins.specs.Bins.{delivery_number, call_off_number}
use Rattle.state_bins.specs.Year.{Entry, delivery, call_off, number_of, bins_after, delivered_to, called_off_from}
use Rattle.state_bins.proofs.Refuses.{says-yes, delivery-refuses, call-off-refuses}
use Rattle.stock.specs.Stock.{bins_of, CountsDelivered, CountsCalledOff}
use Rattle.year_entries.specs.Year.{low_of}
use Rattle.year_entries.specs.Entered.{Summed, moved, Entered}

-- Nothing is moved.
pub summed-none : (s : State) (f : Place → ℕ) → ((p : Place) → f p ≡ 0) → (xs : List ℕ) → Summed s f xs xs
summed-none s f z xs = record { same_length = refl; adds = λ o v l b h. let e = z (suc o, v) in omega (arith, e) }

unmoved : (number : ℕ) (k : ℕ) → (number ≡ 0 → ⊥) → if (eqb number 0) k 0 ≡ 0
unmoved number k d = if-false _ k 0 (ne_eqb number 0 d)

pub moved-zero : (number k : ℕ) → k ≡ 0 → if (eqb number 0) k 0 ≡ 0
moved-zero number k z = by_cases (eqb number 0) (λ t. if-true _ k 0 t ∙ z) (λ t. if-false _ k 0 t)

pub refused_none : (s : State) (number : ℕ) (f : Place → Entry → ℕ) (e : Entry) → (number ≡ 0 → ⊥) → (xs : List ℕ) → Summed s (moved number f e) xs xs
refused_none s number f e d xs = summed-none s (moved number f e) (λ p. unmoved number (f p e) d) xs

-- The value of a delivery that is taken.
module _ (s : State) (counts : List ℕ) (variable value amount : ℕ) (z : delivery_number s (bins_of s counts) variable value amount ≡ 0) where
  pub from_1 : 1 ≤ variable
  from_1 = ((delivery-refuses s (bins_of s counts) variable value amount).number_0.0 z).1.1.0.numbered.from_1

  pub to_n : variable ≤ s.n
  unfolding held
  to_n = ((delivery-refuses s (bins_of s counts) variable value amount).number_0.0 z).1.1.0.numbered.to_n

  pub below_size : value < get_or s.sizes (variable - 1) 0
  below_size = ((delivery-refuses s (bins_of s counts) variable value amount).number_0.0 z).1.1.0.below_size

  -- The sum of its bin is more by the amount, and no other.
  pub delivered-sum : (number : ℕ) → number ≡ 0 → (xs : List ℕ) → spot s.sizes (variable - 1) value < length xs
      → Summed s (moved number delivered_to (delivery variable value amount)) xs (changed_at (plus amount) xs (spot s.sizes (variable - 1) value))
  unfolding delivered_to
  delivered-sum number n xs room =
      record {
        same_length = length-changed (plus amount) xs at;
        adds = λ o v l b h.
            by_cases (and (eqb (suc o) variable) (eqb v value))
            (λ t. let q : o ≡ variable - 1 = omega (arith, eqb-true (suc o) variable (and_l _ _ t)) in
            let e : spot s.sizes o v ≡ at = λ i. spot s.sizes (q i) (eqb-true v value (and_r _ _ t) i) in
            let m : moved number delivered_to (delivery variable value amount) (suc o, v) ≡ amount = if-true _ _ 0 (eq-eqb number 0 n) ∙ if-true _ amount 0 t in
            changed-here (plus amount) xs at (spot s.sizes o v) room e
            ∙ plus-is amount (get_or xs (spot s.sizes o v) 0) (omega (arith, m, h)) ∙ ap (λ (k : ℕ). get_or xs (spot s.sizes o v) 0 + k) (sym m))
            (λ t. let d : spot s.sizes o v ≡ at → ⊥ = λ e. clash (there o v b e) t in
            let m : moved number delivered_to (delivery variable value amount) (suc o, v) ≡ 0 = if-true _ _ 0 (eq-eqb number 0 n) ∙ if-false _ amount 0 t in
            changed-else (plus amount) xs at (spot s.sizes o v) room d ∙ (let r : get_or xs (spot s.sizes o v) 0 ≡ get_or xs (spot s.sizes o v) 0 + moved number delivered_to (delivery variable value amount) (suc o, v) = omega (arith, m) in r));
      }
    where
      at : ℕ
      at = spot s.sizes (variable - 1) value

      there : (o v : ℕ) → v < get_or s.sizes o 0 → spot s.sizes o v ≡ at → and (eqb (suc o) variable) (eqb v value) ≡ true
      there o v b e =
          let q = same-variable s.sizes o (variable - 1) v value b below_size e in
          and_i _ _ (eq-eqb (suc o) variable (omega (arith, q, from_1))) (eq-eqb v value (same-value s.sizes o (variable - 1) v value b below_size e))

-- A delivery on counts with its sum.
pub delivery-entered : (s : State) (counts counts' ins ins' : List ℕ) (variable value amount number : ℕ) → CountsDelivered s counts counts' variable value amount number
    → Summed s (moved number delivered_to (delivery variable value amount)) ins ins' → (outs : List ℕ)
    → Entered s (delivery variable value amount) counts counts' ins ins' outs outs number no_bin
unfolding number_of bins_after low_of called_off_from
delivery-entered s counts counts' ins ins' variable value amount number d i outs =
    record {
      number_is = d.number_is;
      bins_are = d.bins_are;
      low_is = refl;
      ins_are = i;
      outs_are = summed-none s _ (λ p. moved-zero number 0 refl) outs;
      same_length = d.same_length;
    }

-- The sums of the bins that a call-off draws from.
module _ (s : State) (solution values : List ℕ) (amount : ℕ) (agree : (o : ℕ) → o < s.n → get_or solution o 0 ≡ get_or values o 0)
    (below : (k : ℕ) → k < s.n → get_or values k 0 < get_or s.sizes k 0) where
  pub drawn-sum : (number : ℕ) → number ≡ 0 → (xs : List ℕ) → ((k : ℕ) → k < s.n → spot s.sizes k (get_or values k 0) < length xs)
      → Summed s (moved number called_off_from (call_off solution amount)) xs (changed_each (plus amount) s.sizes values xs s.n)
  unfolding called_off_from
  drawn-sum number n xs room =
      record {
        same_length = length-each (plus amount) s.n s.sizes values xs below room s.n;
        adds = λ o v l b h.
            by_cases (eqb (get_or values o 0) v)
            (λ t. let m : moved number called_off_from (call_off solution amount) (suc o, v) ≡ amount = if-true _ _ 0 (eq-eqb number 0 n) ∙ if-true _ amount 0 (test o v l ∙ t) in
            each_at (plus amount) s.n s.sizes values xs below room o v l b ∙ if-true _ _ _ t
            ∙ plus-is amount (get_or xs (spot s.sizes o v) 0) (omega (arith, m, h)) ∙ ap (λ (k : ℕ). get_or xs (spot s.sizes o v) 0 + k) (sym m))
            (λ t. let m : moved number called_off_from (call_off solution amount) (suc o, v) ≡ 0 = if-true _ _ 0 (eq-eqb number 0 n) ∙ if-false _ amount 0 (test o v l ∙ t) in
            each_at (plus amount) s.n s.sizes values xs below room o v l b ∙ if-false _ _ _ t
            ∙ (let r : get_or xs (spot s.sizes o v) 0 ≡ get_or xs (spot s.sizes o v) 0 + moved number called_off_from (call_off solution amount) (suc o, v) = omega (arith, m) in r));
      }
    where
      test : (o v : ℕ) → o < s.n → and (ltb 0 (suc o)) (eqb (get_or solution (suc o - 1) 0) v) ≡ eqb (get_or values o 0) v
      test o v l =
          let e : suc o - 1 ≡ o = omega arith in
          and-holds _ _ (lt-ltb 0 (suc o) (omega arith)) ∙ ap (λ (k : ℕ). eqb k v) (ap (λ (k : ℕ). get_or solution k 0) e ∙ agree o l)

-- A call-off on counts with its sums.
pub call-off-entered : (s : State) (counts counts' outs outs' solution : List ℕ) (amount number : ℕ) (low : Bin) → CountsCalledOff s counts counts' solution amount number low
    → Summed s (moved number called_off_from (call_off solution amount)) outs outs' → (ins : List ℕ)
    → Entered s (call_off solution amount) counts counts' ins ins outs outs' number low
unfolding number_of bins_after low_of delivered_to
call-off-entered s counts counts' outs outs' solution amount number low d i ins =
    record {
      number_is = d.number_is;
      bins_are = d.bins_are;
      low_is = d.low_is;
      ins_are = summed-none s _ (λ p. moved-zero number 0 refl) ins;
      outs_are = i;
      same_length = d.same_length;
    }

-- The values of a call-off that is taken are those of a solution.
pub taken-solves : (s : State) (counts solution : List ℕ) (amount : ℕ) → call_off_number s (bins_of s counts) solution amount ≡ 0 → test_agrees (tested s solution) ≡ true
taken-solves s counts solution amount z = (says-yes (tested s solution)).1 ((call-off-refuses s (bins_of s counts) solution amount).number_0.0 z).1.1.0

-- The same of an equal entry.
pub entered-as : {s : State} {e e' : Entry} {counts counts' ins ins' outs outs' : List ℕ} {number : ℕ} {low : Bin} → e ≡ e'
    → Entered s e counts counts' ins ins' outs outs' number low → Entered s e' counts counts' ins ins' outs outs' number low
entered-as {s} {e} {e'} {counts} {counts'} {ins} {ins'} {outs} {outs'} {number} {low} q =
    subst (λ (x : Entry). Entered s x counts counts' ins ins' outs outs' number low) q
