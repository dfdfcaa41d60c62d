-- Each way that a line is answered: a fault of its text, or the call of its entry.
use mathlib.Core.Bool.{true, false}
use mathlib.Core.List.{List}
use mathlib.Core.Path.{◌≡◌, refl, sym, ap, subst, ◌∙◌}
use Prim.Native.Nat.{ℕ, suc, ◌-◌, ◌<◌, ◌≤◌, ◌^◌}
use native.Mathlib.Omega.{arith}
use lib.Dec.{eqb}
use lib.ListN.{get_or, take, drop}
use borrow.Author.Tests.{eqb-true, eqb-false, eq-eqb, ne_eqb, lt-ltb, le-ltb}
use Rattle.bounded.proofs.Bool.{by_cases, if-true, if-false}
use Rattle.bins.specs.declared.Bin.{Bin}
use Rattle.bins.specs.Bins.{Place, no_bin}
use Rattle.state.specs.declared.state.State.{State}
use Rattle.state_bins.specs.Year.{Entry, delivery, call_off, number_of, delivered_to, called_off_from}
use Rattle.stock.specs.Stock.{bins_of}
use Rattle.scan.specs.declared.Line.{Line}
use Rattle.year_entries.specs.declared.Answer.{Answer}
use Rattle.year_entries.specs.Year.{entry_of, amount_of, low_of, most_lines, fault_of, place_of, told_as}
use Rattle.year_entries.specs.Entered.{Summed, moved, Entered, told_by, LineEntered}
use Rattle.year_entries.proofs.Moved.{summed-none}

-- The fault and its place, past the lines that are counted and before.
module _ (line : ℕ) (l : Line) where
  pub fault_past : most_lines < line → fault_of line l ≡ 108
  unfolding fault_of
  fault_past h = if-true _ _ _ (lt-ltb most_lines line h)

  pub place-past : most_lines < line → place_of line l ≡ 1
  unfolding place_of
  place-past h = if-true _ _ _ (lt-ltb most_lines line h)

  pub fault-own : line ≤ most_lines → fault_of line l ≡ l.fault
  unfolding fault_of
  fault-own h = if-false _ _ _ (le-ltb most_lines line h)

  pub place-own : line ≤ most_lines → place_of line l ≡ l.place
  unfolding place_of
  place-own h = if-false _ _ _ (le-ltb most_lines line h)

module _ (l : Line) where
  pub is-delivery : l.kind ≡ 1 → entry_of l ≡ delivery (get_or l.cells 0 0) (get_or l.cells 1 0) (get_or l.cells 2 0)
  unfolding entry_of
  is-delivery e = if-true _ _ _ (eq-eqb l.kind 1 e)

  pub is-call-off : (l.kind ≡ 1 → ⊥) → entry_of l ≡ call_off (take (l.count - 1) (drop 1 l.cells)) (get_or l.cells 0 0)
  unfolding entry_of
  is-call-off d = if-false _ _ _ (ne_eqb l.kind 1 d)

  amount_lt : ((k : ℕ) → get_or l.cells k 0 < 2 ^ 32) → amount_of (entry_of l) < 2 ^ 32
  amount_lt small =
      by_cases (eqb l.kind 1)
      (λ t. subst (λ (e : Entry). amount_of e < 2 ^ 32) (sym (is-delivery (eqb-true l.kind 1 t))) (small 2))
      (λ t. subst (λ (e : Entry). amount_of e < 2 ^ 32) (sym (is-call-off (eqb-false l.kind 1 t))) (small 0))

abbrev answer : (fault place number : ℕ) → Bin → Answer
answer fault place number low = record { fault = fault; place = place; number = number; low = low }

module _ (s : State) (line : ℕ) (l : Line) (small : (k : ℕ) → get_or l.cells k 0 < 2 ^ 32) (a : Answer) where
  -- A fault changes nothing.
  pub faulted : (fault place : ℕ) → fault_of line l ≡ fault → place_of line l ≡ place → (fault ≡ 0 → ⊥) → a ≡ answer fault place 0 no_bin
      → (counts ins outs : List ℕ) → LineEntered s line l counts counts ins ins outs outs a
  unfolding told_as
  faulted fault place ef ep d e counts ins outs =
      let none : eqb (fault_of line l) 0 ≡ false = ap (λ (k : ℕ). eqb k 0) ef ∙ ne_eqb fault 0 d in
      let own : eqb a.fault 0 ≡ false = ap (λ (x : Answer). eqb x.fault 0) e ∙ ne_eqb fault 0 d in
      record {
        told_is =
            ap (told_by line l) e
            ∙ (λ i. record {
              line = line;
              entry = entry_of l;
              fault = sym ef i;
              place = sym ep i;
              number = sym (if-false _ (number_of s (bins_of s counts) (entry_of l)) 0 none) i;
              low = sym (if-false _ (low_of s (bins_of s counts) (entry_of l)) no_bin none) i;
            });
        bins_are = sym (if-false _ _ _ none);
        ins_are = summed-none s _ (λ p. if-false _ _ _ own) ins;
        outs_are = summed-none s _ (λ p. if-false _ _ _ own) outs;
        same_length = refl;
        amount_lt = amount_lt l small;
      }

  own-sum : (f g : Place → ℕ) → ((p : Place) → f p ≡ g p) → (xs ys : List ℕ) → Summed s f xs ys → Summed s g xs ys
  own-sum f g e xs ys h =
      record {
        same_length = h.same_length;
        adds = λ o v lo b r. let q = e (suc o, v) in let k = h.adds o v lo b (omega (arith, q, r)) in omega (arith, q, k);
      }

  -- An entry is its call.
  pub called : (place : ℕ) → fault_of line l ≡ 0 → place_of line l ≡ place → (number : ℕ) (low : Bin) → a ≡ answer 0 place number low
      → (counts counts' ins ins' outs outs' : List ℕ) → Entered s (entry_of l) counts counts' ins ins' outs outs' number low
      → LineEntered s line l counts counts' ins ins' outs outs' a
  unfolding told_as
  called place ef ep number low e counts counts' ins ins' outs outs' h =
      let some : eqb (fault_of line l) 0 ≡ true = eq-eqb (fault_of line l) 0 ef in
      let own : eqb a.fault 0 ≡ true = ap (λ (x : Answer). eqb x.fault 0) e ∙ eq-eqb 0 0 refl in
      let q : a.number ≡ number = ap (λ (x : Answer). x.number) e in
      record {
        told_is =
            ap (told_by line l) e
            ∙ (λ i. record {
              line = line;
              entry = entry_of l;
              fault = sym ef i;
              place = sym ep i;
              number = (h.number_is ∙ sym (if-true _ (number_of s (bins_of s counts) (entry_of l)) 0 some)) i;
              low = (h.low_is ∙ sym (if-true _ (low_of s (bins_of s counts) (entry_of l)) no_bin some)) i;
            });
        bins_are = h.bins_are ∙ sym (if-true _ _ _ some);
        ins_are = own-sum _ _ (λ p. sym (if-true _ _ _ own ∙ ap (λ (k : ℕ). moved k delivered_to (entry_of l) p) q)) ins ins' h.ins_are;
        outs_are = own-sum _ _ (λ p. sym (if-true _ _ _ own ∙ ap (λ (k : ℕ). moved k called_off_from (entry_of l) p) q)) outs outs' h.outs_are;
        same_length = h.same_length;
        amount_lt = amount_lt l small;
      }
