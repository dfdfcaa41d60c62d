-- A call-off on counts is the call-off on their bins.
use mathlib.Core.Bool.{Bool, true, false}
use mathlib.Core.List.{List, map}
use mathlib.Core.Path.{◌≡◌, refl, sym, ap, subst, ◌∙◌}
use Prim.Native.Nat.{ℕ, suc, ◌+◌, ◌-◌, ◌≤◌, ◌<◌}
use native.Mathlib.Omega.{arith}
use lib.Dec.{eqb, ltb}
use lib.ListN.{length, get_or}
use borrow.Author.Tests.{eqb-true, eqb-false, eq-eqb, ne_eqb, ltb-true, ltb-false, lt-ltb}
use Rattle.bounded.specs.Bool.{and, not, if}
use Rattle.bounded.specs.Fold.{sum, first}
use Rattle.bounded.proofs.Bool.{by_cases, clash, not-true→false, and_l, and_r, and_i, and-holds, not-i, not-false-i, if-true, if-false}
use Rattle.bounded.proofs.Fold.{first_below, first_passes}
use Rattle.network.specs.Added.{Numbered}
use Rattle.head.specs.Held.{held}
use Rattle.bins.specs.declared.Bin.{Bin}
use Rattle.bins.specs.Bins.{any, no_bin, of_solution, with_count}
use Rattle.bins_counts.specs.Counts.{bin_of_place, first_of, spot, is_low, lowest, minus, changed_each}
use Rattle.bins_counts.proofs.Spots.{ahead}
use Rattle.bins_counts.proofs.Bins.{bins-map, any-spot, spot-any, first-spot, first_in, at-index}
use Rattle.bins_counts.proofs.Changed.{length-each, each_at}
use Rattle.answers.specs.Answers.{test_agrees}
use Rattle.state.specs.declared.state.State.{State}
use Rattle.state.specs.View.{view, sound_state}
use Rattle.state.specs.Solutions.{tested}
use Rattle.state_bins.specs.Bins.{lacks, call_off_number, called_off_bins}
use Rattle.state_bins.proofs.Refuses.{says-yes}
use Rattle.state_bins.proofs.Stock.{solution-values}
use Rattle.stock.specs.Stock.{bins_of, low_bin, CountsCalledOff}
use Rattle.stock.proofs.Delivery.{own-number}

other : {k m j : ℕ} → k ≡ m → (m ≡ j → ⊥) → eqb k j ≡ false
other {k} {m} {j} e d = ne_eqb k j (λ z. d (sym e ∙ z))

not-29 : (b : Bool) → if {A = ℕ} (not b) 28 (if false 29 0) ≡ 29 → ⊥
unfolding if not
not-29 true e = omega (arith, e)
not-29 false e = omega (arith, e)

module _ (s : State) (t : sound_state s ≡ true) (counts solution : List ℕ) (amount : ℕ) where
  number_by : (b l : Bool) → test_agrees (tested s solution) ≡ b → any (lacks solution amount) (bins_of s counts) ≡ l
      → call_off_number s (bins_of s counts) solution amount ≡ if (not b) 28 (if l 29 0)
  unfolding call_off_number
  number_by b l e f = own-number s t counts _ ∙ (λ i. if (not (e i)) 28 (if (f i) 29 0))

  -- Refused whatever the bins hold.
  pub no-solution : test_agrees (tested s solution) ≡ false → CountsCalledOff s counts counts solution amount 28 no_bin
  unfolding called_off_bins low_bin if not
  no-solution h =
      let e : call_off_number s (bins_of s counts) solution amount ≡ 28 = number_by false _ h refl in
      record {
        number_is = sym e;
        bins_are = sym (if-false _ _ _ (other e (λ z. omega (arith, z))));
        low_is = sym (if-false _ _ _ (other e (λ z. omega (arith, z))));
        same_length = refl;
      }

  -- The bin that a 29 names is that of a value of the state.
  pub low-spot : {A : Type 0} → call_off_number s (bins_of s counts) solution amount ≡ 29
      → ((o v : ℕ) → o < s.n → v < get_or s.sizes o 0 → low_bin s (bins_of s counts) solution amount ≡ bin_of_place (suc o, v) (get_or counts (spot s.sizes o v) 0) → A) → A
  unfolding low_bin
  low-spot {A} z k =
      let r = first_in (lacks solution amount) (bins_of s counts) some-low in
      let e = if-true _ (first_of (lacks solution amount) (bins_of s counts)) no_bin (eq-eqb _ 29 z) ∙ r.2 in
      at-index s.n s.sizes counts (λ (i : ℕ) (b : Bin). low_bin s (bins_of s counts) solution amount ≡ b → A) k r.0 r.1 e
    where
      some-low : any (lacks solution amount) (bins_of s counts) ≡ true
      some-low = by_cases (any (lacks solution amount) (bins_of s counts)) (λ t. t)
          (λ f. absurd (not-29 (test_agrees (tested s solution)) (sym (number_by (test_agrees (tested s solution)) false refl f) ∙ z)))

  module _ (values : List ℕ) (agree : (o : ℕ) → o < s.n → get_or solution o 0 ≡ get_or values o 0) (y : test_agrees (tested s solution) ≡ true) where
    abbrev sizes : List ℕ
    sizes = s.sizes

    abbrev at : ℕ → ℕ
    at o = spot s.sizes o (get_or values o 0)

    pub value_in : (o : ℕ) → o < s.n → get_or values o 0 < get_or s.sizes o 0
    unfolding held
    value_in o l =
        let N : Numbered (view s) (o + 1) = record { from_1 = omega arith; to_n = omega (arith, l) } in
        let e : o + 1 - 1 ≡ o = omega arith in
        let b = (solution-values s solution ((says-yes (tested s solution)).0 y) (o + 1) N).below_size in
        subst (λ (k : ℕ). k < get_or s.sizes o 0) (agree o l) (subst (λ (k : ℕ). get_or solution k 0 < get_or s.sizes k 0) e b)

    of_at : (o v c : ℕ) → o < s.n → of_solution solution (bin_of_place (suc o, v) c) ≡ eqb (get_or values o 0) v
    unfolding of_solution
    of_at o v c l =
        let e : suc o - 1 ≡ o = omega arith in
        and-holds _ _ (lt-ltb 0 (suc o) (omega arith)) ∙ ap (λ (k : ℕ). eqb k v) (ap (λ (k : ℕ). get_or solution k 0) e ∙ agree o l)

    -- A bin that lacks is that of a variable's value, whose count is low.
    low_value : (o v : ℕ) → o < s.n → lacks solution amount (bin_of_place (suc o, v) (get_or counts (spot s.sizes o v) 0)) ≡ true → get_or values o 0 ≡ v
    unfolding lacks
    low_value o v l h = eqb-true _ v (sym (of_at o v _ l) ∙ and_l _ _ h)

    low-there : (o v : ℕ) → o < s.n → lacks solution amount (bin_of_place (suc o, v) (get_or counts (spot s.sizes o v) 0)) ≡ true → is_low s.sizes values counts amount o ≡ true
    unfolding lacks is_low
    low-there o v l h =
        subst (λ (k : ℕ). ltb (get_or counts (spot s.sizes o k) 0) amount ≡ true)
        (sym (low_value o v l h)) (and_r _ _ h)

    low-here : (o : ℕ) → o < s.n → is_low s.sizes values counts amount o ≡ true → lacks solution amount (bin_of_place (suc o, get_or values o 0) (get_or counts (at o) 0)) ≡ true
    unfolding lacks is_low
    low-here o l h = and_i _ _ (of_at o (get_or values o 0) _ l ∙ eq-eqb (get_or values o 0) (get_or values o 0) refl) h

    -- "29 for a bin too low": the first of them.
    module _ (o : ℕ) (e : o ≡ lowest s.n s.sizes values counts amount) where
      before-none : (x : ℕ) → x < o → is_low s.sizes values counts amount x ≡ false
      unfolding lowest
      before-none x l = first_below s.n (is_low s.sizes values counts amount) x (omega (arith, e, l))

      is-low : o < s.n → is_low s.sizes values counts amount o ≡ true
      unfolding lowest
      is-low l = subst (λ (k : ℕ). is_low s.sizes values counts amount k ≡ true) (sym e) (first_passes s.n (is_low s.sizes values counts amount) (omega (arith, e, l)))

      earlier : (l : o < s.n) (x w : ℕ) → x < s.n → w < get_or s.sizes x 0 → spot s.sizes x w < at o
          → lacks solution amount (bin_of_place (suc x, w) (get_or counts (spot s.sizes x w) 0)) ≡ false
      unfolding spot
      earlier l x w m b h =
          not-true→false _ (λ p. by_cases (ltb x o)
          (λ u. clash (low-there x w m p) (before-none x (ltb-true x o u)))
          (λ u. by_cases (eqb x o)
          (λ q. let r = eqb-true x o q in
          let z : sum x (λ (i : ℕ). get_or s.sizes i 0) + w ≡ sum o (λ (i : ℕ). get_or s.sizes i 0) + get_or values o 0 =
          λ i. sum (r i) (λ (i : ℕ). get_or s.sizes i 0) + (sym (low_value x w m p) ∙ ap (λ (k : ℕ). get_or values k 0) r) i in
          let no : ⊥ = omega (arith, z, h) in no)
          (λ q. let a = ahead (λ (i : ℕ). get_or s.sizes i 0) o x (get_or values o 0) (after x (ltb-false x o u) (eqb-false x o q)) (value_in o l) in
          let no : ⊥ = omega (arith, a, h) in no)))
        where
          after : (x : ℕ) → o ≤ x → (x ≡ o → ⊥) → o < x
          after x g d = omega (arith, g, d)

      pub too-low : o < s.n → CountsCalledOff s counts counts solution amount 29 (bin_of_place (suc o, get_or values o 0) (get_or counts (at o) 0))
      unfolding called_off_bins low_bin if not
      too-low l =
          let f = low-here o l (is-low l) in
          let z : call_off_number s (bins_of s counts) solution amount ≡ 29 =
          number_by true true y (spot-any s.n s.sizes counts (lacks solution amount) o (get_or values o 0) l (value_in o l) f) in
          record {
            number_is = sym z;
            bins_are = sym (if-false _ _ _ (other z (λ q. omega (arith, q))));
            low_is = sym (if-true _ _ _ (eq-eqb _ 29 z) ∙ first-spot s.n s.sizes counts (lacks solution amount) o (get_or values o 0) l (value_in o l) f (earlier l));
            same_length = refl;
          }

      none-low : s.n ≤ o → any (lacks solution amount) (bins_of s counts) ≡ false
      none-low m = not-true→false _ (λ p. any-spot s.n s.sizes counts (lacks solution amount) p
          (λ x w l b h. clash (low-there x w l h) (before-none x (omega (arith, m, l)))))

      -- Taken: the bin of each value has the amount less.
      abbrev after : List ℕ
      after = changed_each (minus amount) s.sizes values counts s.n

      one_bin : (b : Bool) (x v c c' : ℕ) → c' ≡ if b (c - amount) c → if b (bin_of_place (x, v) (c - amount)) (bin_of_place (x, v) c) ≡ bin_of_place (x, v) c'
      unfolding if
      one_bin true x v c c' q = ap (bin_of_place (x, v)) (sym q)
      one_bin false x v c c' q = ap (bin_of_place (x, v)) (sym q)

      pub taken : s.n ≤ o → ((k : ℕ) → k < s.n → at k < length counts) → CountsCalledOff s counts after solution amount 0 no_bin
      unfolding called_off_bins low_bin if not
      taken m inside =
          let z : call_off_number s (bins_of s counts) solution amount ≡ 0 = number_by true false y (none-low m) in
          record {
            number_is = sym z;
            bins_are =
                sym (if-true _ _ _ (eq-eqb _ 0 z)
                ∙ bins-map s.n s.sizes counts _ after
                (λ x v l b. ap (λ (u : Bool). if u (bin_of_place (suc x, v) (get_or counts (spot s.sizes x v) 0 - amount)) (bin_of_place (suc x, v) (get_or counts (spot s.sizes x v) 0))) (of_at x v _ l)
                ∙ one_bin (eqb (get_or values x 0) v) (suc x) v (get_or counts (spot s.sizes x v) 0) _ (each_at (minus amount) s.n s.sizes values counts value_in inside x v l b)));
            low_is = sym (if-false _ _ _ (other z (λ q. omega (arith, q))));
            same_length = length-each (minus amount) s.n s.sizes values counts value_in inside s.n;
          }

-- The same of equal counts and an equal bin.
pub called-as : {s : State} {before after after' solution : List ℕ} {amount number : ℕ} {low low' : Bin} → after ≡ after' → low ≡ low'
    → CountsCalledOff s before after' solution amount number low' → CountsCalledOff s before after solution amount number low
called-as {s} {before} {after} {after'} {solution} {amount} {number} {low} {low'} e f =
    subst (λ (x : List ℕ × Bin). CountsCalledOff s before x.0 solution amount number x.1) (λ i. (sym e i, sym f i))
