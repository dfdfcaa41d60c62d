-- What comes next, by its index, is what stands next among the places.
use mathlib.Core.Bool.{true, false}
use mathlib.Core.List.{List}
use mathlib.Core.Path.{◌≡◌, sym, ◌∙◌, ap}
use Prim.Native.Nat.{ℕ, suc, ◌+◌, ◌-◌, ◌*◌, ◌≤◌, ◌<◌}
use native.Mathlib.Omega.{arith}
use lib.Dec.{eqb, leb}
use lib.ListN.{length, get_or}
use borrow.Author.Tests.{eqb-true, eqb-false, eq-eqb, ne_eqb, leb-false, lt-leb, lt-ltb}
use Rattle.bounded.specs.Bool.{and}
use Rattle.bounded.specs.Fold.{sum}
use Rattle.bounded.proofs.Bool.{by_cases, bool-ext, not-true→false, and_l, and_r, and_i, if-true, if-false}
use Rattle.bins.specs.Bins.{Place, places}
use Rattle.bins_counts.specs.Counts.{spot}
use Rattle.bins_counts.proofs.Spots.{no_place, ahead, Spot, spot-at, places-length, place_at, sum-within}
use Rattle.bins_text.specs.Text.{Sizes}
use Rattle.bins_text.specs.Machine.{place_index, in_order}
use Rattle.bins_text.proofs.Laws.{in-order-room, in-order-true}

module _ (n : ℕ) (sizes : List ℕ) where
  abbrev size : ℕ → ℕ
  size i = get_or sizes i 0

  abbrev ps : List Place
  ps = places n size

  -- A value of the variables, where its index is below 512.
  record Valued (variable value k : ℕ) : Type 0 where
    one_up : 1 ≤ variable
    inside : variable - 1 < n
    below : value < size (variable - 1)
    index : sum (variable - 1) size + value ≡ k

  valued : (variable value k : ℕ) → k < 512 → place_index n sizes variable value ≡ k → Valued variable value k
  unfolding place_index spot
  valued variable value k h e =
      by_cases (eqb variable 0)
      (λ t. absurd (let z : 512 ≡ k = sym (if-true _ _ _ t) ∙ e in let no : ⊥ = omega (arith, z) in no))
      (λ t. by_cases (leb n (variable - 1))
      (λ u. absurd (let z : 512 ≡ k = sym (if-false _ _ _ t ∙ if-true _ _ _ u) ∙ e in let no : ⊥ = omega (arith, z) in no))
      (λ u. by_cases (leb (size (variable - 1)) value)
      (λ w. absurd (let z : 512 ≡ k = sym (if-false _ _ _ t ∙ if-false _ _ _ u ∙ if-true _ _ _ w) ∙ e in let no : ⊥ = omega (arith, z) in no))
      (λ w. record {
        one_up = let d = eqb-false variable 0 t in omega (arith, d);
        inside = leb-false n (variable - 1) u;
        below = leb-false (size (variable - 1)) value w;
        index = sym (if-false _ _ _ t ∙ if-false _ _ _ u ∙ if-false _ _ _ w) ∙ e;
      })))

  in-order-valued : (k variable value : ℕ) → in_order n sizes k variable value ≡ true → Valued variable value k
  unfolding in_order
  in-order-valued k variable value h =
      let room = in-order-room n sizes k variable value h in
      valued variable value k room (eqb-true _ k (sym (if-true _ _ _ (lt-ltb k 512 room)) ∙ h))

  -- Its place is the one at the index,
  placed : (k variable value : ℕ) → Valued variable value k → get_or ps k no_place ≡ (variable, value)
  placed k variable value v =
      let e : suc (variable - 1) ≡ variable = omega (arith, v.one_up) in
      ap (λ (i : ℕ). get_or ps i no_place) (sym v.index)
      ∙ place_at size n (variable - 1) value v.inside v.below
      ∙ (λ i. (e i, value))

  -- and it is one of them.
  index_below : (k variable value : ℕ) → Valued variable value k → k < length ps
  index_below k variable value v =
      omega (arith, places-length size n, ahead size (variable - 1) n value v.inside v.below, v.index)

  index_of : (variable value k : ℕ) → Valued variable value k → place_index n sizes variable value ≡ k
  unfolding place_index spot
  index_of variable value k v =
      if-false _ _ _ (ne_eqb variable 0 (λ z. omega (arith, v.one_up)))
      ∙ if-false _ _ _ (lt-leb n (variable - 1) v.inside)
      ∙ if-false _ _ _ (lt-leb (size (variable - 1)) value v.below)
      ∙ v.index

  module _ (fit : Sizes n sizes) where
    few : length ps ≤ 512
    few =
        let m : n * 32 ≤ 512 = omega (arith, fit.n_most) in
        omega (arith, places-length size n, sum-within size n 32 fit.size_most, m)

    -- Past the last nothing comes.
    pub none-next : (k variable value : ℕ) → length ps ≤ k → in_order n sizes k variable value ≡ false
    none-next k variable value h =
        not-true→false _ (λ t. let b = index_below k variable value (in-order-valued k variable value t) in omega (arith, b))

    held : (k : ℕ) → k < length ps → Spot size n k
    held k h = spot-at size n k (omega (arith, places-length size n))

    -- Else what stands at the index.
    pub is-next : (k variable value : ℕ) → k < length ps
        → in_order n sizes k variable value ≡ and (eqb variable (get_or ps k no_place).0) (eqb value (get_or ps k no_place).1)
    is-next k variable value h =
        bool-ext _ _
        (λ t. let e = placed k variable value (in-order-valued k variable value t) in
        and_i _ _ (eq-eqb variable _ (ap (λ (p : Place). p.0) (sym e))) (eq-eqb value _ (ap (λ (p : Place). p.1) (sym e))))
        (λ t. stands k variable value h (eqb-true variable _ (and_l _ _ t)) (eqb-true value _ (and_r _ _ t)))
      where
        stands : (k variable value : ℕ) → k < length ps → variable ≡ (get_or ps k no_place).0 → value ≡ (get_or ps k no_place).1 → in_order n sizes k variable value ≡ true
        stands k variable value h a b =
            let s = held k h in
            let e : get_or ps k no_place ≡ (suc s.variable, s.value) = ap (λ (i : ℕ). get_or ps i no_place) s.at ∙ place_at size n s.variable s.value s.inside s.below in
            let x : variable ≡ suc s.variable = a ∙ ap (λ (p : Place). p.0) e in
            let y : value ≡ s.value = b ∙ ap (λ (p : Place). p.1) e in
            let z : variable - 1 ≡ s.variable = omega (arith, x) in
            let v : Valued variable value k =
            record {
              one_up = omega (arith, x);
              inside = omega (arith, z, s.inside);
              below = omega (arith, y, s.below, ap size z);
              index = let q = ap (λ (i : ℕ). sum i size) z in omega (arith, q, y, s.at);
            } in
            in-order-true n sizes k variable value (omega (arith, few, h)) (index_of variable value k v)
