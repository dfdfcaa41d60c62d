-- What each way through a test of a head says of its definition, in the order of the code; and what sizes that pass are.
use mathlib.Core.Bool.{Bool, true, false}
use mathlib.Core.List.{List}
use mathlib.Core.Path.{◌≡◌, sym, ◌∙◌}
use Prim.Native.Nat.{ℕ, ◌^◌, ◌≤◌, ◌<◌}
use native.Mathlib.Omega.{arith}
use lib.Dec.{eqb, leb, ltb}
use lib.ListN.{get_or}
use borrow.Author.Tests.{lt-ltb, le-ltb, lt-leb, le-leb, ltb-true, ltb-false, leb-true, eqb-true}
use Rattle.bounded.specs.Bool.{and}
use Rattle.bounded.proofs.Array.{array-past}
use Rattle.bounded.proofs.Bool.{by_cases, not-i, not-false-i, and_l, and_r, and-fails, and-holds, if-true, if-false}
use Rattle.bounded.proofs.Fold.{every-e}
use Rattle.words.specs.Word.{width, has}
use Rattle.pairs.specs.Pairs.{variables}
use Rattle.head.specs.declared.Head.{Head}
use Rattle.head.specs.Held.{values_at_most, HeadShaped}
use Rattle.soundness_head.specs.Fits.{size_fits, sizes_all_fit, within, domains_fit, stated_with, variable_fits, pairs_fit, head_fits}

-- ---- a size

module _ (n i size : ℕ) where
  pub size_past : n ≤ i → eqb size 0 ≡ size_fits n i size
  unfolding size_fits
  size_past h = sym (if-false _ _ _ (le-ltb i n h))

  pub size_none : i < n → size < 1 → false ≡ size_fits n i size
  unfolding size_fits
  size_none h k = sym (if-true _ _ _ (lt-ltb i n h) ∙ and-fails _ _ (lt-leb 1 size k))

  pub size-some : i < n → 1 ≤ size → leb size values_at_most ≡ size_fits n i size
  unfolding size_fits
  size-some h k = sym (if-true _ _ _ (lt-ltb i n h) ∙ and-holds _ _ (le-leb 1 size k))

-- ---- the stated pairs of a variable

module _ (n : ℕ) (stated : List ℕ) (i : ℕ) where
  pub variable-past : n ≤ i → eqb (get_or stated i 0) 0 ≡ variable_fits n stated i
  unfolding variable_fits
  variable-past l = sym (if-false _ _ _ (le-ltb i n l))

  pub variable-high : i < n → within width (get_or stated i 0) n ≡ false → false ≡ variable_fits n stated i
  unfolding variable_fits
  variable-high l h = sym (if-true _ _ _ (lt-ltb i n l) ∙ and-fails _ _ h)

  pub variable-self : i < n → within width (get_or stated i 0) n ≡ true → has (get_or stated i 0) i ≡ true → false ≡ variable_fits n stated i
  unfolding variable_fits
  variable-self l h k = sym (if-true _ _ _ (lt-ltb i n l) ∙ and-holds _ _ h ∙ and-fails _ _ (not-false-i _ k))

  pub variable-told : i < n → within width (get_or stated i 0) n ≡ true → has (get_or stated i 0) i ≡ false
      → eqb (get_or stated i 0) (stated_with stated i) ≡ variable_fits n stated i
  unfolding variable_fits
  variable-told l h k = sym (if-true _ _ _ (lt-ltb i n l) ∙ and-holds _ _ h ∙ and-holds _ _ (not-i _ k))

-- ---- the head

module _ (h : Head) where
  pub head-none : h.n < 1 → false ≡ head_fits h
  unfolding head_fits
  head-none l = sym (and-fails _ _ (lt-leb 1 h.n l))

  pub head-many : 1 ≤ h.n → variables < h.n → false ≡ head_fits h
  unfolding head_fits
  head-many k l = sym (and-holds _ _ (le-leb 1 h.n k) ∙ and-fails _ _ (lt-leb h.n variables l))

  module _ (k : 1 ≤ h.n) (m : h.n ≤ variables) where
    counted : head_fits h ≡ and (sizes_all_fit h.n h.sizes) (and (domains_fit h.sizes h.domains) (pairs_fit h.n h.stated))
    unfolding head_fits
    counted = and-holds _ _ (le-leb 1 h.n k) ∙ and-holds _ _ (le-leb h.n variables m)

    pub head-sizes : sizes_all_fit h.n h.sizes ≡ false → false ≡ head_fits h
    head-sizes s = sym (counted ∙ and-fails _ _ s)

    pub head-domains : sizes_all_fit h.n h.sizes ≡ true → domains_fit h.sizes h.domains ≡ false → false ≡ head_fits h
    head-domains s d = sym (counted ∙ and-holds _ _ s ∙ and-fails _ _ d)

    pub head-pairs : sizes_all_fit h.n h.sizes ≡ true → domains_fit h.sizes h.domains ≡ true → pairs_fit h.n h.stated ≡ head_fits h
    head-pairs s d = sym (counted ∙ and-holds _ _ s ∙ and-holds _ _ d)

-- ---- sizes that pass

module _ (h : Head) (A : HeadShaped h) where
  pub size-e : sizes_all_fit h.n h.sizes ≡ true → (i : ℕ) → i < h.n → i < variables → (1 ≤ get_or h.sizes i 0) × (get_or h.sizes i 0 ≤ values_at_most)
  unfolding sizes_all_fit size_fits
  size-e t i l m =
      let u = sym (if-true _ _ _ (lt-ltb i h.n l)) ∙ every-e variables _ t i m in
      (leb-true _ _ (and_l _ _ u), leb-true _ _ (and_r _ _ u))

  pub size-past-e : sizes_all_fit h.n h.sizes ≡ true → (i : ℕ) → h.n ≤ i → get_or h.sizes i 0 ≡ 0
  unfolding sizes_all_fit size_fits
  size-past-e t i l =
      by_cases (ltb i variables)
      (λ u. eqb-true _ _ (sym (if-false _ _ _ (le-ltb i h.n l)) ∙ every-e variables _ t i (ltb-true _ _ u)))
      (λ u. array-past variables (2 ^ 8) h.sizes A.sizes_array i (ltb-false _ _ u))

  -- Every size is at most the largest.
  pub size-le : h.n ≤ variables → sizes_all_fit h.n h.sizes ≡ true → (i : ℕ) → get_or h.sizes i 0 ≤ values_at_most
  size-le b t i =
      by_cases (ltb i h.n)
      (λ u. (size-e t i (ltb-true _ _ u) (omega (arith, ltb-true i h.n u))).1)
      (λ u. omega (arith, size-past-e t i (ltb-false _ _ u)))
