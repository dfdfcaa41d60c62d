-- The product of the numbers of open values: capped at each factor, it is the network's when that is capped, and so decides 23.
use mathlib.Core.Bool.{true}
use mathlib.Core.List.{List}
use mathlib.Core.Path.{◌≡◌, refl, sym, ap, ◌∙◌}
use Prim.Native.Nat.{ℕ, ◌+◌, ◌*◌, min, ◌≤◌, ◌<◌}
use native.Mathlib.Nat.{min-le_left, min-eq_left, min-eq_right}
use native.Mathlib.Numerals.{add-one}
use native.Mathlib.Omega.{arith}
use lib.Dec.{eqb, leb}
use lib.ListN.{get_or}
use borrow.Author.Tests.{eq-eqb, ne_eqb, leb-true, leb-false}
use Rattle.bounded.specs.Bool.{if}
use Rattle.bounded.specs.Fold.{product, count}
use Rattle.bounded.proofs.Bool.{by_cases, not-true→false, if-true, if-false}
use Rattle.bounded.proofs.Fold.{product-cong, product-capped, count-widen}
use Rattle.words.specs.Word.{width, has}
use Rattle.network.specs.Network.{Network, free}
use Rattle.network.specs.Search.{open_values, choice_product, search_refusal}
use Rattle.network.proofs.Search.{search-refused, search-accepted}
use Rattle.head.specs.declared.Head.{Head}
use Rattle.head.specs.Held.{HeadShaped, held, sound_in}
use Rattle.head.proofs.Held.{held-sound, held-size}
use Rattle.search_product.specs.Choices.{open_of}

-- ---- one factor

module _ (leader domain : ℕ) where
  pub open-led : (leader ≡ 0 → ⊥) → 1 ≡ open_of leader domain
  unfolding open_of
  open-led h = sym (if-false _ _ _ (ne_eqb leader 0 h))

  pub open_free : leader ≡ 0 → count width (has domain) ≡ open_of leader domain
  unfolding open_of
  open_free h = sym (if-true _ _ _ (eq-eqb leader 0 h))

-- ---- the product

min-within : (a b c : ℕ) → c ≤ b → min (min a b) c ≡ min a c
min-within a b c l = omega arith

pub capped-none : (f : ℕ → ℕ) → 1 ≡ min (product 0 f) 1000001
unfolding product
capped-none f = refl

-- One factor more.
pub capped-more : (f : ℕ → ℕ) (i : ℕ) {p x : ℕ} → p ≡ min (product i f) 1000001 → x ≡ f i
    → min (min (x * p) 18446744073709551615) 1000001 ≡ min (product (i + 1) f) 1000001
unfolding product
capped-more f i e xe = min-within _ _ _ (omega arith) ∙ rw (xe, e, add-one i) (product-capped 1000001 (product i f) (f i))

module _ (h : Head) (rows : List ℕ) (S : HeadShaped h) (t : sound_in h rows ≡ true) where
  -- In a sound state the values of a domain are below its size.
  open-held : (i : ℕ) → open_of (get_or h.leaders i 0) (get_or h.domains i 0) ≡ open_values (held h rows) i
  unfolding open_of open_values free held
  open-held i =
      let most = held-size h rows S t i in
      ap (λ (c : ℕ). if (eqb (get_or h.leaders i 0) 0) c 1)
      (count-widen (get_or h.sizes i 0) width _ (omega arith)
      (λ a l. not-true→false _ (λ m. let x : ⊥ = omega (arith, (held-sound h rows S t).domain_in i a m) in x)))

  pub product-held : product h.n (λ (i : ℕ). open_of (get_or h.leaders i 0) (get_or h.domains i 0)) ≡ choice_product (held h rows)
  unfolding choice_product held
  product-held = product-cong h.n _ _ (λ i _. open-held i)

-- ---- what it decides

module _ (N : Network) (r : ℕ) (e : r ≡ min (choice_product N) 1000001) where
  pub product-refused : 1000000 < r → search_refusal N ≡ 23
  product-refused l = (search-refused N).1 (omega (arith, min-le_left (choice_product N) 1000001))

  -- Below the cap it is the product itself.
  below : r ≤ 1000000 → choice_product N ≡ r
  below l =
      by_cases (leb (choice_product N) 1000001)
      (λ t. sym (e ∙ min-eq_left (leb-true _ _ t)))
      (λ t. let m : 1000001 ≤ choice_product N = omega (arith, leb-false (choice_product N) 1000001 t) in
      absurd (let x : ⊥ = omega (arith, e ∙ min-eq_right m) in x))

  pub product-accepted : r ≤ 1000000 → search_refusal N ≡ 0
  product-accepted l = (search-accepted N).1 (omega (arith, below l))

  pub product-zero : r ≡ 0 → choice_product N ≡ 0
  product-zero z = omega (arith, below (omega arith))
