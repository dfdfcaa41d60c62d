-- From the choices of the tied variables to those of all: each part of the code.
use mathlib.Core.Bool.{true, false}
use mathlib.Core.List.{List}
use mathlib.Core.Path.{◌≡◌, sym, ap, ◌∙◌}
use Prim.Native.Nat.{ℕ, suc, ◌+◌, ◌*◌, ◌≤◌, ◌<◌}
use native.Mathlib.Nat.{one-mul, zero-mul, mul_assoc, mul-le-mul_left, min-le_left, min-eq_left, min-eq_right}
use native.Mathlib.Numerals.{add-one}
use native.Mathlib.Omega.{arith}
use lib.Dec.{leb}
use lib.ListN.{get_or}
use borrow.Author.Tests.{eq-eqb, ne_eqb, lt-ltb, le-ltb, leb-true, leb-false}
use Rattle.bounded.specs.Bool.{and}
use Rattle.bounded.specs.Fold.{product, count}
use Rattle.bounded.proofs.Bool.{by_cases, if-true, if-false}
use Rattle.words.specs.Word.{width, has, word}
use Rattle.network.specs.Survey.{count_limit}
use Rattle.pairs.specs.Pairs.{partners_of}
use Rattle.survey.specs.declared.spread.Counted.{Counted}
use Rattle.survey.specs.Spread.{Counts, besides_of, used_of, word_of}

-- ---- the count

-- A number that fits counts itself.
pub counts-own : (x : ℕ) → x ≤ 18446744073709551615 → Counts (record { count = x; more = false }) x
unfolding count_limit
counts-own x l = record { count_is = sym (min-eq_left l); more_is = sym (le-ltb _ _ l) }

module _ (c : Counted) (v : ℕ) where
  pub times_none : v ≡ 0 → (x : ℕ) → Counts (record { count = 0; more = false }) (v * x)
  times_none e x = rw (e, zero-mul x) (counts-own 0 (omega arith))

  pub times-past : (v * c.count < 18446744073709551616 → ⊥) → (x : ℕ) → Counts c x → Counts (record { count = 18446744073709551615; more = true }) (v * x)
  unfolding count_limit
  times-past l x C =
      let most : c.count ≤ x = rw C.count_is (min-le_left x _) in
      let b : 18446744073709551615 < v * x = omega (arith, mul-le-mul_left v most) in
      record { count_is = sym (min-eq_right (omega arith)); more_is = sym (lt-ltb _ _ b) }

  -- A count that is capped stays so, by a factor of 1.
  pub times_more : (v ≡ 0 → ⊥) → v * c.count < 18446744073709551616 → {n : ℕ} → n ≡ v * c.count → (x : ℕ) → Counts c x
      → Counts (record { count = n; more = c.more }) (v * x)
  unfolding count_limit
  times_more d fits ne x C =
      rw ne
      (by_cases (leb x 18446744073709551615)
      (λ t. let e : c.count ≡ x = C.count_is ∙ min-eq_left (leb-true _ _ t) in
      let small : v * x ≤ 18446744073709551615 = let f : v * x < 18446744073709551616 = rw e at fits in omega arith in
      record {
        count_is = ap (λ (y : ℕ). v * y) e ∙ sym (min-eq_left small);
        more_is = C.more_is ∙ le-ltb 18446744073709551615 x (leb-true _ _ t) ∙ sym (le-ltb _ _ small);
      })
      (λ t. let big : 18446744073709551615 < x = leb-false _ _ t in
      let e : c.count ≡ 18446744073709551615 = C.count_is ∙ min-eq_right (omega arith) in
      let one : v ≡ 1 = omega (arith, rw e at fits) in
      rw (one, one-mul c.count, one-mul x) C))

-- One factor more.
pub counts-more : (f : ℕ → ℕ) (i t : ℕ) {v : ℕ} {c r : Counted} → Counts c (product i f * t) → v ≡ f i → ((x : ℕ) → Counts c x → Counts r (v * x))
    → Counts r (product (i + 1) f * t)
unfolding product
counts-more f i t {v} {c} {r} C e h = rw (add-one i, mul_assoc, sym e) (h (product i f * t) C)

pub counts-none : (f : ℕ → ℕ) (t : ℕ) → t ≤ 18446744073709551615 → Counts (record { count = t; more = false }) (product 0 f * t)
unfolding product
counts-none f t l = rw (one-mul t) (counts-own t l)

pub besides-one : (others list i : ℕ) → has others i ≡ false → 1 ≡ besides_of others list i
unfolding besides_of
besides-one others list i h = sym (if-false _ _ _ h)

pub besides-list : (others list i : ℕ) → has others i ≡ true → count width (has list) ≡ besides_of others list i
unfolding besides_of
besides-list others list i h = sym (if-true _ _ _ h)

-- ---- the words

pub used-left : (left used list i : ℕ) → has left i ≡ true → used ≡ used_of left used list i
unfolding used_of
used-left left used list i h = sym (if-true _ _ _ h)

pub used-list : (left used list i : ℕ) → has left i ≡ false → list ≡ used_of left used list i
unfolding used_of
used-list left used list i h = sym (if-false _ _ _ h)

module _ (leaders domains lists rows : List ℕ) (left : ℕ) (used : List ℕ) (i : ℕ) where
  pub word-free : get_or leaders i 0 ≡ 0 → used_of left (get_or used i 0) (get_or lists i 0) i ≡ word_of leaders domains lists rows left used i
  unfolding word_of
  word-free e = sym (if-true _ _ _ (eq-eqb _ _ e))

  pub word-led : (l : ℕ) {w p r : ℕ} → get_or leaders i 0 ≡ suc l → w ≡ used_of left (get_or used l 0) (get_or lists l 0) l → p ≡ partners_of width rows l i w
      → r ≡ word width (λ (v : ℕ). and (has (get_or domains i 0) v) (has p v)) → r ≡ word_of leaders domains lists rows left used i
  unfolding word_of
  word-led l e we pe re =
      re
      ∙ rw (pe, we)
      (sym (if-false _ _ _ (ne_eqb (get_or leaders i 0) 0 (λ z. let x : ⊥ = omega (arith, e) in x)) ∙ rw e))
