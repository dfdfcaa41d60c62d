-- Which way a pair is wrong: document 02, L1.
use mathlib.Core.Bool.{Bool, true, false}
use mathlib.Core.Path.{◌≡◌, refl, subst}
use Prim.Native.Nat.{ℕ, ◌/◌, ◌%◌, ◌≤◌, ◌<◌}
use native.Mathlib.Omega.{arith}
use borrow.Author.Tests.{le-ltb, ne_eqb, ltb-true, ltb-false, eqb-false}
use Rattle.bounded.specs.Bool.{if}
use Rattle.bounded.proofs.Bool.{clash, or-false-l, or-false-r, or-false-i, not-e, not-false-e}
use Rattle.cause.specs.declared.Cause.TheVariants.{PairRange, PairOrder, PairRepeated}
use Rattle.format.specs.Layout.{Test, fine, fault, out_of_range, pair_test}

-- No option number is one of those "out of range, that is a of 0, b of 0, or either above n".
pub record InRange (n pair : ℕ) : Type 0 where
  pub a_some : 1 ≤ pair / 256
  pub b_some : 1 ≤ pair % 256
  pub a_in : pair / 256 ≤ n
  pub b_in : pair % 256 ≤ n

-- The answers to a pair, and when each is given: "Number 7 keeps only option numbers out of range .. It refuses with 19 when a is not below b, and with 20
-- when the pair is not after the one before; the order is 7, 19, 20".
pub data Answer (n previous pair : ℕ) : Test → Type 0 where
  seven : (InRange n pair → ⊥) → Answer n previous pair (fault PairRange)
  nineteen : InRange n pair → pair % 256 ≤ pair / 256 → Answer n previous pair (fault PairOrder)
  twenty : InRange n pair → pair / 256 < pair % 256 → pair ≤ previous → Answer n previous pair (fault PairRepeated)
  passes : InRange n pair → pair / 256 < pair % 256 → previous < pair → Answer n previous pair fine

range-in : (n pair : ℕ) → out_of_range n pair ≡ false → InRange n pair
unfolding out_of_range
range-in n pair h =
    let zeros = or-false-l _ _ h in
    let highs = or-false-r _ _ h in
    record {
      a_some = omega (arith, eqb-false (pair / 256) 0 (or-false-l _ _ zeros));
      b_some = omega (arith, eqb-false (pair % 256) 0 (or-false-r _ _ zeros));
      a_in = ltb-false _ _ (or-false-l _ _ highs);
      b_in = ltb-false _ _ (or-false-r _ _ highs);
    }

in-range : (n pair : ℕ) → InRange n pair → out_of_range n pair ≡ false
unfolding out_of_range
in-range n pair r =
    or-false-i _ _ (or-false-i _ _ (ne_eqb (pair / 256) 0 (omega arith)) (ne_eqb (pair % 256) 0 (omega arith)))
    (or-false-i _ _ (le-ltb _ _ r.a_in) (le-ltb _ _ r.b_in))

-- A test, by its two cases.
if-case : (P : Test → Type 0) (b : Bool) {t u : Test} → (b ≡ true → P t) → (b ≡ false → P u) → P (if b t u)
unfolding if
if-case P true h k = h refl
if-case P false h k = k refl

module _ (n previous pair : ℕ) where
  pub pair-answer : Answer n previous pair (pair_test n previous pair)
  unfolding pair_test
  pair-answer =
      if-case (Answer n previous pair) _
      (λ t. seven (λ r. clash t (in-range n pair r)))
      (λ t.
      let r = range-in n pair t in
      if-case (Answer n previous pair) _
      (λ o. nineteen r (ltb-false _ _ (not-e _ o)))
      (λ o.
      let below = ltb-true _ _ (not-false-e _ o) in
      if-case (Answer n previous pair) _
      (λ q. twenty r below (ltb-false _ _ (not-e _ q)))
      (λ q. passes r below (ltb-true _ _ (not-false-e _ q)))))

  -- A pair that passes.
  pub record PairFits : Type 0 where
    pub first_in : 1 ≤ pair / 256
    pub ordered : pair / 256 < pair % 256
    pub second_in : pair % 256 ≤ n
    pub after : previous < pair

  of-fine : Answer n previous pair fine → PairFits
  of-fine (passes r o q) = record { first_in = r.a_some; ordered = o; second_in = r.b_in; after = q }

  fine-answer : {t : Test} → PairFits → Answer n previous pair t → t ≡ fine
  fine-answer f (seven k) = absurd (k (record { a_some = f.first_in; b_some = omega arith; a_in = omega arith; b_in = f.second_in }))
  fine-answer f (nineteen r o) = absurd (let x : ⊥ = omega arith in x)
  fine-answer f (twenty r o q) = absurd (let x : ⊥ = omega arith in x)
  fine-answer f (passes r o q) = refl

  pub pair-of-fine : pair_test n previous pair ≡ fine → PairFits
  pair-of-fine e = of-fine (subst (Answer n previous pair) e pair-answer)

  pub fine-pair : PairFits → pair_test n previous pair ≡ fine
  fine-pair f = fine-answer f pair-answer

-- "not after the one before": the first pair of a sheet, before which the number is 0, is never refused with 20.
module _ (n pair : ℕ) where
  of-twenty : Answer n 0 pair (fault PairRepeated) → ⊥
  of-twenty (twenty r o q) = omega (arith, r.a_some)

  pub first_pair : pair_test n 0 pair ≡ fault PairRepeated → ⊥
  first_pair e = of-twenty (subst (Answer n 0 pair) e (pair-answer n 0 pair))
