-- The places of the 120 pairs. They are computed, pair by pair, so that no law needs the arithmetic of squares.
use mathlib.Core.Bool.{true}
use mathlib.Core.Path.{◌≡◌, refl, sym, ap, ◌∙◌, subst}
use Prim.Native.Nat.{ℕ, zero, suc, ◌+◌, ◌-◌, ◌*◌, ◌/◌, ◌%◌, ◌≤◌, ◌<◌}
use native.Mathlib.Nat.{mod-lt, mod-eq_of_lt, mul-le-mul_right, add_comm, add-mul-div_right, add-mul-mod_self_right, div-eq_of_lt, div-add-mod', div-lt_iff_lt-mul, suc-mul}
use native.Mathlib.Omega.{arith}
use lib.Dec.{eqb, leb, ltb}
use borrow.Author.Tests.{eqb-true, ltb-true, leb-true}
use Rattle.bounded.specs.Bool.{and, bit}
use Rattle.bounded.specs.Fold.{every, sum, count}
use Rattle.bounded.proofs.Bool.{and_l, and_r}
use Rattle.bounded.proofs.Fold.{every-e}
use Rattle.pairs.specs.Pairs.{slot, upper_of, lower_of}

products : every 16 (λ (j : ℕ). ltb (j * (j - 1)) 1000) ≡ true
unfolding every and
products = refl

-- The product of a place does not overflow.
pub product_lt : {j : ℕ} → j < 16 → j * (j - 1) < 1000
product_lt {j} l = ltb-true _ _ (every-e 16 _ products j l)

pairs-known : every 16 (λ (j : ℕ). every j (λ (i : ℕ). and (ltb (slot i j) 120) (and (eqb (upper_of (slot i j)) j) (eqb (lower_of (slot i j)) i)))) ≡ true
unfolding every slot upper_of lower_of count sum bit and
pairs-known = refl

slots-known : every 120 (λ (s : ℕ). and (eqb (slot (lower_of s) (upper_of s)) s) (and (ltb (lower_of s) (upper_of s)) (ltb (upper_of s) 16))) ≡ true
unfolding every slot upper_of lower_of count sum bit and
slots-known = refl

-- What is known of the place of a pair: it is one of 120 and tells its two variables.
pub record Placed (i j : ℕ) : Type 0 where
  pub slot_lt : slot i j < 120
  pub upper_is : upper_of (slot i j) ≡ j
  pub lower_is : lower_of (slot i j) ≡ i

pub placed : (i j : ℕ) → i < j → j < 16 → Placed i j
placed i j l m =
    let p = every-e j _ (every-e 16 _ pairs-known j m) i l in
    record {
      slot_lt = ltb-true _ _ (and_l _ _ p);
      upper_is = eqb-true _ _ (and_l _ _ (and_r _ _ p));
      lower_is = eqb-true _ _ (and_r _ _ (and_r _ _ p));
    }

-- Every place is that of a pair.
pub record PairAt (s : ℕ) : Type 0 where
  pub slot_is : slot (lower_of s) (upper_of s) ≡ s
  pub lower_lt : lower_of s < upper_of s
  pub upper_lt : upper_of s < 16

pub pair-at : (s : ℕ) → s < 120 → PairAt s
pair-at s l =
    let p = every-e 120 _ slots-known s l in
    record {
      slot_is = eqb-true _ _ (and_l _ _ p);
      lower_lt = ltb-true _ _ (and_l _ _ (and_r _ _ p));
      upper_lt = ltb-true _ _ (and_r _ _ (and_r _ _ p));
    }

-- Different pairs stand at different places.
pub slot-inj : (i j x y : ℕ) → i < j → j < 16 → x < y → y < 16 → slot i j ≡ slot x y → (i ≡ x) × (j ≡ y)
slot-inj i j x y l m k n e =
    let p = placed i j l m in
    let q = placed x y k n in
    (sym p.lower_is ∙ ap lower_of e ∙ q.lower_is, sym p.upper_is ∙ ap upper_of e ∙ q.upper_is)

-- ---- the place of a row, for any number w of rows to a pair

pub row-slot : (w s a : ℕ) → a < w → (s * w + a) / w ≡ s
row-slot w s a k =
    ap (λ (n : ℕ). n / w) (add_comm (s * w) a) ∙ add-mul-div_right a s (omega arith) ∙ (let z : a / w ≡ 0 = div-eq_of_lt k in omega (arith, z))

pub row-value : (w s a : ℕ) → a < w → (s * w + a) % w ≡ a
row-value w s a k = ap (λ (n : ℕ). n % w) (add_comm (s * w) a) ∙ add-mul-mod_self_right a s w ∙ mod-eq_of_lt k

pub row_lt : (w s a : ℕ) → s < 120 → a < w → s * w + a < 120 * w
row_lt w s a l k = omega (arith, mul-le-mul_right w l, suc-mul s w)

-- No two rows share a place.
pub row-inj : (w s a t b : ℕ) → a < w → b < w → s * w + a ≡ t * w + b → (s ≡ t) × (a ≡ b)
row-inj w s a t b k l e =
    (sym (row-slot w s a k) ∙ ap (λ (n : ℕ). n / w) e ∙ row-slot w t b l, sym (row-value w s a k) ∙ ap (λ (n : ℕ). n % w) e ∙ row-value w t b l)

-- What holds at the place of every row holds all over the array.
pub every-place : (w : ℕ) (P : ℕ → Type 0)
    → ((i j a : ℕ) → i < j → j < 16 → a < w → P (slot i j * w + a))
    → (k : ℕ) → k < 120 * w → P k
every-place w P h k l =
    let p : zero < w = omega arith in
    let s : k / w < 120 = (div-lt_iff_lt-mul p).1 l in
    let q = pair-at (k / w) s in
    subst P (ap (λ (n : ℕ). n * w + k % w) q.slot_is ∙ div-add-mod' k w) (h (lower_of (k / w)) (upper_of (k / w)) (k % w) q.lower_lt q.upper_lt (mod-lt k p))

-- The rows of a pair lie within the array.
pub room : (w i j : ℕ) → i < j → j < 16 → slot i j * w + w ≤ 120 * w
room w i j l m = omega (arith, mul-le-mul_right w (placed i j l m).slot_lt, suc-mul (slot i j) w)

before-known : every 17 (λ (n : ℕ). every n (λ (j : ℕ). every j (λ (i : ℕ). ltb (slot i j) (slot 0 n)))) ≡ true
unfolding every slot and
before-known = refl

after-known : every 16 (λ (j : ℕ). every (suc j) (λ (n : ℕ). every j (λ (i : ℕ). leb (slot 0 n) (slot i j)))) ≡ true
unfolding every slot and
after-known = refl

-- The pairs of the first n variables stand before all others.
pub slot-before : (i j n : ℕ) → i < j → j < n → n ≤ 16 → slot i j < slot 0 n
slot-before i j n l m k =
    ltb-true _ _ (every-e j _ (every-e n _ (every-e 17 _ before-known n (omega arith)) j m) i l)

pub slot-after : (i j n : ℕ) → i < j → n ≤ j → j < 16 → slot 0 n ≤ slot i j
slot-after i j n l m k =
    leb-true _ _ (every-e j _ (every-e (suc j) _ (every-e 16 _ after-known j k) n (omega arith)) i l)
