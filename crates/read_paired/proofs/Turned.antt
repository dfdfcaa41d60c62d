-- Bytes as they stand against the number in them: the same bits, byte by byte the other way round. Whether a table is functional both ways does not depend on
-- the order of the bits (`rows-standing`).
use mathlib.Core.Bool.{Bool, true}
use mathlib.Core.List.{List}
use mathlib.Core.Path.{◌≡◌, refl, sym, ap, ap₂, ◌∙◌}
use Prim.Native.Nat.{ℕ, zero, suc, ◌+◌, ◌-◌, ◌*◌, ◌/◌, ◌%◌, ◌^◌, ◌≤◌, ◌<◌}
use native.Mathlib.Nat.{pow-suc}
use native.Mathlib.Omega.{arith}
use lib.Dec.{leb}
use lib.ListN.{get_or}
use lib.Pow.{pow-add, high, low, shr-shr}
use borrow.Author.Tests.{le-leb, leb-true}
use Rattle.bounded.specs.Bool.{and}
use Rattle.bounded.specs.Fold.{count}
use Rattle.bounded.proofs.Bool.{bool-ext}
use Rattle.bounded.proofs.Fold.{below_suc, every-i, every-e, every-cong, count-cong, count-two, count-unique}
use Rattle.words.specs.Word.{width, has}
use Rattle.words.proofs.Laws.{has-digit, digit-is, has_word, word_mod}
use Rattle.format.specs.Parse.{Octets, number_at}
use Rattle.format.specs.Profile.{rows_paired}
use Rattle.format.proofs.Numbers.{number-below}
use Rattle.read_number.specs.Standing.{standing_at}
use Rattle.read_paired.proofs.OnePass.{rows-widen}

-- ---- bits of a number in two parts

-- Those of the lower part,
has-mod : (w x v : ℕ) → v < w → has x v ≡ has (x % 2 ^ w) v
has-mod w x v l = sym (has_word w (has x) v l) ∙ ap (λ (n : ℕ). has n v) (word_mod w x)

part_low : (a w r v : ℕ) → r < 2 ^ w → v < w → has (a * 2 ^ w + r) v ≡ has r v
part_low a w r v h l = has-mod w (a * 2 ^ w + r) v l ∙ ap (λ (n : ℕ). has n v) (low a w h)

-- and of the higher.
part-high : (a w r v : ℕ) → r < 2 ^ w → has (a * 2 ^ w + r) (w + v) ≡ has a v
part-high a w r v h =
    digit-is (a * 2 ^ w + r) (w + v) (has a v)
    (ap (λ (n : ℕ). n % 2) (sym (shr-shr (a * 2 ^ w + r) w v) ∙ ap (λ (n : ℕ). n / 2 ^ v) (high a w h)) ∙ sym (has-digit a v))

eighths : (k : ℕ) → 256 ^ k ≡ 2 ^ (8 * k)
eighths zero = refl
eighths (suc k) =
    let e : 8 * suc k ≡ 8 * k + 8 = omega arith in
    pow-suc 256 k ∙ (ap (λ (n : ℕ). n * 256) (eighths k) ∙ sym (ap (λ (n : ℕ). 2 ^ n) e ∙ pow-add 2 (8 * k) 8))

module _ (bytes : List ℕ) (octets : Octets bytes) where
  -- In the number the last byte has the lowest bits,
  number_bit : (k at q i : ℕ) → q < k → i < 8 → has (number_at k bytes at) (8 * q + i) ≡ has (get_or bytes (at + (k - suc q)) 0) i
  unfolding number_at
  number_bit zero at q i lq li = absurd (let x : ⊥ = omega arith in x)
  number_bit (suc k) at q i lq li =
      let below : number_at k bytes (suc at) < 2 ^ (8 * k) = rw (← eighths k) (number-below bytes octets k (suc at)) in
      rw (eighths k)
      (below_suc k q lq
      (λ e. let z : at + (suc k - suc k) ≡ at = omega arith in rw (e, z) (part-high (get_or bytes at 0) (8 * k) _ i below))
      (λ l. let z : at + (suc k - suc q) ≡ suc at + (k - suc q) = omega arith in
      rw z (part_low (get_or bytes at 0) (8 * k) (number_at k bytes (suc at)) (8 * q + i) below (omega arith) ∙ number_bit k (suc at) q i l li)))

  -- and as they stand the first.
  standing-bit : (k at q i : ℕ) → q < k → i < 8 → has (standing_at k bytes at) (8 * q + i) ≡ has (get_or bytes (at + q) 0) i
  unfolding standing_at
  standing-bit zero at q i lq li = absurd (let x : ⊥ = omega arith in x)
  standing-bit (suc k) at zero i lq li =
      let z : at + 0 ≡ at = omega arith in
      let y : 8 * 0 + i ≡ i = omega arith in
      rw (z, y) (part_low (standing_at k bytes (suc at)) 8 (get_or bytes at 0) i (octets at) li)
  standing-bit (suc k) at (suc q) i lq li =
      let z : at + suc q ≡ suc at + q = omega arith in
      let y : 8 * suc q + i ≡ 8 + (8 * q + i) = omega arith in
      rw (z, y) (part-high (standing_at k bytes (suc at)) 8 (get_or bytes at 0) (8 * q + i) (octets at) ∙ standing-bit k (suc at) q i (omega arith) li)

  standing-below : (k at : ℕ) → standing_at k bytes at < 2 ^ (8 * k)
  unfolding standing_at
  standing-below zero at = omega arith
  standing-below (suc k) at =
      let e : 8 * suc k ≡ 8 * k + 8 = omega arith in
      rw (e, pow-add 2 (8 * k) 8) (omega (arith, standing-below k (suc at), octets at))

-- ---- the bytes turned round

-- Where the bit stands that stood at b.
abbrev turn : ℕ → ℕ → ℕ
turn k b = 8 * (k - suc (b / 8)) + b % 8

turn_in : (k b : ℕ) → b < 8 * k → turn k b < 8 * k
turn_in k b l = omega arith

turn-back : (k b : ℕ) → b < 8 * k → turn k (turn k b) ≡ b
turn-back k b l = omega arith

turned_bit : (bytes : List ℕ) → Octets bytes → (k at b : ℕ) → b < 8 * k → has (number_at k bytes at) b ≡ has (standing_at k bytes at) (turn k b)
turned_bit bytes octets k at b l =
    let e : 8 * (b / 8) + b % 8 ≡ b = omega arith in
    ap (has (number_at k bytes at)) (sym e)
    ∙ (number_bit bytes octets k at (b / 8) (b % 8) (omega arith) (omega arith)
    ∙ sym (standing-bit bytes octets k at (k - suc (b / 8)) (b % 8) (omega arith) (omega arith)))

-- Rows whose bits are those of other rows, moved all alike.
module _ (w : ℕ) (t : ℕ → ℕ) (t-in : (b : ℕ) → b < w → t b < w) (t-back : (b : ℕ) → b < w → t (t b) ≡ b) where
  few-moved : (p q : ℕ → Bool) → ((b : ℕ) → b < w → p b ≡ q (t b)) → leb (count w p) 1 ≡ true → leb (count w q) 1 ≡ true
  few-moved p q same h =
      let from : (b : ℕ) → b < w → q b ≡ true → p (t b) ≡ true = λ b l m. same (t b) (t-in b l) ∙ (ap q (t-back b l) ∙ m) in
      le-leb _ 1 (count-unique w q λ j k lj lk mj mk.
      sym (t-back j lj) ∙ (ap t (count-two w p (leb-true _ 1 h) (t j) (t k) (t-in j lj) (t-in k lk) (from j lj mj) (from k lk mk)) ∙ t-back k lk))

  back : (p q : ℕ → Bool) → ((b : ℕ) → b < w → p b ≡ q (t b)) → (b : ℕ) → b < w → q b ≡ p (t b)
  back p q same b l = sym (same (t b) (t-in b l) ∙ ap q (t-back b l))

  rows-moved : (m : ℕ) (row other : ℕ → ℕ) → ((a b : ℕ) → b < w → has (row a) b ≡ has (other a) (t b)) → rows_paired m w row ≡ rows_paired m w other
  unfolding rows_paired
  rows-moved m row other same =
      let column : (b : ℕ) → b < w → count m (λ (a : ℕ). has (row a) b) ≡ count m (λ (a : ℕ). has (other a) (t b)) = λ b l. count-cong m _ _ λ a la. same a b l in
      let column' : (b : ℕ) → b < w → count m (λ (a : ℕ). has (other a) b) ≡ count m (λ (a : ℕ). has (row a) (t b)) = λ b l.
      count-cong m _ _ λ a la. back (has (row a)) (has (other a)) (same a) b l in
      ap₂ and
      (every-cong m _ _ λ a la. bool-ext _ _
      (few-moved (has (row a)) (has (other a)) (same a))
      (few-moved (has (other a)) (has (row a)) (back (has (row a)) (has (other a)) (same a))))
      (bool-ext _ _
      (λ h. every-i w _ λ b l. ap (λ (c : ℕ). leb c 1) (column' b l) ∙ every-e w _ h (t b) (t-in b l))
      (λ h. every-i w _ λ b l. ap (λ (c : ℕ). leb c 1) (column b l) ∙ every-e w _ h (t b) (t-in b l)))

-- A table of the numbers is functional both ways just where one of the bytes as they stand is.
pub rows-standing : (bytes : List ℕ) → Octets bytes → (k from m : ℕ) → 8 * k ≤ width
    → rows_paired m width (λ (a : ℕ). standing_at k bytes (from + k * a)) ≡ rows_paired m width (λ (a : ℕ). number_at k bytes (from + k * a))
rows-standing bytes octets k from m l =
    sym (rows-widen m (8 * k) width _ l λ a la. standing-below bytes octets k (from + k * a))
    ∙ (sym (rows-moved (8 * k) (turn k) (turn_in k) (turn-back k) m _ _ λ a b lb. turned_bit bytes octets k (from + k * a) b lb)
    ∙ rows-widen m (8 * k) width _ l λ a la. rw (← eighths k) (number-below bytes octets k (from + k * a)))
