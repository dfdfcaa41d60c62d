-- What the machine's operations give, as sets of values: the laws by which `search` answers what the functions are asked.
-- A shift to the left is taken modulo m, the number of values of the machine's words.
use mathlib.Core.Bool.{Bool, true, false}
use mathlib.Core.Path.{◌≡◌, refl, ap, ◌∙◌}
use Prim.Native.Nat.{ℕ, ◌-◌, ◌*◌, ◌/◌, ◌%◌, ◌^◌, ◌≤◌, ◌<◌}
use native.Mathlib.Nat.{mod-eq_of_lt, one-le-mul, one-mul, mul-le-mul_left}
use native.Mathlib.Omega.{arith}
use lib.Bits.{bit_and, bit_or, and_le_l, or_lt, and_mask}
use lib.Count.{ones, ones-le, count_leading_zeros, leading_le, count_trailing_zeros, trailing_le}
use lib.Dec.{eqb, ltb}
use lib.Pow.{pow_pos, pow_mono, pow-lt}
use mir.Syntax.{Width}
use mir.Val.{Fits, bits}
use borrow.Author.Rules.{rules}
use Rattle.bounded.specs.Bool.{and, or, implies, not, bit}
use Rattle.bounded.specs.Fold.{every}
use Rattle.words.specs.Word.{has, word}
use Rattle.words.proofs.Laws.{has-digit, is_word, has-and, has-or, has-complement, has_one, has-full, ones-count, trailing-first, within-every}

eqb-bit : (b : Bool) → eqb (bit b) 1 ≡ b
unfolding bit
eqb-bit true = refl
eqb-bit false = refl

-- The lowest bit after a shift tells of one value.
pub member_is : (x v : ℕ) → eqb (bit_and (x / 2 ^ v) 1) 1 ≡ has x v
member_is x v = rw (and_mask (x / 2 ^ v) 1, ← has-digit x v) (eqb-bit (has x v))

-- A shift by at most w loses nothing where a * 2 ^ w is a word.
pub shl_is : (w a k m : ℕ) → k ≤ w → a * 2 ^ w < m → a * 2 ^ k % m ≡ a * 2 ^ k
shl_is w a k m l h = mod-eq_of_lt (omega (arith, mul-le-mul_left a (pow_mono l)))

-- It leaves more than 0, so that 1 may be taken away.
pub shl-pos : (w a k m : ℕ) → k ≤ w → a * 2 ^ w < m → 1 ≤ a → 1 ≤ a * 2 ^ k % m
shl-pos w a k m l h p = rw (shl_is w a k m l h) (one-le-mul p (pow_pos k))

-- 1 shifted by v is the word of v alone.
pub single-is : (w v m : ℕ) → v < w → 2 ^ w ≤ m → 1 * 2 ^ v % m ≡ word w (λ (u : ℕ). eqb u v)
single-is w v m l h =
    shl_is v 1 v m (omega arith) (omega (arith, pow-lt l)) ∙ one-mul (2 ^ v) ∙ is_word w (2 ^ v) _ (pow-lt l) (λ u k. has_one v u)

-- 1 shifted by k, less 1, is the word of all values below k.
pub full_is : (w k m : ℕ) → k ≤ w → 2 ^ w < m → 1 * 2 ^ k % m - 1 ≡ word w (λ (u : ℕ). ltb u k)
full_is w k m l h =
    rw (shl_is w 1 k m l (omega arith), one-mul (2 ^ k))
    (is_word w (2 ^ k - 1) _ (omega (arith, pow_mono l, pow_pos k)) (λ u b. has-full k u))

-- It fits a word of k bits or more, though at just k the power itself does not.
pub full-fits : (W : Width) (k m : ℕ) → k ≤ bits W → 2 ^ bits W < m → Fits W (1 * 2 ^ k % m - 1)
full-fits W k m l h =
    record { fits = rw (shl_is (bits W) 1 k m l (omega arith)) (omega (arith, pow_mono l, pow_pos k)) }

-- `&` is the word of the common members, `|` of the joint ones.
pub both_is : (w x y : ℕ) → x < 2 ^ w → bit_and x y ≡ word w (λ (u : ℕ). and (has x u) (has y u))
both_is w x y h = is_word w (bit_and x y) _ (omega (arith, and_le_l x y)) (λ v l. has-and x y v)

pub either_is : (w x y : ℕ) → x < 2 ^ w → y < 2 ^ w → bit_or x y ≡ word w (λ (u : ℕ). or (has x u) (has y u))
either_is w x y h k = is_word w (bit_or x y) _ (or_lt w x y h k) (λ v l. has-or x y v)

-- `&` with `!` is the word of the members that the other lacks.
pub without_is : (w x y : ℕ) → x < 2 ^ w → y < 2 ^ w → bit_and x (2 ^ w - 1 - y) ≡ word w (λ (u : ℕ). and (has x u) (not (has y u)))
without_is w x y h k =
    is_word w (bit_and x (2 ^ w - 1 - y)) _ (omega (arith, and_le_l x (2 ^ w - 1 - y)))
    (λ v l. has-and x (2 ^ w - 1 - y) v ∙ ap (and (has x v)) (has-complement w y v k l))

-- A word below 1 shifted by k has no member at or above k, and the other way round.
pub within-is : (w x k m : ℕ) → x < 2 ^ w → k ≤ w → 2 ^ w < m → ltb x (1 * 2 ^ k % m) ≡ every w (λ (v : ℕ). implies (has x v) (ltb v k))
within-is w x k m h l b = rw (shl_is w 1 k m l (omega arith), one-mul (2 ^ k)) (within-every w x k h)

-- No count of a word's bits is above its width, so each fits a word that holds the width.
pub ones-fits : (W U : Width) (x : ℕ) → Fits U x → bits U < 2 ^ bits W → Fits W (ones x)
ones-fits W U x f h = omega (arith, ones-le (bits U) x f.fits)

pub leading-fits : (W : Width) (k x : ℕ) → k < 2 ^ bits W → Fits W (count_leading_zeros k x)
leading-fits W k x h = omega (arith, leading_le k x)

pub trailing-fits : (W : Width) (k x : ℕ) → k < 2 ^ bits W → Fits W (count_trailing_zeros k x)
trailing-fits W k x h = omega (arith, trailing_le k x)

-- The set that the functions' proofs hand to `search`.
pub ruleset machine = (member_is, shl-pos, single-is, full_is, full-fits, both_is, either_is, without_is, within-is, ones-fits, leading-fits, trailing-fits, ones-count, trailing-first, rules)
