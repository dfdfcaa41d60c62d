-- A word that is gathered bit by bit.
use mathlib.Core.Bool.{Bool, true, false}
use mathlib.Core.Path.{◌≡◌, refl, sym, ◌∙◌}
use Prim.Native.Nat.{ℕ, suc, ◌+◌, ◌*◌, ◌%◌, ◌^◌, ◌≤◌}
use native.Mathlib.Nat.{mod-eq_of_lt, mul-le-mul_right}
use native.Mathlib.Numerals.{add-one}
use native.Mathlib.Omega.{arith}
use lib.Bits.{bit_or, or_shifted_r}
use lib.Pow.{pow_pos}
use mir.Val.{bool_byte}
use Rattle.bounded.specs.Bool.{bit}
use Rattle.bounded.proofs.Bool.{bit_le}
use Rattle.words.specs.Word.{word}
use Rattle.words.proofs.Laws.{word_lt, word-suc}

byte-bit : (t : Bool) → bool_byte t ≡ bit t
unfolding bit
byte-bit true = refl
byte-bit false = refl

moved-kept : (m b : ℕ) (t : Bool) → 2 ^ suc b ≤ m → bit t * 2 ^ b % m ≡ bit t * 2 ^ b
moved-kept m b t l = mod-eq_of_lt (omega (arith, mul-le-mul_right (2 ^ b) (bit_le t), pow_pos b))

-- One more bit of a word.
pub bit-joins : (m : ℕ) (p : ℕ → Bool) {r : ℕ} (n : ℕ) {t : Bool} → 2 ^ suc n ≤ m → r ≡ word n p → t ≡ p n
    → bit_or r (bool_byte t * 2 ^ n % m) ≡ word (n + 1) p
bit-joins m p n l e h =
    rw (e, h, byte-bit (p n), moved-kept m n (p n) l, add-one n) (or_shifted_r (bit (p n)) n (word n p) (word_lt n p) ∙ sym (word-suc n p))
