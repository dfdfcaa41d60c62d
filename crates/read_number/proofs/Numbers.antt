-- The number in one byte, in two and in four, and where rows of them stand.
use mathlib.Core.List.{List}
use mathlib.Core.Path.{◌≡◌, sym, ◌∙◌}
use Prim.Native.Nat.{ℕ, suc, ◌+◌, ◌*◌, ◌/◌, ◌%◌, ◌≤◌, ◌<◌}
use native.Mathlib.Nat.{mul-suc, mul-le-mul_left}
use native.Mathlib.Numerals.{add-one}
use native.Mathlib.Omega.{arith}
use mir.Syntax.{w8, w16, w32, w64}
use mir.Val.{Fits}
use lib.ListN.{get_or}
use Rattle.format.specs.Parse.{number_at}
use Rattle.read_number.specs.Standing.{standing_at}

-- What is known of the bytes of a slice, as the machine asks it.
module _ (bytes : List ℕ) (known : (j : ℕ) → Fits w8 (get_or bytes j 0)) where
  pub byte_fits : (at : ℕ) → Fits w64 (get_or bytes at 0)
  byte_fits at = omega (arith, known at)

  pub low_fits : (at : ℕ) → Fits w16 (get_or bytes at 0)
  low_fits at = omega (arith, known at)

  pub high_fits : (at : ℕ) → Fits w16 (get_or bytes at 0 * 256)
  high_fits at = omega (arith, known at)

  pub two_fits : (at low : ℕ) → Fits w16 (get_or bytes at 0 * 256 + get_or bytes low 0)
  two_fits at low = omega (arith, known at, known low)

  -- Four bytes, each of its own weight.
  pub fourth-fits : (at : ℕ) → Fits w32 (get_or bytes at 0)
  fourth-fits at = omega (arith, known at)

  pub third-fits : (at : ℕ) → Fits w32 (get_or bytes at 0 * 256)
  third-fits at = omega (arith, known at)

  pub second_fits : (at : ℕ) → Fits w32 (get_or bytes at 0 * 65536)
  second_fits at = omega (arith, known at)

  pub first_fits : (at : ℕ) → Fits w32 (get_or bytes at 0 * 16777216)
  first_fits at = omega (arith, known at)

  pub four-fit : (a b c d : ℕ) → get_or bytes a 0 * 16777216 + get_or bytes b 0 * 65536 + get_or bytes c 0 * 256 + get_or bytes d 0 < 4294967296
  four-fit a b c d = omega (arith, known a, known b, known c, known d)

-- The number in one byte,
pub number-one : (bytes : List ℕ) (at : ℕ) → get_or bytes at 0 ≡ number_at 1 bytes at
unfolding number_at
number-one bytes at = omega arith

-- and two and four as they stand: the first in the lowest bits.
pub standing-two : (bytes : List ℕ) (at : ℕ) → get_or bytes (at + 1) 0 * 256 + get_or bytes at 0 ≡ standing_at 2 bytes at
unfolding standing_at
standing-two bytes at = rw (← add-one at) (omega arith)

pub standing-four : (bytes : List ℕ) (at : ℕ)
    → get_or bytes (at + 3) 0 * 16777216 + get_or bytes (at + 2) 0 * 65536 + get_or bytes (at + 1) 0 * 256 + get_or bytes at 0 ≡ standing_at 4 bytes at
unfolding standing_at
standing-four bytes at =
    let one : suc at ≡ at + 1 = omega arith in
    let two : suc (at + 1) ≡ at + 2 = omega arith in
    let three : suc (at + 2) ≡ at + 3 = omega arith in
    rw (one, two, three) (omega arith)

-- Turned round they make the number in two bytes,
pub number-two : (bytes : List ℕ) (at : ℕ) → ((j : ℕ) → Fits w8 (get_or bytes j 0)) → (x : ℕ) → x ≡ standing_at 2 bytes at
    → x % 256 * 256 + x / 256 ≡ number_at 2 bytes at
unfolding number_at
number-two bytes at known x e = rw (← add-one at) (omega (arith, known at, known (at + 1), standing-two bytes at))

-- and in four: each byte is what x has of its weight.
low_digit : (q r y : ℕ) → r < 256 → y ≡ q * 256 + r → y % 256 ≡ r
low_digit q r y h e = omega arith

digits : {a b c d : ℕ} (x : ℕ) → Fits w8 a → Fits w8 b → Fits w8 c → Fits w8 d → x ≡ d * 16777216 + c * 65536 + b * 256 + a
    → x % 256 * 16777216 + x / 256 % 256 * 65536 + x / 65536 % 256 * 256 + x / 16777216 ≡ a * 16777216 + b * 65536 + c * 256 + d
digits {a} {b} {c} {d} x ha hb hc hd e =
    let lowest : x % 256 ≡ a = omega arith in
    let second : x / 256 % 256 ≡ b = low_digit (d * 256 + c) b (x / 256) (omega arith) (omega arith) in
    let third : x / 65536 % 256 ≡ c = low_digit d c (x / 65536) (omega arith) (omega arith) in
    let highest : x / 16777216 ≡ d = omega arith in
    rw (lowest, second, third, highest)

pub number-four : (bytes : List ℕ) (at : ℕ) → ((j : ℕ) → Fits w8 (get_or bytes j 0)) → (x : ℕ) → x ≡ standing_at 4 bytes at
    → x % 256 * 16777216 + x / 256 % 256 * 65536 + x / 65536 % 256 * 256 + x / 16777216 ≡ number_at 4 bytes at
unfolding number_at
number-four bytes at known x e =
    let one : suc at ≡ at + 1 = omega arith in
    let two : suc (at + 1) ≡ at + 2 = omega arith in
    let three : suc (at + 2) ≡ at + 3 = omega arith in
    rw (one, two, three)
    (omega (arith, digits x (known at) (known (at + 1)) (known (at + 2)) (known (at + 3)) (e ∙ sym (standing-four bytes at))))

-- Of so many rows of k bytes each ends at or before the end of all.
pub row_inside : (k : ℕ) {count a : ℕ} → a < count → k * a + k ≤ k * count
row_inside k {count} {a} l = let e : k * suc a ≤ k * count = mul-le-mul_left k l in omega (arith, mul-suc k a)
