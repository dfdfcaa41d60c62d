-- The bytes of a number in the other order.
use mathlib.Core.Path.{◌≡◌, refl, sym, ◌∙◌}
use Prim.Native.Nat.{ℕ, zero, suc, ◌+◌, ◌-◌, ◌*◌, ◌/◌, ◌%◌, ◌^◌, ◌≤◌, ◌<◌}
use native.Mathlib.Nat.{div-div-eq-div-mul, div-le_self}
use native.Mathlib.Omega.{arith}
use lib.Pow.{pow-add}
use Rattle.buffers.proofs.Digits.{shift-digits}

low_byte : (q r y : ℕ) → r < 256 → y ≡ q * 256 + r → y % 256 ≡ r
low_byte q r y l e = omega arith

-- The bytes of a number, lowest first.
bytes : ℕ → ℕ → ℕ → ℕ → ℕ → ℕ
bytes a b c d zero = a
bytes a b c d (suc zero) = b
bytes a b c d (suc (suc zero)) = c
bytes a b c d (suc (suc (suc i))) = d

byte_at : {a b c d x : ℕ} → a < 256 → b < 256 → c < 256 → d < 256 → x ≡ d * 16777216 + c * 65536 + b * 256 + a
    → (i : ℕ) → i < 4 → x / 256 ^ i % 256 ≡ bytes a b c d i
unfolding bytes
byte_at {a} {b} {c} {d} {x} la lb lc ld e zero l = let m : x / 1 % 256 ≡ a = low_byte (d * 65536 + c * 256 + b) a (x / 1) la (omega arith) in m
byte_at {b} {c} {d} {x} la lb lc ld e (suc zero) l = low_byte (d * 256 + c) b (x / 256) lb (omega arith)
byte_at {c} {d} {x} la lb lc ld e (suc (suc zero)) l = low_byte d c (x / 65536) lc (omega arith)
byte_at {d} {x} la lb lc ld e (suc (suc (suc zero))) l = low_byte 0 d (x / 16777216) ld (omega arith)
byte_at la lb lc ld e (suc (suc (suc (suc i)))) l = absurd (let z : ⊥ = omega arith in z)

other-order : (a b c d i : ℕ) → i < 4 → bytes d c b a i ≡ bytes a b c d (3 - i)
unfolding bytes
other-order a b c d zero l = refl
other-order a b c d (suc zero) l = refl
other-order a b c d (suc (suc zero)) l = refl
other-order a b c d (suc (suc (suc zero))) l = refl
other-order a b c d (suc (suc (suc (suc i)))) l = absurd (let z : ⊥ = omega arith in z)

-- All four bytes in the other order, of which a shift leaves the high k.
unfoldable pub turn : ℕ → ℕ
turn x = x % 256 * 16777216 + x / 256 % 256 * 65536 + x / 65536 % 256 * 256 + x / 16777216

module _ (x : ℕ) (l : x < 4294967296) where
  turned-byte : (i : ℕ) → i < 4 → turn x / 256 ^ i % 256 ≡ x / 256 ^ (3 - i) % 256
  unfolding turn
  turned-byte i m =
      byte_at {a = x / 16777216} {b = x / 65536 % 256} {c = x / 256 % 256} {d = x % 256} (omega arith) (omega arith) (omega arith) (omega arith) refl i m
      ∙ other-order (x % 256) (x / 256 % 256) (x / 65536 % 256) (x / 16777216) i m
      ∙ sym (byte_at {a = x % 256} {b = x / 256 % 256} {c = x / 65536 % 256} {d = x / 16777216} {x = x}
      (omega arith) (omega arith) (omega arith) (omega arith) (omega arith) (3 - i) (omega arith))

  pub turned-bytes : (k i : ℕ) → k ≤ 4 → i < k → turn x / 2 ^ (8 * (4 - k)) / 256 ^ i % 256 ≡ x / 256 ^ (k - 1 - i) % 256
  turned-bytes k i m n =
      rw (
        shift-digits 8 (4 - k) (turn x),
        div-div-eq-div-mul (turn x) (256 ^ (4 - k)) (256 ^ i),
        ← pow-add 256 (4 - k) i,
        let e : k - 1 - i ≡ 3 - (4 - k + i) = omega arith in e,
      )
      (turned-byte (4 - k + i) (omega arith))

  pub turned-fits : (k : ℕ) → turn x / 2 ^ (8 * (4 - k)) < 4294967296
  unfolding turn
  turned-fits k = let e : turn x < 4294967296 = omega arith in omega (arith, e, div-le_self (turn x) (2 ^ (8 * (4 - k))))
