-- Numbers as digits, in ASCII codes.
use Rattle.std.specs.Prelude.{List, [], ◌∷◌, ◌++◌, ℕ, zero, suc, ◌+◌, ◌/◌, ◌%◌, ◌^◌, ltb}
use Rattle.bounded.specs.Bool.{if}

-- A number in decimal, in at most so many digits, with no zero in front.
unfoldable pub decimal_within : ℕ → ℕ → List ℕ
decimal_within zero n = []
decimal_within (suc most) n = if (ltb n 10) ((48 + n) ∷ []) (decimal_within most (n / 10) ++ ((48 + n % 10) ∷ []))

-- "other numbers are decimal"
unfoldable pub decimal : ℕ → List ℕ
decimal n = decimal_within (suc n) n

-- "upper-case hexadecimal digits"
unfoldable pub hex_digit : ℕ → ℕ
hex_digit d = if (ltb d 10) (48 + d) (55 + d)

-- The low k hexadecimal digits of a number, highest first.
unfoldable pub hex_text : ℕ → ℕ → List ℕ
hex_text zero x = []
hex_text (suc k) x = hex_digit (x / 16 ^ k % 16) ∷ hex_text k x
