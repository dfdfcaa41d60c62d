-- Kinds of bytes, by their ASCII codes.
use Rattle.std.specs.Prelude.{Bool, ℕ, eqb, leb}
use Rattle.bounded.specs.Bool.{if, and, or}

unfoldable pub within : (low high byte : ℕ) → Bool
within low high byte = and (leb low byte) (leb byte high)

unfoldable pub one_of : (a b byte : ℕ) → Bool
one_of a b byte = or (eqb byte a) (eqb byte b)

unfoldable pub is_digit : ℕ → Bool
is_digit byte = within 48 57 byte

unfoldable pub is_letter : ℕ → Bool
is_letter byte = or (within 65 90 byte) (within 97 122 byte)

-- "one `,` or `;`"
unfoldable pub is_separator : ℕ → Bool
is_separator byte = one_of 44 59 byte

-- "any blanks (space, tab)"
unfoldable pub is_blank : ℕ → Bool
is_blank byte = one_of 32 9 byte

-- "`D` .. a delivery, `C` .. a call-off", "letters of either case": 1 and 2, and 0 for "a kind that is neither D nor C".
unfoldable pub kind_of : ℕ → ℕ
kind_of byte = if (one_of 68 100 byte) 1 (if (one_of 67 99 byte) 2 0)
