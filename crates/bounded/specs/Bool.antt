-- Connectives on Bool. They are `unfoldable`, and not mathlib's `abbrev`s, so that a law's arguments are found where it is cited.
use Rattle.std.specs.Prelude.{Bool, true, false, ℕ}

unfoldable pub and : Bool → Bool → Bool
and true b = b
and false b = false

unfoldable pub or : Bool → Bool → Bool
or true b = true
or false b = b

unfoldable pub implies : Bool → Bool → Bool
implies true b = b
implies false b = true

unfoldable pub not : Bool → Bool
not true = false
not false = true

-- 1 for true and 0 for false: what a test adds to a count.
unfoldable pub bit : Bool → ℕ
bit true = 1
bit false = 0

-- The first value where the test holds, and else the second.
unfoldable pub if : {A : Type 0} → Bool → A → A → A
if true x y = x
if false x y = y
