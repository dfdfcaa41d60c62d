-- What a version of the format fixes, and the tests of the fields: each answers "fine", or which cause.
use Rattle.std.specs.Prelude.{Bool, true, false, List, [], ◌∷◌, ℕ, ◌+◌, ◌-◌, ◌*◌, ◌/◌, ◌%◌, ◌^◌, eqb, ltb, leb}
use Rattle.bounded.specs.Bool.{and, or, not, if}
use Rattle.cause.specs.declared.Cause.{Cause}
use Rattle.cause.specs.declared.Cause.TheVariants.{VariableCount, Size, ConstraintCount, PairRange, PairOrder, PairRepeated, RowRange, BlankRow}

-- The answer of a field's test.
pub data Test : Type 0 where
  fine : Test
  fault : Cause → Test

-- "The largest version 2 sheet has 15,621 bytes, which is the limit in number 1 and in the program." Number 1 is tested before the version, so the limit is
-- that of every version.
unfoldable pub longest : ℕ
longest = 15621

-- "Sizes may go to 32, in a sound state too": in no version further.
abbrev pub largest_size : ℕ
largest_size = 32

-- What a version fixes.
pub record Layout : Type 0 where
  pub version : ℕ
  pub bytes_per_row : ℕ  -- bytes of a row
  pub values_at_most : ℕ  -- the largest size
  pub filled : Bool  -- an all-zero row is banned

-- The bytes of the largest sheet of a layout: "3 and 1 + 16 + 1 + 120 × 34", with 2 and a row for each of the most values in the place of 34.
unfoldable pub largest_in : Layout → ℕ
largest_in L = 3 + (1 + 16 + 1) + 120 * (2 + L.bytes_per_row * L.values_at_most)

-- n is "1 to 16": 3 "n is 0 or above 16"
unfoldable pub count_test : ℕ → Test
count_test n = if (or (eqb n 0) (ltb 16 n)) (fault VariableCount) fine

-- 4 "a size is 0 or above 16": "number 4 goes by the version's limit"
unfoldable pub size_test : ℕ → ℕ → Test
size_test most size = if (or (eqb size 0) (ltb most size)) (fault Size) fine

-- 5 "p above n(n-1)/2"
unfoldable pub constraints_test : ℕ → ℕ → Test
constraints_test n p = if (ltb (n * (n - 1) / 2) p) (fault ConstraintCount) fine

-- Document 02: "Number 7 keeps only option numbers out of range, that is a of 0, b of 0, or either above n." The pair is one number of two bytes,
-- a * 256 + b.
unfoldable pub out_of_range : ℕ → ℕ → Bool
out_of_range n pair = or (or (eqb (pair / 256) 0) (eqb (pair % 256) 0)) (or (ltb n (pair / 256)) (ltb n (pair % 256)))

-- "It refuses with 19 when a is not below b, and with 20 when the pair is not after the one before; the order is 7, 19, 20": "Pairs ascend, by a and then
-- by b, none twice" is that the pair as a number grows; before the first it is 0.
unfoldable pub pair_test : ℕ → ℕ → ℕ → Test
pair_test n previous pair =
    if (out_of_range n pair) (fault PairRange)
    (if (not (ltb (pair / 256) (pair % 256))) (fault PairOrder)
    (if (not (ltb previous pair)) (fault PairRepeated)
    fine))

-- 8 "row has a bit at or above the size of b": it is not below 2 to the size. Then 26, of a layout that "forbids an all-zero row", "at the place of the row
-- after 8"; of the others "An all-zero row is allowed."
unfoldable pub row_test : Bool → ℕ → ℕ → Test
row_test filled size row =
    if (leb (2 ^ size) row) (fault RowRange)
    (if (and filled (eqb row 0)) (fault BlankRow)
    fine)

-- "version 1 keeps two-byte rows and sizes to 16"
unfoldable pub version1 : Layout
version1 = record { version = 1; bytes_per_row = 2; values_at_most = 16; filled = false }

-- "Version 2 of the sheet has four-byte rows"; "Sizes may go to 32".
unfoldable pub version2 : Layout
version2 = record { version = 2; bytes_per_row = 4; values_at_most = 32; filled = false }

-- "Version 3 is laid out like version 2 and forbids an all-zero row. Versions 1 and 2 go on allowing it."
unfoldable pub version3 : Layout
version3 = record { version = 3; bytes_per_row = 4; values_at_most = 32; filled = true }

-- "Number 2 now means neither 1 nor 2", and then: "Numbers 2 and 24 now let 3 pass too." The layouts that there are, one for each version.
unfoldable pub layouts : List Layout
layouts = version1 ∷ version2 ∷ version3 ∷ []

-- The layout of a version, if there is one.
pub data Lookup : Type 0 where
  found : Layout → Lookup
  unknown : Lookup

unfoldable pub layout_among : List Layout → ℕ → Lookup
layout_among [] version = unknown
layout_among (L ∷ Ls) version = if (eqb version L.version) (found L) (layout_among Ls version)

unfoldable pub layout_of : ℕ → Lookup
layout_of version = layout_among layouts version
