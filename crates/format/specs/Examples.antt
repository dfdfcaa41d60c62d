-- Short sheets of each version, and what they are parsed to.
use Rattle.std.specs.Prelude.{List, [], ◌∷◌, ℕ}
use Rattle.cause.specs.declared.Cause.TheVariants.{Version, Size, Extent, RowRange, BlankRow}
use Rattle.network.specs.Sheet.{Sheet}
use Rattle.format.specs.Parse.{Parse, got, bad}

-- Bytes, and what they are parsed to.
pub record Example : Type 0 where
  pub bytes : List ℕ
  pub answer : Parse Sheet

-- A sheet of two variables with one table.
unfoldable pub two : ℕ → ℕ → List ℕ → Sheet
two first second rows = record { sizes = first ∷ second ∷ []; tables = record { first = 1; second = 2; rows = rows } ∷ [] }

unfoldable pub examples : List Example
examples =
    -- 27 values, and bit 26 of a row; 32 values, and bit 31
    record { bytes = 2 ∷ 0 ∷ 10 ∷ 2 ∷ 1 ∷ 27 ∷ 1 ∷ 1 ∷ 2 ∷ 4 ∷ 0 ∷ 0 ∷ 0 ∷ []; answer = got (two 1 27 (67108864 ∷ [])) 13 }
    ∷ record { bytes = 2 ∷ 0 ∷ 10 ∷ 2 ∷ 1 ∷ 32 ∷ 1 ∷ 1 ∷ 2 ∷ 128 ∷ 0 ∷ 0 ∷ 0 ∷ []; answer = got (two 1 32 (2147483648 ∷ [])) 13 }
    -- bit 27 of 27 values
    ∷ record { bytes = 2 ∷ 0 ∷ 10 ∷ 2 ∷ 1 ∷ 27 ∷ 1 ∷ 1 ∷ 2 ∷ 8 ∷ 0 ∷ 0 ∷ 0 ∷ []; answer = bad RowRange 9 }
    -- 33 values, and 27 in version 1
    ∷ record { bytes = 2 ∷ 0 ∷ 10 ∷ 2 ∷ 1 ∷ 33 ∷ 1 ∷ 1 ∷ 2 ∷ 4 ∷ 0 ∷ 0 ∷ 0 ∷ []; answer = bad Size 5 }
    ∷ record { bytes = 1 ∷ 0 ∷ 8 ∷ 2 ∷ 1 ∷ 27 ∷ 1 ∷ 1 ∷ 2 ∷ 4 ∷ 0 ∷ []; answer = bad Size 5 }
    -- a row of three bytes
    ∷ record { bytes = 2 ∷ 0 ∷ 9 ∷ 2 ∷ 1 ∷ 27 ∷ 1 ∷ 1 ∷ 2 ∷ 4 ∷ 0 ∷ 0 ∷ []; answer = bad Extent 9 }
    ∷ record { bytes = 2 ∷ 0 ∷ 3 ∷ 1 ∷ 32 ∷ 0 ∷ []; answer = got (record { sizes = 32 ∷ []; tables = [] }) 6 }
    -- no table, and no such version
    ∷ record { bytes = 3 ∷ 0 ∷ 3 ∷ 1 ∷ 1 ∷ 0 ∷ []; answer = got (record { sizes = 1 ∷ []; tables = [] }) 6 }
    ∷ record { bytes = 4 ∷ 0 ∷ 3 ∷ 1 ∷ 1 ∷ 0 ∷ []; answer = bad Version 0 }
    -- an all-zero row: in version 3, in version 2, and cut off
    ∷ record { bytes = 3 ∷ 0 ∷ 14 ∷ 2 ∷ 2 ∷ 1 ∷ 1 ∷ 1 ∷ 2 ∷ 0 ∷ 0 ∷ 0 ∷ 1 ∷ 0 ∷ 0 ∷ 0 ∷ 0 ∷ []; answer = bad BlankRow 13 }
    ∷ record { bytes = 2 ∷ 0 ∷ 14 ∷ 2 ∷ 2 ∷ 1 ∷ 1 ∷ 1 ∷ 2 ∷ 0 ∷ 0 ∷ 0 ∷ 1 ∷ 0 ∷ 0 ∷ 0 ∷ 0 ∷ []; answer = got (two 2 1 (1 ∷ 0 ∷ [])) 17 }
    ∷ record { bytes = 3 ∷ 0 ∷ 13 ∷ 2 ∷ 2 ∷ 1 ∷ 1 ∷ 1 ∷ 2 ∷ 0 ∷ 0 ∷ 0 ∷ 1 ∷ 0 ∷ 0 ∷ 0 ∷ []; answer = bad Extent 13 }
    -- an all-zero row after a bit at the size of b, and before a bad pair
    ∷ record { bytes = 3 ∷ 0 ∷ 14 ∷ 2 ∷ 2 ∷ 1 ∷ 1 ∷ 1 ∷ 2 ∷ 0 ∷ 0 ∷ 0 ∷ 2 ∷ 0 ∷ 0 ∷ 0 ∷ 0 ∷ []; answer = bad RowRange 9 }
    ∷ record { bytes = 3 ∷ 0 ∷ 17 ∷ 3 ∷ 1 ∷ 1 ∷ 1 ∷ 2 ∷ 1 ∷ 2 ∷ 0 ∷ 0 ∷ 0 ∷ 0 ∷ 0 ∷ 3 ∷ 0 ∷ 0 ∷ 0 ∷ 1 ∷ []; answer = bad BlankRow 10 }
    -- a column may be empty
    ∷ record { bytes = 3 ∷ 0 ∷ 14 ∷ 2 ∷ 2 ∷ 2 ∷ 1 ∷ 1 ∷ 2 ∷ 0 ∷ 0 ∷ 0 ∷ 1 ∷ 0 ∷ 0 ∷ 0 ∷ 1 ∷ []; answer = got (two 2 2 (1 ∷ 1 ∷ [])) 17 }
    ∷ []
