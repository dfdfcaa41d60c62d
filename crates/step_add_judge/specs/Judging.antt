-- What refuses a table.
use Rattle.std.specs.Prelude.{Bool, List, ℕ, ◌^◌, eqb, ltb, length, get_or}
use Rattle.bounded.specs.Bool.{and}
use Rattle.bounded.specs.Fold.{every}

-- A table has so many rows, and none has a bit at or above the other size.
unfoldable pub rows_within : List ℕ → ℕ → ℕ → Bool
rows_within table size other = and (eqb (length table) size) (every (length table) (λ (c : ℕ). ltb (get_or table c 0) (2 ^ other)))
