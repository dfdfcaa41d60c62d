-- The paired profile on bytes (document 02, L14): "refuses with 31 and the zero state a sheet that has another kind of table, naming the place of the first
-- such pair, after all other tests of reading".
use Rattle.std.specs.Prelude.{Bool, true, false, List, ◌≡◌, ℕ, zero, suc, ◌+◌, ◌<◌, eqb, leb}
use Rattle.bounded.specs.Bool.{and, if}
use Rattle.bounded.specs.Fold.{every, count}
use Rattle.words.specs.Word.{has}
use Rattle.cause.specs.declared.Cause.{Cause}
use Rattle.network.specs.Sheet.{Sheet}
use Rattle.format.specs.Parse.{Parse, got, bad, parse}
use Rattle.format.specs.Builds.{byte, option_size, tables, first_table, table_row, next_table}

-- A table of m rows against k values is "functional both ways on the full lists": no row has two of the values, and no value stands in two rows.
unfoldable pub rows_paired : ℕ → ℕ → (ℕ → ℕ) → Bool
rows_paired m k row =
    and (every m (λ (a : ℕ). leb (count k (has (row a))) 1))
    (every k (λ (b : ℕ). leb (count m (λ (a : ℕ). has (row a) b)) 1))

module _ (bytes : List ℕ) where
  -- The table whose pair stands at a place is.
  unfoldable pub table_paired : ℕ → Bool
  table_paired at = rows_paired (option_size bytes (byte bytes at)) (option_size bytes (byte bytes (at + 1))) (table_row bytes at)

  -- "the place of the first such pair" among so many tables, the first at a place; 0 if there is none.
  unfoldable pub unpaired_among : ℕ → ℕ → ℕ
  unpaired_among zero at = 0
  unpaired_among (suc p) at = if (table_paired at) (unpaired_among p (next_table bytes at)) at

  unfoldable pub unpaired_place : ℕ
  unpaired_place = unpaired_among (tables bytes) (first_table bytes)

  -- The place of the table that comes so many after the one at a place.
  unfoldable pub place_past : ℕ → ℕ → ℕ
  place_past zero at = at
  place_past (suc k) at = place_past k (next_table bytes at)

-- "the place of the first such pair": a table of the file stands there that is not functional both ways, and all that stand before it are.
pub record FirstOther (bytes : List ℕ) (place : ℕ) : Type 0 where
  pub before : ℕ
  pub in_file : before < tables bytes
  pub stands : place ≡ place_past bytes before (first_table bytes)
  pub other_kind : table_paired bytes place ≡ false
  pub all_before : (k : ℕ) → k < before → table_paired bytes (place_past bytes k (first_table bytes)) ≡ true

-- "after all other tests of reading": what the old call refuses stays refused, and of what it accepts the place is looked at.
unfoldable pub then_paired : Cause → ℕ → Parse Sheet → Parse Sheet
then_paired cause place (bad c at) = bad c at
then_paired cause place (got s end) = if (eqb place 0) (got s end) (bad cause place)

-- "A reading call of its own, beside the old one": what the old one accepts, and then the test of the tables. The cause is that of number 31.
unfoldable pub parse_paired : Cause → List ℕ → Parse Sheet
parse_paired cause bytes = then_paired cause (unpaired_place bytes) (parse bytes)
