-- What the functions that read tables leave behind: their contracts.
use Rattle.std.specs.Prelude.{Bool, true, List, [], ◌∷◌, ◌++◌, ◌≡◌, ℕ, suc, ◌+◌, ◌*◌, ◌≤◌, ◌<◌, eqb, length, get_or, set, take, Option, Some, None, Result, Ok, Err}
use Rattle.bounded.specs.Bool.{or}
use Rattle.words.specs.Word.{width, has, word}
use Rattle.network.specs.Sheet.{Table, tabled, row_for}
use Rattle.pairs.specs.Pairs.{variables, allows_of}
use Rattle.pairs.specs.Frames.{Words}
use Rattle.cause.specs.declared.Cause.{Cause}
use Rattle.cause.specs.declared.Refusal.{Refusal}
use Rattle.read_field.specs.declared.field.Field.{Field}
use Rattle.format.specs.Layout.{Layout}
use Rattle.format.specs.Parse.{got, bad, pair_of, parse_table, parse_tables}
use Rattle.read_field.specs.Fields.{read_as}
use Rattle.read_tables.specs.declared.Stop.{Stop}

-- What reading is told of a layout's rows: how many bytes each has, and whether one may be all-zero.
pub record RowsIn (L : Layout) (k : ℕ) (filled : Bool) : Type 0 where
  pub row_bytes : L.bytes_per_row ≡ k
  pub rows_filled : L.filled ≡ filled

-- An array of at most n sizes, 0 past them.
pub record Sized (n : ℕ) (sizes : List ℕ) : Type 0 where
  pub length_is : length sizes ≡ variables
  pub small : (k : ℕ) → get_or sizes k 0 ≤ width
  pub past : (k : ℕ) → n ≤ k → get_or sizes k 0 ≡ 0

-- The stated pairs with j marked at i.
unfoldable pub marked : List ℕ → ℕ → ℕ → List ℕ
marked stated i j = set stated i (word width (λ (v : ℕ). or (has (get_or stated i 0) v) (eqb v j)))

-- What tables state and allow, "read alike from both sides".
abbrev pub stated_by : List Table → ℕ → ℕ → Bool
stated_by tables i j = or (tabled tables i j) (tabled tables j i)

abbrev pub allowed_by : List Table → ℕ → ℕ → ℕ → ℕ → Bool
allowed_by tables i j a b = or (has (row_for tables i j a) b) (has (row_for tables j i b) a)

-- The arrays hold the tables read so far, and nothing else: each pair stated on both sides, its rows once. As a number no pair is above `last`.
pub record Held (tables : List Table) (last : ℕ) (stated rows : List ℕ) : Type 0 where
  pub ordered : (i j : ℕ) → tabled tables i j ≡ true → (i < j) × (suc i * 256 + suc j ≤ last)
  pub stated_length : length stated ≡ variables
  pub stated_are : (i : ℕ) → i < variables → get_or stated i 0 ≡ word width (stated_by tables i)
  pub rows_length : length rows ≡ 3840
  pub rows_words : Words width rows
  pub rows_are : (i j a b : ℕ) → i < j → j < variables → a < width → b < width → allows_of width rows i j a b ≡ allowed_by tables i j a b

-- The table is one more that the arrays hold, after those whose pairs are at most `previous`.
pub record TableStored (bytes : List ℕ) (previous : ℕ) (table : Table) (stated rows stated' rows' : List ℕ) (pair next : ℕ) : Type 0 where
  pub pair_is : pair ≡ pair_of table
  pub ends : next ≤ length bytes
  pub held : (ts : List Table) → Held ts previous stated rows → Held (ts ++ (table ∷ [])) pair stated' rows'

-- A table parsed, in every layout of such rows, and stored.
pub record TableIn (bytes : List ℕ) (at k : ℕ) (filled : Bool) (n previous : ℕ) (sizes stated rows stated' rows' : List ℕ) (pair next : ℕ) : Type 0 where
  pub table : Table
  pub parsed : (L : Layout) → RowsIn L k filled → parse_table L (take n sizes) previous bytes at ≡ got table next
  pub stored : TableStored bytes previous table stated rows stated' rows' pair next

-- No table is parsed at a place, in any layout of such rows.
abbrev pub NoTable : List ℕ → ℕ → ℕ → Bool → ℕ → ℕ → List ℕ → Type 0
NoTable bytes at k filled n previous sizes =
    (L : Layout) → RowsIn L k filled → (table : Table) (end : ℕ) → parse_table L (take n sizes) previous bytes at ≡ got table end → ⊥

-- A table is taken exactly where one is parsed.
pub record TableTaken (bytes : List ℕ) (at k : ℕ) (filled : Bool) (n previous : ℕ) (sizes stated rows stated' rows' : List ℕ) (r : Option Field) : Type 0 where
  pub one : (pair : Field) → r ≡ Some pair → TableIn bytes at k filled n previous sizes stated rows stated' rows' pair.value pair.next
  pub none : r ≡ None → NoTable bytes at k filled n previous sizes

-- A table parsed, in every layout of such rows; nothing is stored.
pub record TableWalked (bytes : List ℕ) (at k : ℕ) (filled : Bool) (n previous : ℕ) (sizes : List ℕ) (r : Result Field Refusal) : Type 0 where
  pub table : Table
  pub parsed : (L : Layout) → RowsIn L k filled → parse_table L (take n sizes) previous bytes at ≡ read_as r table

-- All tables parsed, and where none is refused, the arrays hold them.
pub record TablesRead (bytes : List ℕ) (from k : ℕ) (filled : Bool) (n count : ℕ) (sizes stated rows : List ℕ) (r : Result Field Refusal) : Type 0 where
  pub tables : List Table
  pub parsed : (L : Layout) → RowsIn L k filled → parse_tables L (take n sizes) count 0 bytes from ≡ read_as r tables
  pub last : ℕ
  pub held : (end : Field) → r ≡ Ok end → Held tables last stated rows

-- The table at a place is the first that is refused: what refuses it refuses all.
pub record TablesStop (bytes : List ℕ) (from k : ℕ) (filled : Bool) (n count : ℕ) (sizes : List ℕ) (at previous : ℕ) : Type 0 where
  pub inside : at ≤ length bytes
  pub none : NoTable bytes at k filled n previous sizes
  pub refuses : (L : Layout) → RowsIn L k filled → (c : Cause) (place : ℕ) → parse_table L (take n sizes) previous bytes at ≡ bad c place
      → parse_tables L (take n sizes) count 0 bytes from ≡ bad c place

-- All tables taken, or those before the first that is refused.
pub record TablesTaken (bytes : List ℕ) (from k : ℕ) (filled : Bool) (n count : ℕ) (sizes stated rows : List ℕ) (r : Result ℕ Stop) : Type 0 where
  pub ended : (end : ℕ) → r ≡ Ok end → TablesRead bytes from k filled n count sizes stated rows (Ok (record { value = count; next = end }))
  pub stopped : (stop : Stop) → r ≡ Err stop → TablesStop bytes from k filled n count sizes stop.at stop.previous
