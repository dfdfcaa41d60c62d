-- What the functions that read a sheet leave behind: their contracts.
use Rattle.std.specs.Prelude.{List, ◌≡◌, ℕ, length, take, Result, Ok}
use Rattle.bounded.specs.Table.{tabulate}
use Rattle.words.specs.Word.{width, word}
use Rattle.network.specs.Sheet.{Sheet, network_of}
use Rattle.pairs.specs.Pairs.{variables, rows_of}
use Rattle.cause.specs.declared.Refusal.{Refusal}
use Rattle.read_field.specs.declared.field.Field.{Field}
use Rattle.format.specs.Layout.{size_test}
use Rattle.format.specs.Parse.{Parse, fields}
use Rattle.read_field.specs.Fields.{read_as}
use Rattle.read_tables.specs.Tables.{Sized}

-- The first n entries of the array are the sizes parsed.
pub record SizesRead (bytes : List ℕ) (n most : ℕ) (sizes : List ℕ) (r : Result Field Refusal) : Type 0 where
  pub parsed : fields 1 (size_test most) n bytes 4 ≡ read_as r (take n sizes)
  pub sized : Sized n sizes

-- The arrays of the network that a sheet means: sizes, stated pairs and rows.
pub record Holds (s : Sheet) (sizes stated rows : List ℕ) : Type 0 where
  pub sizes_are : sizes ≡ tabulate variables (network_of s).size
  pub stated_are : stated ≡ tabulate variables (λ (i : ℕ). word width ((network_of s).stated i))
  pub rows_are : rows ≡ rows_of width (network_of s).allows

-- A parse of a whole sheet into arrays that were zero: the answer is the parse's, its value the number of variables, and where it is not refused
-- the arrays hold the sheet. (After a refusal they hold what had been read; no caller looks at that.)
pub record SheetRead (p : Parse Sheet) (sizes stated rows : List ℕ) (r : Result Field Refusal) : Type 0 where
  pub sheet : Sheet
  pub parsed : p ≡ read_as r sheet
  pub count_is : (count : Field) → r ≡ Ok count → count.value ≡ length sheet.sizes
  pub holds : (count : Field) → r ≡ Ok count → Holds sheet sizes stated rows
