-- The tables and the builds of a sheet, read off its bytes alone: by a walk of their own over byte numbers, through neither the parser nor anything parsed.
use Rattle.std.specs.Prelude.{Bool, true, List, ℕ, zero, suc, ◌+◌, ◌-◌, ◌*◌, eqb, ltb, length, get_or}
use Rattle.bounded.specs.Bool.{and, if}
use Rattle.bounded.specs.Fold.{every}
use Rattle.words.specs.Word.{has}
use Rattle.format.specs.Layout.{Lookup, found, unknown, layout_of}

-- The bytes of a row in a layout.
unfoldable pub width_in : Lookup → ℕ
width_in (found L) = L.bytes_per_row
width_in unknown = 0

module _ (bytes : List ℕ) where
  unfoldable pub byte : ℕ → ℕ
  byte at = get_or bytes at 0

  -- "n, the number of options (one byte ..)": byte 3.
  unfoldable pub options : ℕ
  options = byte 3

  -- The size of the variable x, counted from 1.
  unfoldable pub option_size : ℕ → ℕ
  option_size x = byte (3 + x)

  -- "p, the number of tables (one byte ..)", after the sizes; the first table follows.
  unfoldable pub tables : ℕ
  tables = byte (4 + options)

  unfoldable pub first_table : ℕ
  first_table = 5 + options

  -- The bytes of a row, by the version, byte 0.
  unfoldable pub row_width : ℕ
  row_width = width_in (layout_of (byte 0))

  -- "All numbers are unsigned and big-endian": 256 times the number in all bytes but the last, and the last.
  unfoldable pub big_endian : ℕ → ℕ → ℕ
  big_endian zero at = 0
  big_endian (suc k) at = big_endian k at * 256 + byte (at + k)

  -- Of a table whose pair stands at a place: the row for a value of a ("value 0 first"),
  unfoldable pub table_row : ℕ → ℕ → ℕ
  table_row at a = big_endian row_width (at + 2 + row_width * a)

  -- and the place past its last row, one "for each value of a".
  unfoldable pub next_table : ℕ → ℕ
  next_table at = at + 2 + row_width * option_size (byte at)

  -- The place of the pair a, b among so many tables, the first at a place; 0 if there is none.
  unfoldable pub place_among : ℕ → ℕ → ℕ → ℕ → ℕ
  place_among a b zero at = 0
  place_among a b (suc p) at = if (and (eqb (byte at) a) (eqb (byte (at + 1)) b)) at (place_among a b p (next_table at))

  -- The place of the table of the variables a and b, in this order; 0 if the file has none.
  unfoldable pub table_place : ℕ → ℕ → ℕ
  table_place a b = place_among a b tables first_table

  -- The file has a table of the variables a and b, in this order: no table stands at place 0.
  unfoldable pub has_table : ℕ → ℕ → Bool
  has_table a b = ltb 0 (table_place a b)

  -- The table whose pair stands at a place allows the values that f has (f counts variables from 0):
  -- "the row for its value of a has the bit for its value of b".
  unfoldable pub table_allows : (ℕ → ℕ) → ℕ → Bool
  table_allows f at = has (table_row at (f (byte at - 1))) (f (byte (at + 1) - 1))

  -- So many tables, the first at a place.
  unfoldable pub tables_allow : (ℕ → ℕ) → ℕ → ℕ → Bool
  tables_allow f zero at = true
  tables_allow f (suc p) at = and (table_allows f at) (tables_allow f p (next_table at))

  -- "each below that option's size, and in every table of the file the row for its value of a has the bit for its value of b"
  unfoldable pub is_a_build : (ℕ → ℕ) → Bool
  is_a_build f = and (every options (λ (i : ℕ). ltb (f i) (option_size (i + 1)))) (tables_allow f tables first_table)

  -- "A build of a sheet .. is n bytes, one for each option".
  unfoldable pub is_build_of : List ℕ → Bool
  is_build_of build = and (eqb (length build) options) (is_a_build (λ (i : ℕ). get_or build i 0))
