-- The parts of a sheet's bytes, each as the code writes it: what the contracts inside the crate say. Rows and words have w bits.
use Rattle.std.specs.Prelude.{List, [], ◌∷◌, ◌++◌, ℕ, suc, ◌+◌, ◌-◌, ◌*◌, length, get_or}
use Rattle.bounded.specs.Bool.{if}
use Rattle.bounded.specs.Fold.{sum, count}
use Rattle.words.specs.Word.{has, word}
use Rattle.network.specs.Sheet.{collect}
use Rattle.pairs.specs.Pairs.{allows_of}
use Rattle.format.specs.Print.{bytes_of}

-- f at k, k + 1, .., l - 1, joined.
unfoldable pub joined : ℕ → ℕ → (ℕ → List ℕ) → List ℕ
joined k l f = collect (l - k) k f

unfoldable pub sizes_text : ℕ → List ℕ → List ℕ
sizes_text n sizes = joined 0 n (λ (i : ℕ). get_or sizes i 0 ∷ [])

-- How many members of x are above i.
unfoldable pub later : ℕ → ℕ → ℕ → ℕ
later w x i = count w (λ (v : ℕ). has x (i + 1 + v))

-- How many tables there are.
unfoldable pub count_of_tables : ℕ → ℕ → List ℕ → ℕ
count_of_tables w n stated = sum n (λ (i : ℕ). later w (get_or stated i 0) i)

-- The row of value a of i against j, as the array of rows has it.
unfoldable pub row_of : ℕ → List ℕ → ℕ → ℕ → ℕ → ℕ
row_of w rows i j a = word w (allows_of w rows i j a)

-- Texts with k bytes to a row, by what the row of each value of i against j is. `size` and `stated` are those of i.
module _ (k : ℕ) (row : ℕ → ℕ → ℕ → ℕ) where
  unfoldable pub rows_text : ℕ → ℕ → ℕ → List ℕ
  rows_text size i j = joined 0 size (λ (a : ℕ). bytes_of k (row i j a))

  -- The table of i and j, where they are stated together; nothing where they are not.
  unfoldable pub table_text : ℕ → ℕ → ℕ → ℕ → List ℕ
  table_text size stated i j = if (has stated j) (suc i ∷ suc j ∷ rows_text size i j) []

  -- The tables of i and a later variable.
  unfoldable pub later_text : ℕ → ℕ → ℕ → ℕ → List ℕ
  later_text n size stated i = joined (i + 1) n (table_text size stated i)

  unfoldable pub tables_text : ℕ → List ℕ → List ℕ → List ℕ
  tables_text n sizes stated = joined 0 n (λ (i : ℕ). later_text n (get_or sizes i 0) (get_or stated i 0) i)

module _ (w k : ℕ) (row : ℕ → ℕ → ℕ → ℕ) where
  -- What follows the count of bytes.
  unfoldable pub body_text : ℕ → List ℕ → List ℕ → List ℕ
  body_text n sizes stated = n ∷ (sizes_text n sizes ++ (count_of_tables w n stated ∷ tables_text k row n sizes stated))

  -- The version, the count of the bytes that follow, and those.
  unfoldable pub sheet_text : ℕ → ℕ → List ℕ → List ℕ → List ℕ
  sheet_text version n sizes stated = version ∷ (bytes_of 2 (length (body_text n sizes stated)) ++ body_text n sizes stated)

-- How many bytes the tables of the first n variables have: a pair, and k bytes for each value of the first variable.
unfoldable pub tables_length : ℕ → ℕ → ℕ → List ℕ → List ℕ → ℕ
tables_length w k n sizes stated = sum n (λ (i : ℕ). (2 + k * get_or sizes i 0) * later w (get_or stated i 0) i)

-- How many bytes there are.
unfoldable pub sheet_length : ℕ → ℕ → ℕ → List ℕ → List ℕ → ℕ
sheet_length w k n sizes stated = 5 + n + tables_length w k n sizes stated
