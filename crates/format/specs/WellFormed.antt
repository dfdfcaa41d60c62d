-- The sheets that have bytes: what the parser accepts and the printer is given.
use Rattle.std.specs.Prelude.{List, [], ◌∷◌, ◌≡◌, ℕ, ◌≤◌, ◌<◌, ◌-◌, ◌*◌, ◌/◌, ◌^◌, length}
use Rattle.network.specs.Sheet.{Table, Sheet}
use Rattle.format.specs.Layout.{Layout, fine, row_test}
use Rattle.format.specs.Parse.{pair_of, size_of}

-- Every element of a list.
pub data All {A : Type 0} (P : A → Type 0) : List A → Type 0 where
  none : All P []
  more : {x : A} {xs : List A} → P x → All P xs → All P (x ∷ xs)

pub record TableFits (L : Layout) (sizes : List ℕ) (t : Table) : Type 0 where
  pub first_in : 1 ≤ t.first
  pub ordered : t.first < t.second
  pub second_in : t.second ≤ length sizes
  pub row_count : length t.rows ≡ size_of sizes t.first
  pub rows_fit : All (λ (row : ℕ). (row_test L.filled (size_of sizes t.second) row ≡ fine) × (row < 256 ^ L.bytes_per_row)) t.rows

-- "Pairs ascend, by a and then by b, none twice": each pair as a number is above the one before, the first above `previous`.
pub data Ascend : ℕ → List Table → Type 0 where
  none : {previous : ℕ} → Ascend previous []
  more : {previous : ℕ} {t : Table} {ts : List Table} → previous < pair_of t → Ascend (pair_of t) ts → Ascend previous (t ∷ ts)

pub record WellFormed (L : Layout) (s : Sheet) : Type 0 where
  pub some_variable : 1 ≤ length s.sizes
  pub most_variables : length s.sizes ≤ 16
  pub sizes_fit : All (λ (k : ℕ). (1 ≤ k) × (k ≤ L.values_at_most)) s.sizes
  pub tables_fit : All (TableFits L s.sizes) s.tables
  pub ascending : Ascend 0 s.tables
  pub table_count : length s.tables ≤ length s.sizes * (length s.sizes - 1) / 2
