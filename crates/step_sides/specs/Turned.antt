-- A table from its other side, for any number w of values.
use Rattle.std.specs.Prelude.{Bool, List, ◌≡◌, ℕ, ◌≤◌, length}
use Rattle.bounded.specs.Bool.{and}
use Rattle.bounded.specs.Table.{tabulate}
use Rattle.words.specs.Word.{has, word}
use Rattle.network.specs.Added.{table_allows}
use Rattle.step_sides.specs.declared.sides.Side.{Side}
use Rattle.step_sides.specs.Sides.{PartnersIn, cut_at}

-- "The new table has one row for each value of the first option named, with bits for the values of the second": value d of the second, where it is in the
-- domain, is in the rows of these values of the first,
unfoldable pub column_at : ℕ → List ℕ → ℕ → ℕ → Bool
column_at domain table d c = and (has domain d) (table_allows table c d)

-- which are the row of d in the table of the second and the first.
unfoldable pub turned_of : ℕ → ℕ → List ℕ → List ℕ
turned_of w domain table = tabulate w (λ (d : ℕ). word w (column_at domain table d))

-- Told from its other side, a table says the same of the two leaders' values.
pub record Turns (w : ℕ) (rows table : List ℕ) (s t : Side) : Type 0 where
  pub rows_few : length table ≤ w
  pub columns_in : PartnersIn w rows (turned_of w t.domain table) t
  pub cut_same : (was : Bool) (a b : ℕ) → cut_at w rows (turned_of w t.domain table) t s was b a ≡ cut_at w rows table s t was a b
