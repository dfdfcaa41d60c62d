-- Page nine of the flat meter (document 02, L7). "Values count from 0 in the order given here. These are our house numbers."
use Rattle.std.specs.Prelude.{Bool, false, List, [], ◌∷◌, ◌≡◌, ℕ, ◌*◌, leb, ltb, get_or}
use Rattle.bounded.specs.Bool.{and}
use Rattle.bounded.specs.Table.{tabulate}
use Rattle.words.specs.Word.{word}

-- "Option 1 is the cell: 1,200, 1,900, 2,600 or 3,600 mAh."
unfoldable pub capacities : List ℕ
capacities = 1200 ∷ 1900 ∷ 2600 ∷ 3600 ∷ []

-- "Option 2 is the sending interval: 8, 16, 32 or 64 s, drawing 22, 14, 10 or 8 microamperes."
unfoldable pub seconds : List ℕ
seconds = 8 ∷ 16 ∷ 32 ∷ 64 ∷ []

unfoldable pub draws : List ℕ
draws = 22 ∷ 14 ∷ 10 ∷ 8 ∷ []

-- "A cell and an interval go together exactly when capacity × 1,000 is at least draw × 87,600": any capacity and any draw.
unfoldable pub goes_with : (capacity draw : ℕ) → Bool
goes_with capacity draw = leb (draw * 87600) (capacity * 1000)

-- A value of option 1 and one of option 2, each one of the four.
unfoldable pub go_together : (cell interval : ℕ) → Bool
go_together cell interval = and (and (ltb cell 4) (ltb interval 4)) (goes_with (get_or capacities cell 0) (get_or draws interval 0))

-- The rule as a table: the row of a capacity has a bit for each interval that goes with it, and there is a row for each cell.
unfoldable pub row_of : ℕ → ℕ
row_of capacity = word 4 (λ (interval : ℕ). goes_with capacity (get_or draws interval 0))

unfoldable pub page_nine : List ℕ
page_nine = tabulate 4 (λ (cell : ℕ). row_of (get_or capacities cell 0))

-- The cell of so many mAh fails at the interval of so many seconds.
abbrev pub Fails : (mAh s : ℕ) → Type 0
Fails mAh s = (cell : ℕ) × (interval : ℕ) × (get_or capacities cell 0 ≡ mAh) × (get_or seconds interval 0 ≡ s) × (go_together cell interval ≡ false)

-- What the rule comes to.
pub record PageNineIs : Type 0 where
  pub rows : page_nine ≡ 0x000C ∷ 0x000E ∷ 0x000F ∷ 0x000F ∷ []
  -- "So 1,900 fails at 8 s and 1,200 fails at 16 s."
  pub at_8 : Fails 1900 8
  pub at_16 : Fails 1200 16
