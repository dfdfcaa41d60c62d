-- What the product is taken over, on arrays.
use Rattle.std.specs.Prelude.{ℕ, eqb}
use Rattle.bounded.specs.Bool.{if}
use Rattle.bounded.specs.Fold.{count}
use Rattle.words.specs.Word.{width, has}

-- How many values are open to a variable, by its leader and its domain.
unfoldable pub open_of : ℕ → ℕ → ℕ
open_of leader domain = if (eqb leader 0) (count width (has domain)) 1
