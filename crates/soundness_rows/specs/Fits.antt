-- What soundness asks of the rows, in the words of the arrays, for any number w of values: that "a pair seen from its two options says the same" needs no test, since each is held once.
use Rattle.std.specs.Prelude.{Bool, List, ℕ, ◌+◌, ◌-◌, ◌*◌, eqb, get_or}
use Rattle.bounded.specs.Bool.{and, if}
use Rattle.bounded.specs.Fold.{every}
use Rattle.words.specs.Word.{has}
use Rattle.pairs.specs.Pairs.{pair_count, slot, join_of}
use Rattle.soundness_head.specs.Fits.{within}

-- "all entries past n are zero": the rows past the pairs of the first n variables.
unfoldable pub past_fits : ℕ → ℕ → List ℕ → Bool
past_fits w n rows = eqb (join_of w rows (slot 0 n * w) (pair_count * w - slot 0 n * w)) 0

-- "rows lie within sizes": of the rows from a place on, those past the size of the lower variable are empty, and the others lie within that of the
-- higher.
unfoldable pub constraint_fits : ℕ → List ℕ → ℕ → ℕ → ℕ → Bool
constraint_fits w rows at size other = and (eqb (join_of w rows (at + size) (w - size)) 0) (within w (join_of w rows at size) other)

-- "unstated pairs allow nothing"
unfoldable pub pair_rows_fit : ℕ → List ℕ → Bool → ℕ → ℕ → ℕ → ℕ → Bool
pair_rows_fit w rows stated i j size other =
    if stated (constraint_fits w rows (slot i j * w) size other) (eqb (join_of w rows (slot i j * w) w) 0)

-- The pairs of j with the variables below it; the word is that of j.
unfoldable pub lower_rows_fit : ℕ → List ℕ → ℕ → List ℕ → ℕ → Bool
lower_rows_fit w sizes stated rows j =
    every j (λ (i : ℕ). pair_rows_fit w rows (has stated i) i j (get_or sizes i 0) (get_or sizes j 0))

unfoldable pub rows_fit : ℕ → ℕ → List ℕ → List ℕ → List ℕ → Bool
rows_fit w n sizes stated rows = and (past_fits w n rows) (every n (λ (j : ℕ). lower_rows_fit w sizes (get_or stated j 0) rows j))
