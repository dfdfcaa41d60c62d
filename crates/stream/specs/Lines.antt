-- The lines of an input.
use Rattle.std.specs.Prelude.{List, [], ◌∷◌, ℕ, eqb}
use Rattle.bounded.specs.Bool.{if}

-- A byte before the first of some lines is its first byte.
unfoldable pub on_first : ℕ → List (List ℕ) → List (List ℕ)
on_first b [] = (b ∷ []) ∷ []
on_first b (l ∷ ls) = (b ∷ l) ∷ ls

-- What each line feed (10) ends, and what stands behind the last one, if anything does.
unfoldable pub lines_of : List ℕ → List (List ℕ)
lines_of [] = []
lines_of (b ∷ bs) = if (eqb b 10) ([] ∷ lines_of bs) (on_first b (lines_of bs))
