-- Which variables are tied, on arrays.
use Rattle.std.specs.Prelude.{Bool, List, ℕ, get_or}
use Rattle.bounded.specs.Bool.{and, bit, if}
use Rattle.bounded.specs.Fold.{some, count}
use Rattle.words.specs.Word.{width, has, word}

-- i is one of the free variables, and `stated`, its word, has one of them.
unfoldable pub tied_of : ℕ → ℕ → ℕ → Bool
tied_of free stated i = and (has free i) (some width (λ (j : ℕ). and (has free j) (has stated j)))

-- The tied ones of the first n variables, as a word.
unfoldable pub tied_word : ℕ → ℕ → List ℕ → ℕ
tied_word n free stated = word n (λ (i : ℕ). tied_of free (get_or stated i 0) i)

-- How many values of i are searched, by its domain.
unfoldable pub searched_of : ℕ → ℕ → ℕ → ℕ → ℕ
searched_of free tied domain i = if (has free i) (if (has tied i) (count width (has domain)) (bit (some width (has domain)))) 1
