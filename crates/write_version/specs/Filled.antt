-- That no row is blank, each part as the code looks for it, for any number w of values.
use Rattle.std.specs.Prelude.{Bool, List, ℕ, get_or}
use Rattle.bounded.specs.Bool.{implies}
use Rattle.bounded.specs.Fold.{every, some}
use Rattle.words.specs.Word.{has}
use Rattle.pairs.specs.Pairs.{allows_of}

module _ (w : ℕ) (rows : List ℕ) where
  -- The table of i and j, where they are stated together, has none. `size` and `stated` are those of i.
  unfoldable pub pair_filled : ℕ → ℕ → ℕ → ℕ → Bool
  pair_filled size stated i j = implies (has stated j) (every size (λ (a : ℕ). some w (allows_of w rows i j a)))

  -- The tables of j and an earlier variable.
  unfoldable pub earlier_filled : List ℕ → List ℕ → ℕ → Bool
  earlier_filled sizes stated j = every j (λ (i : ℕ). pair_filled (get_or sizes i 0) (get_or stated i 0) i j)

  unfoldable pub all_filled : ℕ → List ℕ → List ℕ → Bool
  all_filled n sizes stated = every n (earlier_filled sizes stated)
