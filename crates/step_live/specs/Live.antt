-- "Trim the live lists against each other" (L9), on 16 domains.
use Rattle.std.specs.Prelude.{List, ◌≡◌, ℕ, eqb, get_or}
use Rattle.bounded.specs.Bool.{not, if}
use Rattle.bounded.specs.Table.{tabulate}
use Rattle.words.specs.Word.{has, word}
use Rattle.network.specs.Trimming.{Lists}
use Rattle.pairs.specs.Pairs.{variables}
use Rattle.step_compose.specs.Compose.{supported_at}

-- The lists that they hold.
unfoldable pub lists_of : List ℕ → Lists
lists_of domains x a = has (get_or domains x 0) a

-- The domain of x against that of j: where x is one of the others, each value that has no partner there is gone.
unfoldable pub revised_at : ℕ → List ℕ → List ℕ → ℕ → ℕ → ℕ → ℕ
revised_at w rows domains others j x = if (has others x) (supported_at w rows x j (get_or domains x 0) (get_or domains j 0)) (get_or domains x 0)

-- The domains after all others were held against j's, and the word of those that are no longer what they were.
pub record Revised (w : ℕ) (rows domains : List ℕ) (others j : ℕ) (after : List ℕ) (changed : ℕ) : Type 0 where
  pub lists_are : after ≡ tabulate variables (revised_at w rows domains others j)
  pub changed_are : changed ≡ word variables (λ (x : ℕ). not (eqb (get_or domains x 0) (get_or after x 0)))
