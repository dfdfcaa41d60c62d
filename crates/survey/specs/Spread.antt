-- From the choices of the tied variables to those of all, on arrays.
use Rattle.std.specs.Prelude.{List, ◌≡◌, ℕ, suc, pred, ◌<◌, min, eqb, ltb, get_or}
use Rattle.bounded.specs.Bool.{and, if}
use Rattle.bounded.specs.Fold.{count}
use Rattle.words.specs.Word.{width, has, word}
use Rattle.network.specs.Survey.{count_limit}
use Rattle.pairs.specs.Pairs.{variables, partners_of}
use Rattle.survey.specs.declared.spread.Counted.{Counted}

-- "The count is capped at 2^64 - 1, and a flag says that there are more": it is the count of x.
pub record Counts (c : Counted) (x : ℕ) : Type 0 where
  pub count_is : c.count ≡ min x count_limit
  pub more_is : c.more ≡ ltb count_limit x

-- What i multiplies the choices by, where it is one of the others.
unfoldable pub besides_of : ℕ → ℕ → ℕ → ℕ
besides_of others list i = if (has others i) (count width (has list)) 1

-- The values of a free variable.
unfoldable pub used_of : ℕ → ℕ → ℕ → ℕ → ℕ
used_of left used list i = if (has left i) used list

-- The values of any variable.
unfoldable pub word_of : List ℕ → List ℕ → List ℕ → List ℕ → ℕ → List ℕ → ℕ → ℕ
word_of leaders domains lists rows left used i =
    if (eqb (get_or leaders i 0) 0)
    (used_of left (get_or used i 0) (get_or lists i 0) i)
    (word width (λ (v : ℕ).
    and (has (get_or domains i 0) v)
    (has (partners_of width rows (pred (get_or leaders i 0)) i
    (used_of left (get_or used (pred (get_or leaders i 0)) 0) (get_or lists (pred (get_or leaders i 0)) 0) (pred (get_or leaders i 0)))) v)))

-- The leader of i, if it has one, is another variable.
abbrev pub LedIn : List ℕ → ℕ → Type 0
LedIn leaders i = (l : ℕ) → get_or leaders i 0 ≡ suc l → (l < variables) × (l ≡ i → ⊥)
