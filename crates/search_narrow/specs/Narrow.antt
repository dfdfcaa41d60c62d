-- The domains that are lent to a search, and what a value that is taken leaves of them, for any number w of values.
use Rattle.std.specs.Prelude.{Bool, false, List, ◌≡◌, ℕ, eqb, length, get_or}
use Rattle.bounded.specs.Bool.{and, if}
use Rattle.words.specs.Word.{has, word}
use Rattle.pairs.specs.Pairs.{allows_of}

-- The values in each domain, by the array of domains,
unfoldable pub listed : List ℕ → ℕ → ℕ → Bool
listed domains i a = has (get_or domains i 0) a

-- and where those of k that are not tried yet are `rest`.
unfoldable pub untried : List ℕ → ℕ → ℕ → ℕ → ℕ → Bool
untried domains k rest i a = if (eqb i k) (has rest a) (has (get_or domains i 0) a)

-- The values in a domain of j that go with value v of k.
unfoldable pub cut_by : ℕ → List ℕ → ℕ → ℕ → ℕ → ℕ → ℕ
cut_by w rows k v j domain = word w (λ (u : ℕ). and (has domain u) (allows_of w rows k j v u))

-- The domains of the variables in `among` are cut, and the others are as before. Where no change is said there is none.
pub record Narrowed (w : ℕ) (rows : List ℕ) (among k v : ℕ) (changed : Bool) (before after : List ℕ) : Type 0 where
  pub whole : length after ≡ length before
  pub narrowed : (j : ℕ) → get_or after j 0 ≡ if (has among j) (cut_by w rows k v j (get_or before j 0)) (get_or before j 0)
  pub unchanged : changed ≡ false → (j : ℕ) → get_or after j 0 ≡ get_or before j 0
