-- What settling the variables of one value promises, on arrays and of a network.
use Rattle.std.specs.Prelude.{Bool, true, false, List, ◌↔◌, ◌≡◌, ℕ, ◌<◌, eqb, ltb, length, get_or}
use Rattle.bounded.specs.Bool.{and, not}
use Rattle.bounded.specs.Fold.{count, first}
use Rattle.words.specs.Word.{width, has, word}
use Rattle.network.specs.Network.{Network, free}
use Rattle.network.specs.Survey.{tied, settled, settled_domain}
use Rattle.pairs.specs.Pairs.{variables, allows_of}
use Rattle.survey.specs.declared.settle.Settled.{Settled}

-- i is tied, and its domain has one value.
unfoldable pub single_of : ℕ → ℕ → ℕ → Bool
single_of tied domain i = and (has tied i) (eqb (count width (has domain)) 1)

-- Those of the first n variables, as a word.
unfoldable pub single_word : ℕ → ℕ → List ℕ → ℕ
single_word n tied domains = word n (λ (i : ℕ). single_of tied (get_or domains i 0) i)

-- The lowest value of a domain: of a variable of one value, its value.
unfoldable pub value_of : List ℕ → ℕ → ℕ
value_of domains i = first width (has (get_or domains i 0))

-- The variables in `singles` have a value, and are stated with others.
pub record Ready (singles : ℕ) (domains stated : List ℕ) : Type 0 where
  pub single_in : (i : ℕ) → has singles i ≡ true → (i < variables) × (value_of domains i < width)
  pub other_in : (i j : ℕ) → has (get_or stated i 0) j ≡ true → (j < variables) × (i ≡ j → ⊥)

-- Those of them that are not in `rest` have narrowed the lists.
pub record SettledFrom (rows : List ℕ) (singles : ℕ) (domains stated : List ℕ) (rest : ℕ) (before after : List ℕ) : Type 0 where
  pub whole : length after ≡ length before
  pub narrowed : (j u : ℕ) → (has (get_or after j 0) u ≡ true)
      ↔ ((has (get_or before j 0) u ≡ true)
      × ((i : ℕ) → has singles i ≡ true → has rest i ≡ false → has (get_or stated i 0) j ≡ true → allows_of width rows i j (value_of domains i) u ≡ true))

-- What i is stated with, once the pairs of the variables in `singles` are stated no more.
unfoldable pub unstated_word : ℕ → ℕ → ℕ → ℕ
unstated_word singles stated i = word width (λ (j : ℕ). and (has stated j) (and (not (has singles i)) (not (has singles j))))

-- Of a network: what is searched is `settled N`.
pub record SettledIn (N : Network) (r : Settled) : Type 0 where
  pub free_are : (i : ℕ) → has r.free i ≡ and (ltb i N.n) (free N i)
  pub left_are : (i : ℕ) → has r.left i ≡ and (ltb i N.n) (tied (settled N) i)
  pub lists_are : (j u : ℕ) → has (get_or r.lists j 0) u ≡ settled_domain N j u
  pub stated_are : (i j : ℕ) → (settled N).stated i j ≡ has (get_or r.stated i 0) j
