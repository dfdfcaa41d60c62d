-- What the tally of the survey promises, on lent arrays: of every network that these are of, and every set T of its variables.
use Rattle.std.specs.Prelude.{Bool, true, List, ◌≡◌, ℕ, suc, ◌+◌, ◌-◌, ◌≤◌, ◌<◌, min, leb, ltb, length, get_or}
use Rattle.bounded.specs.Bool.{and, or}
use Rattle.words.specs.Word.{width, has}
use Rattle.network.specs.Network.{Network}
use Rattle.network.specs.Survey.{Tally, tallied, count_limit}
use Rattle.pairs.specs.Pairs.{variables, allows_of}
use Rattle.search_narrow.specs.Narrow.{listed, untried}

-- Variable i is one of T, from k on.
unfoldable pub to_tally : Network → (ℕ → Bool) → ℕ → ℕ → Bool
to_tally N T k i = and (leb k i) (and (ltb i N.n) (T i))

-- The stated pairs and what they allow are those of N, and `left` are the variables of T from k on.
pub record LeftOf (N : Network) (T : ℕ → Bool) (stated rows : List ℕ) (k left : ℕ) : Type 0 where
  pub from_n : k ≤ N.n
  pub stated_are : (i j : ℕ) → N.stated i j ≡ has (get_or stated i 0) j
  pub allows_are : (i j a b : ℕ) → N.allows i j a b ≡ allows_of width rows i j a b
  pub left_are : (i : ℕ) → has left i ≡ to_tally N T k i

-- The values in the domains of T from k on are below the sizes.
abbrev pub InSizes : Network → (ℕ → Bool) → (ℕ → ℕ → Bool) → ℕ → Type 0
InSizes N T D k = (i v : ℕ) → k ≤ i → i < N.n → T i ≡ true → D i v ≡ true → v < N.size i

-- The tally of T from k on.
unfoldable pub tally_from : Network → (ℕ → Bool) → (ℕ → ℕ → Bool) → ℕ → Tally
tally_from N T D k = tallied N T (N.n - k) k D

-- The count has gained that of the tally, capped, and the words have gained its values.
pub record InWords (N : Network) (T : ℕ → Bool) (D : ℕ → ℕ → Bool) (k so_far r : ℕ) (before after : List ℕ) : Type 0 where
  pub counts : r ≡ min (so_far + (tally_from N T D k).count) count_limit
  pub marks : (i u : ℕ) → has (get_or after i 0) u ≡ or (has (get_or before i 0) u) ((tally_from N T D k).used i u)

-- What tallying the variables in `left` promises,
pub record TalliedFrom (stated rows domains : List ℕ) (left r : ℕ) (before after : List ℕ) : Type 0 where
  pub whole : length after ≡ variables
  pub tallies : (N : Network) (T : ℕ → Bool) (k : ℕ) → LeftOf N T stated rows k left → InSizes N T (listed domains) k
      → InWords N T (listed domains) k 0 r before after

-- and trying the values `rest` of k, where it is of T, and then those in `left`.
pub record TriedOf (stated rows domains : List ℕ) (k rest left so_far r : ℕ) (before after : List ℕ) : Type 0 where
  pub whole : length after ≡ variables
  pub tallies : (N : Network) (T : ℕ → Bool) → LeftOf N T stated rows (suc k) left → T k ≡ true → InSizes N T (untried domains k rest) k
      → InWords N T (untried domains k rest) k so_far r before after
