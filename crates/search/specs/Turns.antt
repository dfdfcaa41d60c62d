-- What the turns of the search promise, on lent arrays, for any number w of values: of every network that these are of.
use Rattle.std.specs.Prelude.{Bool, true, false, List, ◌≡◌, ℕ, ◌+◌, ◌≤◌, leb, ltb, length, get_or}
use Rattle.bounded.specs.Bool.{and}
use Rattle.words.specs.Word.{has}
use Rattle.network.specs.Network.{Network, free}
use Rattle.network.specs.Turns.{FirstFrom}
use Rattle.pairs.specs.Pairs.{variables, allows_of}
use Rattle.search_narrow.specs.Narrow.{listed, untried}

-- ---- the variables that are left

-- Variable i is one to be chosen, from k on.
unfoldable pub to_choose : Network → ℕ → ℕ → Bool
to_choose N k i = and (leb k i) (and (ltb i N.n) (free N i))

-- The stated pairs and what they allow are those of N, and `left` are the variables of N that are to be chosen from k on.
pub record Left (w : ℕ) (N : Network) (stated rows : List ℕ) (k left : ℕ) : Type 0 where
  pub from_n : k ≤ N.n
  pub stated_are : (i j : ℕ) → N.stated i j ≡ has (get_or stated i 0) j
  pub allows_are : (i j a b : ℕ) → N.allows i j a b ≡ allows_of w rows i j a b
  pub left_are : (i : ℕ) → has left i ≡ to_choose N k i

-- ---- what is chosen

-- If it is found the values after are the first choice from k on, within the domains D, and else there is none. Those of other variables are as before.
pub record Chooses (N : Network) (D : ℕ → ℕ → Bool) (k : ℕ) (found : Bool) (before after : List ℕ) : Type 0 where
  pub first_from : FirstFrom N D k found (λ (i : ℕ). get_or after i 0)
  pub others : (i : ℕ) → to_choose N k i ≡ false → get_or after i 0 ≡ get_or before i 0

-- What choosing the variables in `left` promises, whatever the network and the variable from which on they are its own,
pub record ChosenFrom (w : ℕ) (stated rows domains : List ℕ) (left : ℕ) (found : Bool) (before after : List ℕ) : Type 0 where
  pub whole : length after ≡ variables
  pub chooses : (N : Network) (k : ℕ) → Left w N stated rows k left → Chooses N (listed domains) k found before after

-- and trying the values `rest` of k, where it is free, and then those in `left`.
pub record TriedFrom (w : ℕ) (stated rows domains : List ℕ) (k rest left : ℕ) (found : Bool) (before after : List ℕ) : Type 0 where
  pub whole : length after ≡ variables
  pub chooses : (N : Network) → Left w N stated rows (k + 1) left → free N k ≡ true → Chooses N (untried domains k rest) k found before after
