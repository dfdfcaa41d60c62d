-- Paths "through tables functional along the way" (document 02; source document 000's graph P^F).
use Rattle.std.specs.Prelude.{Bool, true, ◌≡◌, ℕ, zero, suc, eqb}
use Rattle.bounded.specs.Bool.{and, or}
use Rattle.network.specs.Network.{Network, functional}

-- There is a path of edges E from i to j.
pub data Way (E : ℕ → ℕ → Bool) : ℕ → ℕ → Type 0 where
  here : {i : ℕ} → Way E i i
  along : {i j k : ℕ} → E i j ≡ true → Way E j k → Way E i k

-- As a test: j is i, or there is a path of which each number between its ends is below m (Warshall). As words: row i of round m + 1 is row i of round m,
-- joined with row m where row i has the bit m.
unfoldable pub via : (ℕ → ℕ → Bool) → ℕ → ℕ → ℕ → Bool
via E zero i j = or (eqb i j) (E i j)
via E (suc m) i j = or (via E m i j) (and (via E m i m) (via E m m j))

-- The table of i and j is stated, and functional from i to j.
unfoldable pub leads_to : Network → ℕ → ℕ → Bool
leads_to N i j = and (N.stated i j) (functional N i j)

-- "can be reached from it through tables functional along the way"
unfoldable pub reach : Network → ℕ → ℕ → Bool
reach N i j = via (leads_to N) N.n i j
