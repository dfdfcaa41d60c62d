-- The completer, the allowed choices and the verdict.
use Rattle.std.specs.Prelude.{Bool, ℕ, pred, ltb}
use Rattle.bounded.specs.Bool.{and, implies, not, if}
use Rattle.bounded.specs.Fold.{every, some, first}
use Rattle.network.specs.Network.{Network, free, partner}

-- The value of the eliminated variable i that goes with value a of its leader: the lowest partner, and in a sound network the only one.
unfoldable pub follow : Network → ℕ → ℕ → ℕ
follow N i a = first (N.size i) (partner N (pred (N.leader i)) i a)

-- "The completer reads the bytes of live options and writes those of followers; what the follower bytes held before does not matter."
unfoldable pub completed : Network → (ℕ → ℕ) → ℕ → ℕ
completed N f i = if (free N i) (f i) (follow N i (f (pred (N.leader i))))

-- "each value is in its option's list", of free variables
unfoldable pub choice_in_domains : Network → (ℕ → ℕ) → Bool
choice_in_domains N f = every N.n (λ (i : ℕ). implies (free N i) (N.domain i (f i)))

-- "each stated pair of two live options allows its two values"
unfoldable pub choice_pairs_allow : Network → (ℕ → ℕ) → Bool
choice_pairs_allow N f =
    every N.n (λ (i : ℕ).
    every N.n (λ (j : ℕ).
    implies (and (free N i) (and (free N j) (N.stated i j))) (N.allows i j (f i) (f j))))

-- "A choice gives each live option a value. It is allowed when each value is in its option's list and each stated pair of two live
-- options allows its two values." Values at eliminated variables do not count.
unfoldable pub allowed_choice : Network → (ℕ → ℕ) → Bool
allowed_choice N f = and (choice_in_domains N f) (choice_pairs_allow N f)

-- The completer's refusal: 15 "a live value not in its list", then 16 "two live values that their stated pair does not allow", else 0.
unfoldable pub complete_refusal : Network → (ℕ → ℕ) → ℕ
complete_refusal N f = if (not (choice_in_domains N f)) 15 (if (not (choice_pairs_allow N f)) 16 0)

pub data Verdict : Type 0 where
  NONE BUILT OPEN : Verdict

-- The lowest value in a domain, or the size where the domain is empty.
unfoldable pub lowest : Network → ℕ → ℕ
lowest N i = first (N.size i) (N.domain i)

-- "some live list is empty"
unfoldable pub exhausted : Network → Bool
exhausted N = some N.n (λ (i : ℕ). and (free N i) (not (some (N.size i) (N.domain i))))

-- "no two live options are stated together" (document 02). Stated is the mark, whatever the table allows. In a sound network where this holds and no free
-- domain is empty, the lowest values, completed, are a solution.
unfoldable pub decided : Network → Bool
decided N =
    every N.n (λ (i : ℕ).
    every N.n (λ (j : ℕ).
    implies (and (free N i) (free N j)) (not (N.stated i j))))

-- "NONE if some live list is empty; .. else OPEN" (document 01), and between them "the verdict is BUILT when no live list is empty and no two live
-- options are stated together" (document 02).
unfoldable pub verdict : Network → Verdict
verdict N = if (exhausted N) NONE (if (decided N) BUILT OPEN)

-- "Each live option then takes its lowest value."
unfoldable pub lowest_solution : Network → ℕ → ℕ
lowest_solution N = completed N (lowest N)

-- "A build it returns is zero past n, and all zero with NONE or OPEN."
unfoldable pub shown : Network → ℕ → ℕ
shown N i = if (and (not (exhausted N)) (and (decided N) (ltb i N.n))) (lowest_solution N i) 0
