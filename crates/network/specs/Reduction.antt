-- The full reduction.
use Rattle.std.specs.Prelude.{Bool, true, ◌≡◌, ℕ, zero, suc, pred}
use Rattle.bounded.specs.Bool.{not, if}
use Rattle.bounded.specs.Fold.{some, count, first}
use Rattle.network.specs.Network.{Network, free}
use Rattle.network.specs.Step.{outside, legal, followed}

-- How many variables are free.
unfoldable pub free_count : Network → ℕ
free_count N = count N.n (free N)

-- i "has a legal j".
unfoldable pub leading : Network → ℕ → Bool
leading N i = some N.n (legal N i)

-- Some step is legal.
unfoldable pub reducible : Network → Bool
reducible N = some N.n (leading N)

-- "the lowest i that has a legal j, with the lowest such j"
unfoldable pub next_leader : Network → ℕ
next_leader N = first N.n (leading N)

-- The lowest variable that can follow i.
unfoldable pub lowest_follower : Network → ℕ → ℕ
lowest_follower N i = first N.n (legal N i)

unfoldable pub next_follower : Network → ℕ
next_follower N = lowest_follower N (next_leader N)

-- The network with that step taken.
unfoldable pub advance : Network → Network
advance N = followed N (next_leader N) (next_follower N)

-- "It hands back the state and the number of steps."
pub record Reduced : Type 0 where
  pub network : Network
  pub steps : ℕ

unfoldable pub one_more : Reduced → Reduced
one_more r = record { network = r.network; steps = suc r.steps }

-- At most so many steps, each by the leader that `who` names, with the lowest variable that can follow it; fewer where that leader has none.
unfoldable pub run_within : (Network → ℕ) → ℕ → Network → Reduced
run_within who zero N = record { network = N; steps = 0 }
run_within who (suc most) N =
    if (leading N (who N))
    (one_more (run_within who most (followed N (who N) (lowest_follower N (who N)))))
    (record { network = N; steps = 0 })

-- At most so many steps of the reduction: it takes "the lowest i that has a legal j".
unfoldable pub reduce_within : ℕ → Network → Reduced
reduce_within most N = run_within next_leader most N

-- "The full reduction .. repeats until no step is legal." Each step takes a free variable, so n steps are more than there can be.
unfoldable pub reduce : Network → Reduced
reduce N = reduce_within N.n N

-- Document 02: "I want to name the option that leads .. Only it takes followers, the lowest possible one each time, until none can follow. The state and
-- the number of steps come back." The leader counts from 0.
unfoldable pub lead : Network → ℕ → Reduced
lead N l = run_within (λ (M : Network). l) N.n N

-- Its refusal, the leader counted from 1: "It refuses with 9, then 10, then 11 when the named option is not live", or 0.
unfoldable pub lead_refusal : Network → ℕ → ℕ
lead_refusal N l = if (outside N l) 10 (if (not (free N (pred l))) 11 0)

-- A run of legal steps, whichever they are, and their number: what holds of any run holds of the reduction.
pub data Run : Network → Network → ℕ → Type 0 where
  done : {N : Network} → Run N N 0
  next : {N M : Network} {k : ℕ} (i j : ℕ) → legal N i j ≡ true → Run (followed N i j) M k → Run N M (suc k)
