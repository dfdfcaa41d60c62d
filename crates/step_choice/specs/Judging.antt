-- What refuses a step, and which step comes next.
use Rattle.std.specs.Prelude.{ℕ, Option, Some, None}
use Rattle.bounded.specs.Bool.{if}
use Rattle.network.specs.Network.{Network, free, functional}
use Rattle.network.specs.Reduction.{leading, next_leader, lowest_follower}
use Rattle.step_judge.specs.Judging.{pair_number}
use Rattle.step_choice.specs.declared.Leader.{Leader}
use Rattle.step_choice.specs.declared.Leader.TheVariants as leader

-- The number that refuses a step of the variables i and j of a network, counted from 0.
unfoldable pub pair_refusal : Network → ℕ → ℕ → ℕ
pair_refusal N i j = pair_number (free N i) (free N j) (N.stated i j) (functional N i j)

-- i with the lowest variable that can follow it, or nothing where none can.
unfoldable pub follower_pair : Network → ℕ → Option (ℕ × ℕ)
follower_pair N i = if (leading N i) (Some (i, lowest_follower N i)) None

-- "the lowest i that has a legal j, with the lowest such j", or nothing where no step is legal.
abbrev pub next_pair : Network → Option (ℕ × ℕ)
next_pair N = follower_pair N (next_leader N)

-- Who leads the next step of a run: of the full reduction "the lowest i that has a legal j", of another the variable that is named.
unfoldable pub who_leads : Leader → Network → ℕ
who_leads leader.Lowest N = next_leader N
who_leads (leader.Named i) N = i
