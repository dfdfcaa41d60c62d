-- What a leader that is named answers of a state where nothing refuses it (document 02, L12). The leader counts from 1.
use Rattle.std.specs.Prelude.{false, ◌⊎◌, ◌≡◌, ℕ, suc, pred, ◌≤◌}
use Rattle.bounded.specs.Bool.{and, not}
use Rattle.bounded.specs.Fold.{count}
use Rattle.network.specs.Network.{free}
use Rattle.network.specs.Step.{legal}
use Rattle.state.specs.declared.state.State.{State}
use Rattle.state.specs.View.{view}
use Rattle.state.specs.Steps.{led}

pub record Led (s : State) (l : ℕ) : Type 0 where
  -- "Only it takes followers": each option has the leader that it had, or the one that is named, which stays live,
  pub only_it : (x : ℕ) → ((view (led s l).state).leader x ≡ (view s).leader x) ⊎ ((view (led s l).state).leader x ≡ l)
  pub stays_live : (view (led s l).state).leader (pred l) ≡ 0
  -- "until none can follow".
  pub none_can_follow : (j : ℕ) → legal (view (led s l).state) (pred l) j ≡ false
  -- "the number of steps": as many as options were live before and are not now,
  pub steps_taken : count s.n (λ (x : ℕ). and (free (view s) x) (not (free (view (led s l).state) x))) ≡ (led s l).steps
  -- fewer than there are options.
  pub steps_most : suc (led s l).steps ≤ s.n
