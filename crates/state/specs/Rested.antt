-- What trimming and reducing in turn answers of a sound state (document 02, L9).
use Rattle.std.specs.Prelude.{◌≡◌, ℕ, suc, ◌≤◌}
use Rattle.bounded.specs.Bool.{and, not}
use Rattle.bounded.specs.Fold.{count}
use Rattle.network.specs.Network.{free}
use Rattle.network.specs.Trimming.{Rests}
use Rattle.state.specs.declared.state.State.{State}
use Rattle.state.specs.View.{view}
use Rattle.state.specs.Steps.{trimmed}

pub record Rested (s : State) : Type 0 where
  -- "alternate until neither changes anything": of what is handed back the trimming changes nothing, and no step is legal.
  pub at_rest : Rests (view (trimmed s).state)
  -- "the total number of follow steps": as many as options were live before and are not now,
  pub steps_taken : count s.n (λ (x : ℕ). and (free (view s) x) (not (free (view (trimmed s).state) x))) ≡ (trimmed s).steps
  -- fewer than there are options.
  pub steps_most : suc (trimmed s).steps ≤ s.n
