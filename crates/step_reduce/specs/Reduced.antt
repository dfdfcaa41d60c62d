-- What a run of steps makes of a head and rows, and its count of steps.
use Rattle.std.specs.Prelude.{List, ◌≡◌, ℕ}
use Rattle.network.specs.Reduction.{Reduced}
use Rattle.head.specs.Held.{Represents}
use Rattle.step_reduce.specs.declared.Reduction.{Reduction}

-- They become those of the network that is told, and the count is the one told.
pub record RanTo (told : Reduced) (r : Reduction) (after : List ℕ) : Type 0 where
  pub becomes : Represents told.network r.head after
  pub steps_are : r.steps ≡ told.steps
