-- The sizes of the first `i` variables are added.
use Rattle.std.proofs.Common.{◌≡◌, ◌+◌, ◌*◌, ◌≤◌}
use Rattle.bins_counts.specs.Counts.{spot}
use Rattle.bins_counts.proofs.spot.Given as goal

abbrev pub invariant-loop-i : goal.invariant-loop-i
invariant-loop-i l = (l.at ≡ spot l.sizes l.i l.value) × (l.at ≤ l.value + 255 * l.i)
