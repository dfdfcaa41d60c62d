-- The library's sum ends at the same number.
use Rattle.std.proofs.Common.{arith}
use Rattle.bounded.specs.Bool.{if}
use Rattle.bins_counts.specs.Counts.{plus}
use Rattle.year_end.proofs.sum.Goals as goal

pub returns : goal.returns
unfolding plus if
returns c = grind (arith, c.saturating_add.ensures)
