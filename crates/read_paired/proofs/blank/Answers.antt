-- Each case of the row.
use Rattle.std.proofs.Common.{rules}
use Rattle.bounded.specs.Bool.{bit}
use Rattle.read_paired.proofs.blank.Goals as goal

pub returns : goal.returns
unfolding bit
returns c = search rules
