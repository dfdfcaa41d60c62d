use Rattle.std.proofs.Common.{arith}
use Rattle.bounded.specs.Bool.{and}
use Rattle.scan.specs.Bytes.{within}
use Rattle.scan.proofs.within.Goals as goal

pub returns : goal.returns
unfolding within and
returns c = grind (arith, c.contains.ensures.cases, c.new.ensures)
