-- Both numbers of the record are compared.
use Rattle.std.proofs.Common.{arith}
use Rattle.bounded.specs.Bool.{and}
use Rattle.bins.specs.Bins.{is_of}
use Rattle.bins.proofs.is_of.Goals as goal

pub returns : goal.returns
unfolding is_of and
returns c = grind (arith, c.from.ensures, c.from-2.ensures)
