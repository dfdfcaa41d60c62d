-- The bounds are those of the library.
use Rattle.std.proofs.Common.{arith}
use Rattle.bounded.specs.Bool.{and, or}
use Rattle.scan.specs.Bytes.{is_letter, within}
use Rattle.scan.proofs.is_letter.Goals as goal

pub returns : goal.returns
unfolding is_letter within and or
returns c = grind (arith, c.is_ascii_alphabetic.ensures.value)
