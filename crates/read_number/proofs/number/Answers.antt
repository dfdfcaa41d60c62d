-- A number of bytes that is not two is four.
use Rattle.std.proofs.Common.{arith, ◌≡◌}
use Rattle.read_number.proofs.Numbers.{number-two, number-four}
use Rattle.read_number.proofs.number.Goals as goal

pub returns-then-k-eq2 : goal.returns-then-k-eq2
returns-then-k-eq2 c = rw c.if-k-eq2.true (number-two _ _ c.type_inv.bytes _ (rw c.if-k-eq2.true at c.standing-low_first.ensures))

pub returns : goal.returns
returns c = let k : c.args.k ≡ 4 = omega arith in rw k (number-four _ _ c.type_inv.bytes _ (rw k at c.standing-low_first.ensures))
