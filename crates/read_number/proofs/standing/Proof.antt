-- A number of bytes that is not two is four.
use mathlib.Core.Path.{◌≡◌}
use native.Mathlib.Omega.{arith}
use borrow.Author.Rules.{rules}
use Rattle.read_number.proofs.standing.Statement.{statement}
use Rattle.read_number.proofs.standing.Tie as tie

returns : tie.Need-returns-then-k-eq2
returns c = rw c.if-k-eq2.true c.two.ensures

returns-2 : tie.Need-returns
returns-2 c = let k : c.args.k ≡ 4 = omega arith in rw k (omega (arith, c.four.ensures))

pub standing_spec : {M : Type 1} → statement M
standing_spec = tie.close (tie.spec (λ c κs. search rules) (λ c. search rules) returns (λ c κs. search rules) returns-2)
