-- The same fields.
use borrow.Author.Rules.{rules}
use Rattle.scan.specs.Scan.{opening}
use Rattle.scan.proofs.opening.Statement.{statement}
use Rattle.scan.proofs.opening.Tie as tie

returns : tie.Need-returns
unfolding opening
returns c = rw c.first_kind.ensures

pub opening_spec : {M : Type 1} → statement M
opening_spec = tie.close (tie.spec (λ c κs. search rules) returns)
