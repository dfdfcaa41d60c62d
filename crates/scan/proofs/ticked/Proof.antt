-- The same fields.
use borrow.Author.Rules.{rules}
use Rattle.scan.specs.Scan.{ticked}
use Rattle.scan.proofs.ticked.Statement.{statement}
use Rattle.scan.proofs.ticked.Tie as tie

returns : tie.Need-returns
unfolding ticked
returns c = rw (c.begin_after-begin.ensures, c.up-column.ensures)

pub ticked_spec : {M : Type 1} → statement M
ticked_spec = tie.close (tie.spec (λ c κs. search rules) (λ c κs. search rules) returns)
