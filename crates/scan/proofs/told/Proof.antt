-- The same fields.
use borrow.Author.Rules.{rules}
use Rattle.scan.specs.Line.{told}
use Rattle.scan.proofs.told.Statement.{statement}
use Rattle.scan.proofs.told.Tie as tie

returns : tie.Need-returns
unfolding told
returns c = rw c.line_kind.ensures

pub told_spec : {M : Type 1} → statement M
told_spec = tie.close (tie.spec (λ c κs. search rules) returns)
