-- The same fields.
use mathlib.Core.Path.{refl}
use Rattle.scan.specs.Scan.{returned}
use Rattle.scan.proofs.returned.Statement.{statement}
use Rattle.scan.proofs.returned.Tie as tie

returns : tie.Need-returns
unfolding returned
returns c = refl

pub returned_spec : {M : Type 1} → statement M
returned_spec = tie.close (tie.spec returns)
