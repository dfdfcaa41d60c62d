-- The same fields.
use mathlib.Core.Path.{refl}
use Rattle.scan.specs.Scan.{phased}
use Rattle.scan.proofs.phased.Statement.{statement}
use Rattle.scan.proofs.phased.Tie as tie

returns : tie.Need-returns
unfolding phased
returns c = refl

pub phased_spec : {M : Type 1} → statement M
phased_spec = tie.close (tie.spec returns)
