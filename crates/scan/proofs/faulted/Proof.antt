-- The same fields.
use mathlib.Core.Path.{refl}
use Rattle.scan.specs.Scan.{faulted}
use Rattle.scan.proofs.faulted.Statement.{statement}
use Rattle.scan.proofs.faulted.Tie as tie

returns : tie.Need-returns
unfolding faulted
returns c = refl

pub faulted_spec : {M : Type 1} → statement M
faulted_spec = tie.close (tie.spec returns)
