-- The same fields.
use mathlib.Core.Path.{refl}
use Rattle.scan.specs.Scan.{going}
use Rattle.scan.proofs.going.Statement.{statement}
use Rattle.scan.proofs.going.Tie as tie

returns : tie.Need-returns
unfolding going
returns c = refl

pub going_spec : {M : Type 1} → statement M
going_spec = tie.close (tie.spec returns)
