-- The same fields.
use mathlib.Core.Path.{refl}
use Rattle.bins_text.specs.Machine.{refused_at}
use Rattle.bins_text.proofs.refused_at.Statement.{statement}
use Rattle.bins_text.proofs.refused_at.Tie as tie

returns : tie.Need-returns
unfolding refused_at
returns c = refl

pub refused_at_spec : {M : Type 1} → statement M
refused_at_spec = tie.close (tie.spec returns)
