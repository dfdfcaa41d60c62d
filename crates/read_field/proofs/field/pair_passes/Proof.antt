-- The four tests together are that the pair passes.
use Rattle.read_field.proofs.Fields.{pair-decided}
use Rattle.read_field.proofs.field.pair_passes.Statement.{statement}
use Rattle.read_field.proofs.field.pair_passes.Tie as tie

returns : tie.Need-returns
returns c = pair-decided _ _ _

pub pair_passes_spec : {M : Type 1} → statement M
pair_passes_spec = tie.close (tie.spec returns)
