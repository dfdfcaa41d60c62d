-- Zero throughout, but for the number of the first line.
use mathlib.Core.Path.{refl}
use Rattle.year_act.specs.Kept.{new_entries}
use Rattle.year_act.proofs.new_entries.Statement.{statement}
use Rattle.year_act.proofs.new_entries.Tie as tie

returns : tie.Need-returns
unfolding new_entries
returns c = refl

pub new_entries_spec : {M : Type 1} → statement M
new_entries_spec = tie.close (tie.spec returns)
