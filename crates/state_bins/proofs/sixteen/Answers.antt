use Rattle.std.proofs.Common.{rules}
use Rattle.state_bins.proofs.sixteen.Goals as goal

pub returns : goal.returns
returns c = c.table.ensures _ (λ i x l m. search rules)
