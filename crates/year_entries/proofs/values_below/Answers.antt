use Rattle.std.proofs.Common.{rules}
use Rattle.year_entries.proofs.values_below.Goals as goal

pub returns : goal.returns
returns c = c.every.ensures _ (λ i r l m. search rules)
