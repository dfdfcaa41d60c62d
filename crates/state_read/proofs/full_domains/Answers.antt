use Rattle.std.proofs.Common.{rules}
use Rattle.state_read.proofs.full_domains.Goals as goal

pub returns : goal.returns
returns c = c.table.ensures _ (λ i r l m. search rules)
