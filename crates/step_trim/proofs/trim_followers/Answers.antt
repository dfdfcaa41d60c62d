use Rattle.std.proofs.Common.{rules}
use Rattle.step_trim.proofs.trim_followers.Goals as goal

pub returns : goal.returns
returns c = c.table.ensures _ (λ i x l m. search rules)
