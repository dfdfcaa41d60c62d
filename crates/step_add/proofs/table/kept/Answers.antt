use Rattle.std.proofs.Common.{rules}
use Rattle.step_add.proofs.table.kept.Goals as goal

pub returns : goal.returns
returns c = c.gather.ensures _ (λ a r l m. search rules)
