use Rattle.std.proofs.Common.{rules}
use Rattle.plan_lines.proofs.values.put_values.Goals as goal

pub returns : goal.returns
returns c = c.put_each.ensures _ (λ b a k i r l m. search rules)
