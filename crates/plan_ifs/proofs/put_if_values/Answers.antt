use Rattle.std.proofs.Common.{rules}
use Rattle.plan_ifs.proofs.put_if_values.Goals as goal

pub returns : goal.returns
returns c = c.put_each.ensures _ (λ b a k i r l m. search rules)
