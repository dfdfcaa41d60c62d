use Rattle.std.proofs.Common.{rules}
use Rattle.plan_lines.specs.Lines.{idle_lines}
use Rattle.plan_lines.proofs.stock.put_idle.Goals as goal

pub returns : goal.returns
unfolding idle_lines
returns c = c.put_each.ensures _ (λ b a k i r l m. search rules)
