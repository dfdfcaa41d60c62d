use Rattle.std.proofs.Common.{rules}
use Rattle.plan_lines.specs.Lines.{stock_lines}
use Rattle.plan_lines.proofs.stock.put_stock.Goals as goal

pub returns : goal.returns
unfolding stock_lines
returns c = c.put_each.ensures _ (λ b a k i r l m. search rules)
