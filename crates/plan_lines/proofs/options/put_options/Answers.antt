use Rattle.std.proofs.Common.{rules}
use Rattle.plan_lines.specs.Lines.{option_lines}
use Rattle.plan_lines.proofs.options.put_options.Goals as goal

pub returns : goal.returns
unfolding option_lines
returns c = c.put_each.ensures _ (λ b a k i r l m. search rules)
