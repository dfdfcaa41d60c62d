use Rattle.std.proofs.Common.{rules}
use Rattle.step_parts.proofs.StepArrays.{j-led, led-same}
use Rattle.step_parts.proofs.head_after.leaders_after.Goals as goal

pub returns : goal.returns
returns c = c.table.ensures _ (λ x r l m. search (rules, j-led, led-same))
