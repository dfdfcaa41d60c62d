use Rattle.std.proofs.Common.{rules}
use Rattle.plan_lines.specs.Lines.{build_texts}
use Rattle.plan_lines.proofs.ruling.put_build.Goals as goal

pub returns : goal.returns
unfolding build_texts
returns c = c.put_each.ensures _ (λ b a k i r l m. search rules)
