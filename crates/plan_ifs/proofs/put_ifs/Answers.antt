use Rattle.std.proofs.Common.{rules}
use Rattle.head.specs.Held as Held
use Rattle.head.proofs.Held.{held-n}
use Rattle.plan_ifs.specs.Ifs.{if_lines}
use Rattle.plan_ifs.proofs.put_ifs.Goals as goal

pub put_each-requires : goal.put_each-requires
put_each-requires c = let most = held-n _ _ c.requires in search rules

pub returns : goal.returns
unfolding if_lines Held.held
returns c = c.put_each.ensures _ (λ b a k i r l m. search rules)
