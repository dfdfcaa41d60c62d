use Rattle.std.proofs.Common.{arith}
use Rattle.text_put.proofs.Laws.{each_none, each_more}
use Rattle.year_end.proofs.Laws.{same-each, all-bins}
use Rattle.year_end.proofs.put_shorts.Goals as goal

pub loop-o-init : goal.loop-o-init
loop-o-init c = each_none _ _ _

pub loop-o-preserved : goal.loop-o-preserved
loop-o-preserved c = each_more _ c.loop-o.o c.loop-o.invariant c.put_short_variable-next.ensures

pub returns : goal.returns
returns c = all-bins _ _ _ (same-each _ c.loop-o.o _ (omega arith) c.loop-o.invariant)
