use Rattle.bins_counts.proofs.Each.{each_more, each_none}
use Rattle.bins_counts.proofs.draw.Goals as goal

pub loop-o-init : goal.loop-o-init
loop-o-init c = each_none _ _ _ _

pub loop-o-preserved : goal.loop-o-preserved
loop-o-preserved c = each_more _ _ _ _ c.loop-o.o _ _ _ c.loop-o.invariant c.spot_of.ensures c.draw_at.ensures
