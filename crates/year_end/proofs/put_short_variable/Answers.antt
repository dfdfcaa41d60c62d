use Rattle.text_put.proofs.Laws.{each_none, each_more}
use Rattle.year_end.proofs.put_short_variable.Goals as goal

pub loop-v-init : goal.loop-v-init
loop-v-init c = each_none _ _ _

pub loop-v-preserved : goal.loop-v-preserved
loop-v-preserved c = each_more _ c.loop-v.v c.loop-v.invariant c.put_short_one-next.ensures
