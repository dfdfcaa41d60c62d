use Rattle.std.proofs.Common.{rules, arith, ◌≡◌}
use Rattle.text_put.proofs.Laws.{each_none, each_more}
use Rattle.text_put.proofs.put_each.Goals as goal

pub loop-i-init : goal.loop-i-init
loop-i-init g c = (search rules, λ text puts. each_none text _ _)

pub loop-i-preserved : goal.loop-i-preserved
loop-i-preserved g c = (search rules, λ text puts. each_more text _ (c.loop-i.invariant.1 text puts) (puts _ _ _ _ _ (search rules) c.put-next.ensures))

pub returns : goal.returns
returns g c = λ text puts. let e : c.loop-i.i ≡ c.args.n = omega arith in rw e at (c.loop-i.invariant.1 text puts)
