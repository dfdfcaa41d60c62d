use Rattle.std.proofs.Common.{rules}
use Rattle.search_product.proofs.Factors.{capped-none, capped-more}
use Rattle.search_product.proofs.capped_product.Goals as goal

pub loop-i-init : goal.loop-i-init
loop-i-init g c = λ f h. capped-none f

pub loop-i-preserved : goal.loop-i-preserved
loop-i-preserved g c = λ f h. let e = capped-more f _ (c.loop-i.invariant f h) (h _ _ (search rules) c.factor.ensures) in search (rules, e)
