use Rattle.std.proofs.Common.{rules}
use Rattle.pairs.specs.Pairs.{hits_at}
use Rattle.pairs.proofs.run.hits.Goals as goal

pub returns : goal.returns
unfolding hits_at
returns c = c.gather.ensures _ (λ i r l m. search rules)
