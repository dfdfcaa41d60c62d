use Rattle.std.proofs.Common.{rules}
use Rattle.pairs.specs.Pairs.{partners_at}
use Rattle.order_paths.specs.Crowded.{crowded_of}
use Rattle.order_paths.proofs.Crowded.{row-crowded}
use Rattle.order_paths.proofs.partners.crowded_up.Goals as goal

pub returns : goal.returns
unfolding crowded_of partners_at
returns c = c.gather.ensures _ (λ i r l m. search (rules, row-crowded))
