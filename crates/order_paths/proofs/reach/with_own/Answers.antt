use Rattle.std.proofs.Common.{rules}
use Rattle.bounded.specs.Fold.{sum}
use Rattle.words.specs.Word.{word}
use Rattle.order_paths.proofs.Reached.{own_row}
use Rattle.order_paths.proofs.reach.with_own.Goals as goal

pub returns : goal.returns
unfolding word sum
returns c = c.table.ensures _ (λ i x l m. search (rules, own_row))
