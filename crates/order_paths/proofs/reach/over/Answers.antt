use Rattle.std.proofs.Common.{rules}
use Rattle.order_paths.proofs.Reached.{column-over}
use Rattle.order_paths.proofs.reach.over.Goals as goal

pub returns : goal.returns
returns c = column-over c.args.paths.now c.args.i _ (c.gather-column.ensures _ (λ j t l m. search rules)) c.without.ensures
