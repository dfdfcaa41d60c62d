use Rattle.std.proofs.Common.{rules}
use Rattle.head.specs.Held.{held}
use Rattle.head.proofs.Held.{HeadShaped, shape, held-sound, held-n}
use Rattle.order_paths.proofs.Reached.{over-are}
use Rattle.order_paths.proofs.reach.governors.Goals as goal

pub returns : goal.returns
unfolding held
returns c =
    let h : HeadShaped c.args.head = search shape in
    over-are _ (held-sound _ _ h c.requires) (held-n _ _ c.requires) c.paths-reached.ensures (c.table.ensures _ (λ i x l m. search rules))
