-- A buffer of another length stays as it was, and into the others goes the order of the paths of the state.
use native.Mathlib.Omega.{arith}
use Rattle.head.specs.Held.{held}
use Rattle.head.proofs.Held.{HeadShaped, shape, held-sound, held-n}
use Rattle.order.proofs.Left.{governed}
use Rattle.order.proofs.Placing.{buffer-found, buffer-refused}
use Rattle.order.proofs.find.find_order.Goals as goal

pub returns-then-order-head : goal.returns-then-order-head
unfolding held
returns-then-order-head c =
    let h : HeadShaped c.args.head = search shape in
    buffer-refused _ (held-sound _ _ h c.requires) _ (λ e. omega arith)

pub place_all-requires : goal.place_all-requires
place_all-requires c = (held-n _ _ c.requires, omega arith)

pub returns : goal.returns
unfolding held
returns c =
    let h : HeadShaped c.args.head = search shape in
    let s = held-sound _ _ h c.requires in
    buffer-found _ s _ (omega arith) (c.place_all.ensures _ (governed _ s (held-n _ _ c.requires) c.governors-over.ensures))
