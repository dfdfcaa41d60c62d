-- A list of another length is refused, and for the others the pass decides, by the paths of the state.
use mathlib.Core.Path.{◌∙◌}
use native.Mathlib.Omega.{arith}
use Rattle.head.specs.Held.{held}
use Rattle.head.proofs.Held.{HeadShaped, shape, held-sound, held-n}
use Rattle.order.proofs.Left.{governed}
use Rattle.order.proofs.Passing.{tested-network, length-refused}
use Rattle.order.proofs.test.test_order.Goals as goal

pub returns-then-order-head : goal.returns-then-order-head
unfolding held
returns-then-order-head c =
    let h : HeadShaped c.args.head = search shape in
    length-refused _ (held-sound _ _ h c.requires) _ (λ e. omega arith)

pub pass-requires : goal.pass-requires
pass-requires c = (held-n _ _ c.requires, omega arith)

pub returns : goal.returns
unfolding held
returns c =
    let h : HeadShaped c.args.head = search shape in
    let s = held-sound _ _ h c.requires in
    c.pass.ensures _ (governed _ s (held-n _ _ c.requires) c.governors-over.ensures) ∙ tested-network _ s _
