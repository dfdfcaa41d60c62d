-- What is stored and told is what the work on a head and rows comes to: `left_as`.
use Rattle.head.specs.Held.{HeadShaped}
use Rattle.head.proofs.Held.{shape}
use Rattle.state.proofs.Calls.{call_same}
use Rattle.capi_lent.proofs.Laws.{left_as}
use Rattle.capi.proofs.change.sheet_trim_parts.Goals as goal

pub returns : goal.returns
returns c =
    let shaped : HeadShaped c.head_of.result = search shape in
    left_as _ _ _ _ _ _ _ _ _ (rw c.head_of.ensures at c.trim_parts-worked.ensures) c.left.ensures (call_same _ (rw c.head_of.ensures at shaped) _)
