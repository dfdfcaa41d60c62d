-- The state that is left is sound, and its table is put.
use mathlib.Core.Path.{sym}
use native.Mathlib.Omega.{arith}
use Rattle.head.proofs.Held.{shape}
use Rattle.state.specs.View.{state_of}
use Rattle.plan_text.proofs.Laws.{Ready, between-ready, last-is, last-sound}
use Rattle.plan_text.proofs.put_last.Goals.{Start}
use Rattle.plan_text.proofs.put_last.Goals as goal

-- The shape of the head, by its type.
ready : (c : Start) → Ready (state_of c.args.head c.args.rows.now)
ready c = record { is_shaped = record { head_shaped = search shape; rows_shaped = c.requires.0 }; is_sound = c.requires.1 }

pub alternate_sound-trimmed-requires : goal.alternate_sound-trimmed-requires
alternate_sound-trimmed-requires c =
    let r = between-ready _ _ (search ready) c.reduce_sound-reduced.ensures in
    (r.is_shaped.rows_shaped, r.is_sound)

pub put_plan-requires : goal.put_plan-requires
put_plan-requires c = last-sound _ _ (search ready) c.reduce_sound-reduced.ensures c.alternate_sound-trimmed.ensures

pub returns : goal.returns
returns c =
    let put = c.put_plan.ensures in
    rw (sym (last-is _ _ (search ready) c.reduce_sound-reduced.ensures c.alternate_sound-trimmed.ensures))
    (put.0, let short = put.1 in omega arith)
