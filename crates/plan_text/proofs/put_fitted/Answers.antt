use Rattle.head.proofs.Held.{shape}
use Rattle.state.specs.View.{state_of}
use Rattle.plan_text.proofs.Laws.{Ready, fitted-not, fitted-refused, fitted-is, fit-ready}
use Rattle.plan_text.proofs.put_fitted.Goals.{Start}
use Rattle.plan_text.proofs.put_fitted.Goals as goal

-- The shape of the head, by its type.
ready : (c : Start) → Ready (state_of c.args.head c.args.rows.now)
ready c = record { is_shaped = record { head_shaped = search shape; rows_shaped = c.requires.0 }; is_sound = c.requires.1 }

pub returns-then-not-page9 : goal.returns-then-not-page9
returns-then-not-page9 c = rw (fitted-not _ _ c.if-not-page9.true) c.put_last.ensures

pub put_last-requires-in-Ok : goal.put_last-requires-in-Ok
put_last-requires-in-Ok c =
    let r = fit-ready _ _ c.if-not-page9.false _ _ _ c.in-Ok.ensures (search ready) in
    (r.is_shaped.rows_shaped, r.is_sound)

pub returns-in-Ok : goal.returns-in-Ok
returns-in-Ok c = rw (fitted-is _ _ c.if-not-page9.false _ _ _ c.in-Ok.ensures) c.put_last-in-Ok.ensures

pub returns-in-Err : goal.returns-in-Err
returns-in-Err c = rw (fitted-refused _ _ c.if-not-page9.false _ _ _ c.in-Err.ensures) c.put_refused.ensures
