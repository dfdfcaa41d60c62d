use Rattle.head.proofs.Held.{shape}
use Rattle.state.specs.View.{state_of}
use Rattle.plan_text.proofs.Laws.{Ready, led-not, led-refused, led-is, lead-ready}
use Rattle.plan_text.proofs.put_led.Goals.{Start}
use Rattle.plan_text.proofs.put_led.Goals as goal

-- The shape of the head, by its type.
ready : (c : Start) → Ready (state_of c.args.head c.args.rows.now)
ready c = record { is_shaped = record { head_shaped = search shape; rows_shaped = c.requires.0 }; is_sound = c.requires.1 }

pub returns-in_default : goal.returns-in_default
returns-in_default c = rw (led-not _ c.args.ask c.in_default.is) c.put_fitted.ensures

pub put_fitted-requires-in-Ok : goal.put_fitted-requires-in-Ok
put_fitted-requires-in-Ok c =
    let r = lead-ready _ c.args.ask c.in-Some.is c.args.head _ _ c.in-Ok.ensures (search ready) in
    (r.is_shaped.rows_shaped, r.is_sound)

pub returns-in-Ok : goal.returns-in-Ok
returns-in-Ok c = rw (led-is _ c.args.ask c.in-Some.is c.args.head _ _ c.in-Ok.ensures) c.put_fitted-in-Ok.ensures

pub returns-in-Err : goal.returns-in-Err
returns-in-Err c = rw (led-refused _ c.args.ask c.in-Some.is c.args.head _ _ c.in-Err.ensures) c.put_refused.ensures
