use Rattle.std.proofs.Common.{rules, ◌<◌, ◌^◌}
use Rattle.text_lines.specs.Text.{ascii}
use Rattle.plan_text.proofs.Laws.{text-refused-put, text-refused-le, text-accepted, read-ready}
use Rattle.plan_text.proofs.put_text_of.Goals as goal

pub put_led-requires : goal.put_led-requires
put_led-requires c =
    let r = read-ready _ c.args.ask _ _ c.in-Ok.ensures (λ k. search rules) in
    (r.is_shaped.rows_shaped, r.is_sound)

pub returns-in-Ok : goal.returns-in-Ok
returns-in-Ok c = rw (text-accepted _ _ _ _ c.in-Ok.ensures) c.put_led.ensures

pub returns-in-Err : goal.returns-in-Err
unfolding ascii
returns-in-Err c =
    let small : c.in-Err.refusal.place < 2 ^ 64 = search rules in (
      text-refused-put _ _ _ _ c.in-Err.ensures c.put_refusal_at-said.ensures c.put_text.ensures,
      text-refused-le _ _ _ _ c.in-Err.ensures small,
    )
