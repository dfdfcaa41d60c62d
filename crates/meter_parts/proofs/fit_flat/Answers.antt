-- Adding refuses for want of soundness, or all three calls are made: `refused-fit`, `done-fit`.
use Rattle.std.proofs.Common.{rules, ◌≡◌, Err}
use mathlib.Core.Path.{ap, ◌∙◌}
use Rattle.head.proofs.Held.{HeadShaped, shape}
use Rattle.state.specs.View.{Shaped, state_of}
use Rattle.meter_parts.specs.Parts.{fit_told}
use Rattle.meter_parts.proofs.Fits.{refused-fit, limited-shaped, limited-sound, left-sound, done-fit}
use Rattle.meter_parts.proofs.fit_flat.Goals as goal

pub returns-in_err-added : goal.returns-in_err-added
returns-in_err-added c =
    let h : HeadShaped c.args.head = search shape in
    let e : c.from_residual.result ≡ Err c.in_err-added.field-0.0 = search rules in
    ap (λ r. fit_told c.args.head r c.add_parts.new.rows) e
    ∙ refused-fit {s = state_of c.args.head c.args.rows.now} (record { head_shaped = h; rows_shaped = c.requires.0 }) c.requires.1 c.page_nine-table.ensures _ _ c.in_err-added.ensures

pub reduce_sound-cut-requires : goal.reduce_sound-cut-requires
reduce_sound-cut-requires c =
    let h : HeadShaped c.args.head = search shape in
    let s : Shaped (state_of c.args.head c.args.rows.now) = record { head_shaped = h; rows_shaped = c.requires.0 } in
    let told = c.in_ok-added.ensures in (
      (limited-shaped s c.requires.1 c.page_nine-table.ensures _ told).rows_shaped,
      limited-sound s c.requires.1 c.page_nine-table.ensures _ told,
    )

pub verdict_of-verdict-requires : goal.verdict_of-verdict-requires
verdict_of-verdict-requires c =
    let h : HeadShaped c.args.head = search shape in
    let s : Shaped (state_of c.args.head c.args.rows.now) = record { head_shaped = h; rows_shaped = c.requires.0 } in
    left-sound s c.requires.1 c.page_nine-table.ensures _ c.in_ok-added.ensures c.reduce_sound-cut.ensures

pub returns : goal.returns
unfolding fit_told
returns c =
    let h : HeadShaped c.args.head = search shape in
    let s : Shaped (state_of c.args.head c.args.rows.now) = record { head_shaped = h; rows_shaped = c.requires.0 } in
    done-fit s c.requires.1 c.page_nine-table.ensures _ c.in_ok-added.ensures c.reduce_sound-cut.ensures c.verdict_of-verdict.ensures
