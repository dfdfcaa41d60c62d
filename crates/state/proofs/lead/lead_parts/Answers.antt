use Rattle.std.proofs.Common.{rules, ◌≡◌, Err}
use mathlib.Core.Path.{refl, sym, ap, ◌∙◌}
use Rattle.state.specs.Calls.{called}
use Rattle.state.specs.Worked.{worked_told}
use Rattle.state.proofs.Steps.{refusal-told}
use Rattle.state.proofs.WorkedOut.{taken-told, not-refused-lead, lead-made}
use Rattle.state.proofs.lead.lead_parts.Goals as goal

pub returns-in_err-refuse_lead : goal.returns-in_err-refuse_lead
unfolding called
returns-in_err-refuse_lead c =
    let e : c.from_residual.result ≡ Err c.in_err-refuse_lead.field-0.0 = search rules in
    ap (λ r. worked_told c.args.head r c.args.rows.now) e ∙ refusal-told _ _ (c.in_err-refuse_lead.ensures)

pub overflow_sub-leader : goal.overflow_sub-leader
overflow_sub-leader c = (not-refused-lead _ (c.in_ok-refuse_lead.ensures)).leader_some

pub lead_sound-requires : goal.lead_sound-requires
lead_sound-requires c = (c.whole.ensures, (not-refused-lead _ (c.in_ok-refuse_lead.ensures)).of_sound)

pub returns : goal.returns
returns c =
    let r = c.lead_sound.ensures in
    taken-told _ _ (not-refused-lead _ (c.in_ok-refuse_lead.ensures)).number_0 (lead-made _ _) r.becomes r.steps_are
