use Rattle.std.proofs.Common.{rules, ◌≡◌, Err}
use mathlib.Core.Path.{refl, sym, ap, ◌∙◌}
use Rattle.state.specs.Calls.{called}
use Rattle.state.specs.Worked.{worked_told}
use Rattle.state.proofs.Steps.{refusal-told}
use Rattle.state.proofs.WorkedOut.{taken-told, not-refused-step, step-made}
use Rattle.state.proofs.reduction.eliminate_parts.Goals as goal

pub returns-in_err-refuse_step : goal.returns-in_err-refuse_step
unfolding called
returns-in_err-refuse_step c =
    let e : c.from_residual.result ≡ Err c.in_err-refuse_step.field-0.0 = search rules in
    ap (λ r. worked_told c.args.head r c.args.rows.now) e ∙ refusal-told _ _ (c.in_err-refuse_step.ensures)

pub overflow_sub-leader : goal.overflow_sub-leader
overflow_sub-leader c = (not-refused-step _ (c.in_ok-refuse_step.ensures)).leader_some

pub overflow_sub-follower : goal.overflow_sub-follower
overflow_sub-follower c = (not-refused-step _ (c.in_ok-refuse_step.ensures)).follower_some

pub step-after-requires : goal.step-after-requires
step-after-requires c = let T = not-refused-step _ (c.in_ok-refuse_step.ensures) in (T.of_sound, c.whole.ensures, T.is_legal)

pub returns : goal.returns
returns c = taken-told _ _ (not-refused-step _ (c.in_ok-refuse_step.ensures)).number_0 (step-made _ _ _) c.step-after.ensures refl
