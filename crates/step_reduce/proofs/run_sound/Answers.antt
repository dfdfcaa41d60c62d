use Rattle.std.proofs.Common.{rules, ◌≡◌, Some}
use mathlib.Core.Path.{sym, ◌∙◌}
use native.Mathlib.Omega.{arith}
use Rattle.step_choice.specs.Judging.{follower_pair, who_leads}
use Rattle.head.specs.Held.{held}
use Rattle.head.proofs.Held.{HeadShaped, shape}
use Rattle.step_reduce.proofs.Reducing.{running_none, running-legal, running-steps, running-less, running_more, running-done}
use Rattle.step_reduce.proofs.run_sound.Goals as goal

pub loop-i-init : goal.loop-i-init
loop-i-init c = let h : HeadShaped c.args.head = search shape in running_none _ _ _ h c.requires.0 c.requires.1

pub next_step-requires : goal.next_step-requires
next_step-requires c = c.loop-i.invariant.still_sound

pub step-cut-requires : goal.step-cut-requires
step-cut-requires c = let R = c.loop-i.invariant in (R.still_sound, R.still_rows, running-legal R (sym c.next_step.ensures ∙ c.in-Some.is))

pub overflow_add-steps : goal.overflow_add-steps
overflow_add-steps c = omega (arith, running-steps c.loop-i.invariant (sym c.next_step.ensures ∙ c.in-Some.is))

pub loop-i-smaller : goal.loop-i-smaller
loop-i-smaller c = running-less c.loop-i.invariant (sym c.next_step.ensures ∙ c.in-Some.is) c.step-cut.ensures

pub loop-i-preserved : goal.loop-i-preserved
loop-i-preserved c = running_more c.loop-i.invariant (sym c.next_step.ensures ∙ c.in-Some.is) c.step-cut.ensures

pub returns : goal.returns
returns c = running-done c.loop-i.invariant (sym c.next_step.ensures ∙ c.in_default.is)
