-- Each refusal in its turn.
use Rattle.std.proofs.Common.{rules}
use mathlib.Core.Path.{sym, ◌∙◌}
use borrow.Author.Tests.{not-true, not-false}
use Rattle.answers.specs.Answers.{outcome_number}
use Rattle.meter.proofs.Fitted.{refuses-unsound, refuses-not-flat, refuses-none}
use Rattle.meter.proofs.refuse_fit.Goals as goal

pub returns-then-not-is_sound : goal.returns-then-not-is_sound
unfolding outcome_number
returns-then-not-is_sound c = sym (refuses-unsound _ (sym c.is_sound.ensures ∙ c.if-not-is_sound.true))

pub returns-then-not-is_flat_meter : goal.returns-then-not-is_flat_meter
unfolding outcome_number
returns-then-not-is_flat_meter c =
    sym (refuses-not-flat _ (sym c.is_sound.ensures ∙ c.if-not-is_sound.false) (sym c.is_flat_meter.ensures ∙ c.if-not-is_flat_meter.true))

pub returns : goal.returns
unfolding outcome_number
returns c = sym (refuses-none _ (sym c.is_sound.ensures ∙ c.if-not-is_sound.false) (sym c.is_flat_meter.ensures ∙ c.if-not-is_flat_meter.false))
