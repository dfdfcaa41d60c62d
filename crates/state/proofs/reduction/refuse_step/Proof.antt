-- Soundness comes first, and then the judgement.
use mathlib.Core.Bool.{true}
use mathlib.Core.Path.{◌≡◌, sym, ◌∙◌}
use borrow.Author.Rules.{rules}
use borrow.Author.Tests.{not-true, not-false}
use Rattle.bounded.proofs.Bool.{if-true, if-false}
use Rattle.answers.specs.Answers.{outcome_number}
use Rattle.head.specs.Held.{sound_in}
use Rattle.network.specs.Calls.{refuses}
use Rattle.state.specs.Calls.{call_refusal}
use Rattle.state.proofs.reduction.refuse_step.Statement.{statement}
use Rattle.state.proofs.reduction.refuse_step.Tie as tie

sound : (c : tie.Else-not-sound_parts) → sound_in c.args.head c.args.rows.now ≡ true
sound c = sym c.sound_parts.ensures ∙ c.if-not-sound_parts.false

returns : tie.Need-returns-then-not-sound_parts
unfolding outcome_number call_refusal refuses
returns c = sym (if-false _ _ _ (sym c.sound_parts.ensures ∙ c.if-not-sound_parts.true))

judge-requires : tie.Need-judge-requires
judge-requires c κs = sound c

returns-2 : tie.Need-returns
unfolding call_refusal refuses
returns-2 c = c.judge.ensures ∙ sym (if-true _ _ _ (sound c.before))

pub refuse_step_spec : {M : Type 1} → statement M
refuse_step_spec =
    tie.close
    (tie.spec
    (λ c κs. search rules)
    returns
    judge-requires
    returns-2)
