-- Soundness comes first, and then the judgement.
use mathlib.Core.Bool.{true}
use mathlib.Core.Path.{◌≡◌, sym, ◌∙◌}
use borrow.Author.Rules.{rules}
use borrow.Author.Tests.{not-true, not-false}
use Rattle.bounded.proofs.Bool.{if-true, if-false}
use Rattle.answers.specs.Answers.{outcome_number}
use Rattle.head.specs.Held.{sound_in}
use Rattle.head.proofs.Held.{held-n}
use Rattle.network.specs.Calls.{refuses}
use Rattle.state.specs.Calls.{call_refusal}
use Rattle.state.proofs.lead.refuse_lead.Statement.{statement}
use Rattle.state.proofs.lead.refuse_lead.Tie as tie

sound : (c : tie.Else-not-sound_parts) → sound_in c.args.head c.args.rows.now ≡ true
sound c = sym c.sound_parts.ensures ∙ c.if-not-sound_parts.false

returns : tie.Need-returns-then-not-sound_parts
unfolding outcome_number call_refusal refuses
returns c = sym (if-false _ _ _ (sym c.sound_parts.ensures ∙ c.if-not-sound_parts.true))

judge-leader-requires : tie.Need-judge_leader-requires
judge-leader-requires c κs = held-n _ _ (sound c)

returns-2 : tie.Need-returns
unfolding call_refusal refuses
returns-2 c = c.judge_leader.ensures _ ∙ sym (if-true _ _ _ (sound c.before))

pub refuse_lead_spec : {M : Type 1} → statement M
refuse_lead_spec =
    tie.close
    (tie.spec
    (λ c κs. search rules)
    returns
    judge-leader-requires
    returns-2)
