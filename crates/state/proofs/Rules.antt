-- A step that is not refused does what the rules say, and a refused one hands back what it was given.
use mathlib.Core.Bool.{true}
use mathlib.Core.Path.{◌≡◌, sym, ap, ◌∙◌}
use Prim.Native.Nat.{ℕ, pred}
use borrow.Author.Tests.{eq-eqb}
use Rattle.network.specs.Step.{legal, followed}
use Rattle.network.specs.Rules.{Rules}
use Rattle.network.specs.Calls.{follow_step}
use Rattle.network.proofs.Calls.{not-refused-legal}
use Rattle.network.proofs.Rules.{followed-rules}
use Rattle.step_reduce.proofs.Reducing.{followed-packed}
use Rattle.state.specs.declared.state.State.{State}
use Rattle.state.specs.View.{Shaped, view}
use Rattle.state.specs.Answers.{Told}
use Rattle.state.specs.Steps.{step_refusal, stepped}
use Rattle.state.specs.Rules.{StepsByRules}
use Rattle.state.proofs.View.{state-sound, packed-view}
use Rattle.state.proofs.Calls.{call-number, call_back, taken-sound}
use Rattle.state.proofs.Steps.{sound-step, stepped-taken}

module _ (s : State) (l f : ℕ) where
  -- Only a legal step of a sound state is not refused.
  pub taken-legal : step_refusal s l f ≡ 0 → legal (view s) (pred l) (pred f) ≡ true
  taken-legal e = not-refused-legal (view s) l f (eq-eqb _ 0 (sym (sound-step s l f (taken-sound s (follow_step l f) e)) ∙ e))

  legal-rules : Shaped s → step_refusal s l f ≡ 0 → Rules (view s) (pred l) (pred f) (view (stepped s l f).state)
  legal-rules h e =
      let t = taken-sound s (follow_step l f) e in
      let L = taken-legal e in
      let same : view (stepped s l f).state ≡ followed (view s) (pred l) (pred f) =
      ap (λ (a : Told). view a.state) (stepped-taken s l f e) ∙ packed-view (followed-packed _ _ h.head_shaped t (pred l) (pred f) L) in
      rw same (followed-rules (view s) (state-sound s h t) (pred l) (pred f) L)

pub step-rules : StepsByRules
unfolding StepsByRules
step-rules s h l f = record { legal = λ e. legal-rules s l f h (sym (call-number s (follow_step l f)) ∙ e); handed_back = call_back s (follow_step l f) }
