-- A call of the list: what it hands back and adds; and the kind of a verdict.
use mathlib.Core.Bool.{true}
use mathlib.Core.Logic.{◌↔◌}
use mathlib.Core.Path.{◌≡◌, ap, ◌∙◌}
use Rattle.bounded.specs.Table.{tabulate}
use Rattle.answers.specs.Answers.{rules}
use Rattle.network.specs.Completion.{Verdict, verdict, shown}
use Rattle.state.specs.Solutions.{verdict_of}
use Rattle.state.proofs.Solutions.{verdict-of}
use Rattle.network.specs.Calls.{Call, answer, adds}
use Rattle.state.specs.declared.state.State.{State}
use Rattle.state.specs.View.{view, pack, sound_state}
use Rattle.state.proofs.View.{Shaped}
use Rattle.state.proofs.Calls.{call-sound, call-number, call-answers}
use Rattle.promise.specs.Promise.{state_handed_back, adds_to, ruled_as}

-- On a sound state it is the state of the network that the call answers.
pub handed-answers : (s : State) → Shaped s → sound_state s ≡ true → (c : Call) → state_handed_back s c ≡ pack (answer (view s) c)
unfolding state_handed_back
handed-answers s h t c = call-answers s h t c

-- And it adds the table that it adds to that network.
pub call-adds : (s : State) → sound_state s ≡ true → (c : Call) → adds_to s c ≡ adds (view s) c
unfolding adds_to adds
call-adds s t c = rw (call-number s c, call-sound s c t)

pub ruled-as : (s : State) → sound_state s ≡ true → (k : Verdict) → ruled_as k (verdict_of s) ↔ (verdict (view s) ≡ k)
unfolding ruled_as
ruled-as s t k = (
  λ r. let p = verdict-of s t in let q = r.1 in cc,
  λ v. (tabulate 16 (shown (view s)), verdict-of s t ∙ ap (λ (x : Verdict). rules x (tabulate 16 (shown (view s)))) v),
)
