-- The answers of the code are those of the calls.
use mathlib.Core.Bool.{true, false}
use mathlib.Core.List.{List}
use mathlib.Core.Path.{◌≡◌, refl, sym, ap, ap₂, ◌∙◌}
use Prim.Native.Nat.{ℕ, pred, ◌-◌, ◌≤◌}
use native.Mathlib.Numerals.{sub-one}
use Rattle.cause.specs.declared.Cause.TheVariants as cause
use Rattle.network.specs.Step.{legal, followed}
use Rattle.network.specs.Network.{Network}
use Rattle.network.specs.Reduction.{Reduced, reduce, lead}
use Rattle.network.specs.Trimming.{alternate}
use Rattle.network.proofs.Step.{refusal-0, legal-i}
use Rattle.network.proofs.Lead.{lead-refuses}
use Rattle.std.specs.Prelude.{Ok}
use Rattle.cause.specs.Number.{number_of}
use Rattle.answers.specs.Answers.{outcome_number}
use Rattle.step_reduce.specs.declared.Reduction.{Reduction}
use Rattle.step_reduce.specs.Reduced.{RanTo}
use Rattle.head.specs.declared.Head.{Head}
use Rattle.head.specs.Held.{Represents, held, sound_in}
use Rattle.state.specs.declared.state.State.{State}
use Rattle.state.specs.View.{state_of, view, pack, sound_state}
use Rattle.state.specs.Calls.{refused, call_refusal, called}
use Rattle.state.specs.Steps.{step_refusal, reduced, trimmed, lead_number}
use Rattle.network.specs.Calls.{Call, follow_step, full_reduction, trimmed_reduction, led_reduction, refuses, made}
use Rattle.state.proofs.Calls.{call-sound, call-taken, call-9, taken-sound}
use Rattle.state.proofs.Steps.{sound-step}

-- ---- any call

-- A head and rows that represent a network are its state.
represents-state : {M : Network} {r : Head} {after : List ℕ} → Represents M r after → state_of r after ≡ pack M
unfolding pack
represents-state R = λ z. state_of (R.head_is z) (R.rows_are z)

-- A call that is not refused is told as what it makes.
module _ (s : State) (c : Call) (taken : call_refusal s c ≡ 0) where
  pub taken-told : {told : Reduced} {steps : ℕ} {r : Head} {after : List ℕ} → told ≡ made (view s) c → Represents told.network r after → steps ≡ told.steps
      → record { number = 0; state = state_of r after; steps = steps } ≡ called s c
  taken-told m R k =
      (λ z. record { number = 0; state = represents-state R z; steps = k z })
      ∙ ap (λ (t : Reduced). record { number = 0; state = pack t.network; steps = t.steps }) m
      ∙ sym (call-taken s c taken)

  -- So is a run.
  pub ran-told : {r : Reduction} {after : List ℕ} → RanTo (made (view s) c) r after
      → record { number = 0; state = state_of r.head after; steps = r.steps } ≡ called s c
  ran-told R = taken-told refl R.becomes R.steps_are

-- A call on a state that is not sound is told as refused.
pub unsound-told : (s : State) (c : Call) → sound_state s ≡ false
    → record { number = number_of cause.Unsound; state = s; steps = 0 } ≡ called s c
unfolding refused
unsound-told s c t = sym (call-9 s c t)

-- ---- the follow step

-- A step that nothing refuses is one of a sound state, names two variables, and is legal. The code counts both from 0.
pub record StepTaken (s : State) (l f : ℕ) : Type 0 where
  pub number_0 : step_refusal s l f ≡ 0
  pub of_sound : sound_state s ≡ true
  pub leader_some : 1 ≤ l
  pub follower_some : 1 ≤ f
  pub is_legal : legal (view s) (l - 1) (f - 1) ≡ true

pub not-refused-step : {s : State} {l f : ℕ} (u : Unit {0}) → outcome_number (Ok u) ≡ step_refusal s l f → StepTaken s l f
unfolding outcome_number
not-refused-step {s} {l} {f} u q =
    let taken : step_refusal s l f ≡ 0 = sym q in
    let sound = taken-sound s (follow_step l f) taken in
    let both = (refusal-0 (view s) l f).0 (sym (sound-step s l f sound) ∙ taken) in
    record {
      number_0 = taken;
      of_sound = sound;
      leader_some = both.0;
      follower_some = both.1;
      is_legal = rw (sub-one l, sub-one f) (legal-i (view s) (pred l) (pred f) both.2);
    }

-- The step that the code makes, counted from 0, is the one that the call makes.
pub step-made : (N : Network) (l f : ℕ) → record { network = followed N (l - 1) (f - 1); steps = 1 } ≡ made N (follow_step l f)
unfolding made
step-made N l f = ap₂ (λ (x y : ℕ). record { network = followed N x y; steps = 1 }) (sub-one l) (sub-one f)

-- ---- the runs

-- The full reduction of a sound state, and the one that alternates with the trimming of live lists.
module _ (h : Head) (before : List ℕ) {r : Reduction} {after : List ℕ} (t : sound_in h before ≡ true) where
  pub reduction-told : RanTo (reduce (held h before)) r after
      → record { number = 0; state = state_of r.head after; steps = r.steps } ≡ reduced (state_of h before)
  unfolding made refuses
  reduction-told R = let s = state_of h before in ran-told s full_reduction (call-sound s full_reduction t) R

  pub alternation-told : RanTo (alternate (held h before)) r after
      → record { number = 0; state = state_of r.head after; steps = r.steps } ≡ trimmed (state_of h before)
  unfolding made refuses
  alternation-told R = let s = state_of h before in ran-told s trimmed_reduction (call-sound s trimmed_reduction t) R

-- A run of a leader that is named, which nothing refuses, is one of a sound state. The code counts the leader from 0.
pub record LeadTaken (s : State) (l : ℕ) : Type 0 where
  pub number_0 : lead_number s l ≡ 0
  pub of_sound : sound_state s ≡ true
  pub leader_some : 1 ≤ l

pub not-refused-lead : {s : State} {l : ℕ} (u : Unit {0}) → outcome_number (Ok u) ≡ lead_number s l → LeadTaken s l
unfolding outcome_number refuses
not-refused-lead {s} {l} u q =
    let taken : lead_number s l ≡ 0 = sym q in
    let sound = taken-sound s (led_reduction l) taken in
    record {
      number_0 = taken;
      of_sound = sound;
      leader_some = ((lead-refuses (view s) l).number_0.0 (sym (call-sound s (led_reduction l) sound) ∙ taken)).0.from_1;
    }

pub lead-made : (N : Network) (l : ℕ) → lead N (l - 1) ≡ made N (led_reduction l)
unfolding made
lead-made N l = ap (lead N) (sub-one l)
