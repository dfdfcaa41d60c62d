-- The follow step and the full reduction on states: what the laws of every call (`Calls`) say of them.
use mathlib.Core.Bool.{true, false}
use mathlib.Core.Logic.{inl, inr, ⊎_elim}
use mathlib.Core.Path.{◌≡◌, refl, sym, ap, ◌∙◌}
use Prim.Native.Nat.{ℕ, suc, pred, ◌+◌, ◌≤◌}
use native.Mathlib.Omega.{arith}
use lib.Dec.{eqb}
use borrow.Author.Tests.{ne_eqb}
use Rattle.bounded.specs.Bool.{and, not, if}
use Rattle.bounded.specs.Fold.{count}
use Rattle.bounded.proofs.Bool.{if-false}
use Rattle.cause.proofs.Laws.{number-positive}
use Rattle.cause.specs.Number.{number_of}
use Rattle.cause.specs.declared.Cause.{Cause}
use Rattle.network.specs.Network.{Network, free}
use Rattle.network.specs.Step.{refusal, followed}
use Rattle.network.specs.Reduction.{free_count, reducible, reduce, lead, lead_refusal}
use Rattle.network.specs.Calls.{follow_step, full_reduction, trimmed_reduction, led_reduction, refuses, made, tables_of}
use Rattle.network.specs.Trimming.{alternate}
use Rattle.network.proofs.Trimming.{alternate-at-rest, alternate-taken, alternate-most}
use Rattle.network.proofs.Sound.{free-e}
use Rattle.network.proofs.Lead.{lead-taken, lead-most, lead-stops, lead-only, lead-free, lead-refuses}
use Rattle.network.proofs.Reduction.{reduce-count, reduce-taken, reduce-most, reduce-stops}
use Rattle.std.specs.Prelude.{Err}
use Rattle.answers.specs.Answers.{outcome_number}
use Rattle.state.specs.declared.state.State.{State}
use Rattle.state.specs.View.{view, pack, sound_state}
use Rattle.state.specs.Answers.{Told}
use Rattle.state.specs.Calls.{refused}
use Rattle.state.specs.Steps.{step_refusal, stepped, reduced_as, reduced, trimmed, led}
use Rattle.state.specs.Rested.{Rested}
use Rattle.state.specs.Led.{Led}
use Rattle.head.specs.Held.{held}
use Rattle.state.proofs.View.{Shaped, state-sound}
use Rattle.state.proofs.Calls.{StateKept, call-sound, call-number, call-taken, taken-sound, made-view, made-steps, call-keeps-all}

-- The follow step.
module _ (s : State) (l f : ℕ) where
  pub sound-step : sound_state s ≡ true → step_refusal s l f ≡ refusal (view s) l f
  unfolding refuses
  sound-step t = call-sound s (follow_step l f) t

  pub stepped-taken : step_refusal s l f ≡ 0 → stepped s l f ≡ record { number = 0; state = pack (followed (view s) (pred l) (pred f)); steps = 1 }
  unfolding made
  stepped-taken e = call-taken s (follow_step l f) e

-- A refusal that the code answers hands back the state given, whatever would have been done.
pub refusal-told : {s : State} {number : ℕ} (done : Told) (c : Cause) → outcome_number (Err c) ≡ number
    → ◌≡◌ {A = Told} (record { number = number_of c; state = s; steps = 0 }) (if (eqb number 0) done (refused number s))
unfolding outcome_number refused
refusal-told {s} {number} done c q =
    ap (λ (k : ℕ). refused k s) q ∙ sym (if-false _ _ _ (ne_eqb number 0 (omega (arith, q, number-positive c))))

-- The full reduction, case by case.
module _ (s : State) where
  pub reduced-done : sound_state s ≡ true → reduced s ≡ reduced_as (reduce (view s))
  unfolding reduced_as refuses made
  reduced-done t = call-taken s full_reduction (call-sound s full_reduction t)

-- A step and a reduction keep every solution.
pub step_keeps : (s : State) → Shaped s → (l f : ℕ) → StateKept s (stepped s l f).state (λ (g : ℕ → ℕ). true)
unfolding tables_of
step_keeps s h l f = call-keeps-all s h (follow_step l f) refl

pub reduced-keeps : (s : State) → Shaped s → StateKept s (reduced s).state (λ (g : ℕ → ℕ). true)
unfolding tables_of
reduced-keeps s h = call-keeps-all s h full_reduction refl

-- The full reduction of a sound state.
module _ (s : State) (h : Shaped s) (t : sound_state s ≡ true) where
  reduced-view : view (reduced s).state ≡ (reduce (view s)).network
  unfolding refuses made
  reduced-view = made-view s h t full_reduction refl

  reduced-steps : (reduced s).steps ≡ (reduce (view s)).steps
  unfolding refuses made
  reduced-steps = made-steps s h t full_reduction refl

  -- "repeats until no step is legal"
  pub reduced-stops : reducible (view (reduced s).state) ≡ false
  reduced-stops = rw reduced-view (reduce-stops (view s) (state-sound s h t))

  -- Each step takes one free variable.
  pub reduced-count : free_count (view (reduced s).state) + (reduced s).steps ≡ free_count (view s)
  reduced-count = rw (reduced-view, reduced-steps) (reduce-count (view s) (state-sound s h t))

  -- "the number of steps, which equals the number of options that were live before and are not now"
  pub reduced-taken : count s.n (λ (x : ℕ). and (free (view s) x) (not (free (view (reduced s).state) x))) ≡ (reduced s).steps
  unfolding held
  reduced-taken =
      ap (λ (N : Network). count s.n (λ (x : ℕ). and (free (view s) x) (not (free N x)))) reduced-view
      ∙ reduce-taken (view s) (state-sound s h t) ∙ sym reduced-steps

  -- "and is at most n - 1"
  pub reduced-most : suc (reduced s).steps ≤ s.n
  unfolding held
  reduced-most = rw reduced-steps (reduce-most (view s) (state-sound s h t))

-- The reduction that alternates with the trimming of live lists, of a sound state.
module _ (s : State) (h : Shaped s) (t : sound_state s ≡ true) where
  trimmed-view : view (trimmed s).state ≡ (alternate (view s)).network
  unfolding refuses made
  trimmed-view = made-view s h t trimmed_reduction refl

  trimmed-steps : (trimmed s).steps ≡ (alternate (view s)).steps
  unfolding refuses made
  trimmed-steps = made-steps s h t trimmed_reduction refl

  pub rested : Rested s
  unfolding held
  rested =
      record {
        at_rest = rw trimmed-view (alternate-at-rest (view s) (state-sound s h t));
        steps_taken =
            ap (λ (N : Network). count s.n (λ (x : ℕ). and (free (view s) x) (not (free N x)))) trimmed-view
            ∙ alternate-taken (view s) (state-sound s h t) ∙ sym trimmed-steps;
        steps_most = rw trimmed-steps (alternate-most (view s) (state-sound s h t));
      }

-- A leader that is named, in the words of `network` `LeadRefuses`: the numbers after 9,
pub led-number : (s : State) (l : ℕ) → sound_state s ≡ true → (led s l).number ≡ lead_refusal (view s) l
unfolding refuses
led-number s l t = call-number s (led_reduction l) ∙ call-sound s (led_reduction l) t

-- and what it answers where none refuses it.
module _ (s : State) (h : Shaped s) (l : ℕ) (e : (led s l).number ≡ 0) where
  led-sound : sound_state s ≡ true
  led-sound = taken-sound s (led_reduction l) (sym (call-number s (led_reduction l)) ∙ e)

  named : lead_refusal (view s) l ≡ 0
  named = sym (led-number s l led-sound) ∙ e

  led-view : view (led s l).state ≡ (lead (view s) (pred l)).network
  unfolding refuses made
  led-view = made-view s h led-sound (led_reduction l) named

  led-steps : (led s l).steps ≡ (lead (view s) (pred l)).steps
  unfolding refuses made
  led-steps = made-steps s h led-sound (led_reduction l) named

  pub leads-alone : Led s l
  unfolding held
  leads-alone =
      let S = state-sound s h led-sound in
      let (inside, live) = (lead-refuses (view s) l).number_0.0 named in
      let counted : suc (pred l) ≡ l = omega (arith, inside.from_1) in
      record {
        only_it = λ x. ⊎_elim
            (λ same. inl (ap (λ (N : Network). N.leader x) led-view ∙ same))
            (λ new. inr (ap (λ (N : Network). N.leader x) led-view ∙ new ∙ counted))
            (lead-only (view s) (pred l) x);
        stays_live = ap (λ (N : Network). N.leader (pred l)) led-view ∙ free-e _ _ (lead-free (view s) (pred l) live);
        none_can_follow = rw led-view (lead-stops (view s) S (pred l));
        steps_taken =
            ap (λ (N : Network). count s.n (λ (x : ℕ). and (free (view s) x) (not (free N x)))) led-view
            ∙ lead-taken (view s) S (pred l) ∙ sym led-steps;
        steps_most = rw led-steps (lead-most (view s) S (pred l));
      }
