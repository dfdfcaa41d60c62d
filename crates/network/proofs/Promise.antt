-- Demand 3 over the definitions.
use mathlib.Core.Bool.{Bool, true}
use mathlib.Core.List.{List}
use mathlib.Core.Path.{sym, ◌∙◌, subst}
use Prim.Native.Nat.{ℕ, ◌<◌}
use Rattle.network.specs.Network.{Network}
use Rattle.network.specs.Sound.{Sound}
use Rattle.network.specs.Completion.{completed, shown}
use Rattle.network.specs.Calls.{Call, after, added_by, keeps_to}
use Rattle.network.specs.Promise.{Keeps, Promised, OneLive}
use Rattle.network.proofs.Completion.{completed-keeps, accepted, completed-solves, completed-only, exhausted-none, verdict-none, one-live-decided, decided-none, decided-built}
use Rattle.network.proofs.Count.{keeps-count}
use Rattle.network.proofs.Calls.{after-keeps}

-- What stands for N with p added keeps every part of the promise: whatever a call to come may add, it need show `Keeps` alone.
pub keeps-promise : (N M : Network) (p : (ℕ → ℕ) → Bool) → Keeps N M p → Promised N M p
keeps-promise N M p k =
    record {
      tester = k.same_solutions;
      accepts = accepted M;
      keeps = completed-keeps M;
      completes = λ f a. sym (k.same_solutions (completed M f)) ∙ completed-solves M k.still_sound f a;
      only =
          λ f g a h e i l.
          completed-only M k.still_sound f g (k.same_solutions g ∙ h)
          (λ x m t. e x (subst (λ (n : ℕ). x < n) k.same_n m) t)
          i (subst (λ (n : ℕ). i < n) (sym k.same_n) l);
      counted = keeps-count N M p k;
      none_only = λ v f. sym (k.same_solutions f) ∙ exhausted-none M k.still_sound (verdict-none M v) f;
      none_when = λ d h. decided-none M k.still_sound d (λ f. k.same_solutions f ∙ h f);
      built =
          λ d v.
          let b = decided-built M k.still_sound d v in
          (b.0, sym (k.same_solutions (shown M)) ∙ b.1);
    }

-- For every sound network and every list of calls, with the tables that they added.
pub promise : (N : Network) → Sound N → (cs : List Call) → Promised N (after N cs) (keeps_to (added_by N cs))
promise N s cs = keeps-promise N (after N cs) _ (after-keeps N s cs)

-- and with one live option, as document 01 has it.
pub one_live : (N : Network) → Sound N → (cs : List Call) → OneLive N (after N cs) (keeps_to (added_by N cs))
one_live N s cs =
    let P = promise N s cs in
    let decides = one-live-decided (after N cs) (after-keeps N s cs).still_sound in
    record { none_exactly = λ e. (P.none_only, P.none_when (decides e)); built_otherwise = λ e. P.built (decides e) }
