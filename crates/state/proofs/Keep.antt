-- What calls hand back fits a state again: the network after any list of calls is held by its state, which is sound.
use mathlib.Core.Bool.{true}
use mathlib.Core.List.{List}
use mathlib.Core.Path.{◌≡◌}
use Rattle.network.specs.Calls.{Call, after}
use Rattle.network.proofs.Calls.{after-keeps}
use Rattle.head.proofs.Held.{Packed, kept-packed}
use Rattle.state.specs.View.{Shaped, view, sound_state}
use Rattle.state.specs.declared.state.State.{State}
use Rattle.state.proofs.View.{state-sound}

module _ (s : State) (h : Shaped s) (t : sound_state s ≡ true) where
  -- Any list of calls.
  pub after-packed : (cs : List Call) → Packed (after (view s) cs)
  after-packed cs = kept-packed _ h.head_shaped t (after (view s) cs) (after-keeps (view s) (state-sound s h t) cs)
