-- The domains that soundness leaves free, of states: short where nobody follows, and empty.
use mathlib.Core.Bool.{Bool, true}
use mathlib.Core.Path.{◌≡◌}
use Prim.Native.Nat.{ℕ, zero, suc, ◌≤◌}
use native.Mathlib.Omega.{arith}
use Rattle.network.specs.Network.{free}
use Rattle.network.specs.Step.{relisted, followers_trimmed}
use Rattle.network.specs.Sheet.{network_of}
use Rattle.network.specs.Lists.{narrowed, empty_list_network, short_list_network}
use Rattle.network.proofs.Lists.{lists-free}
use Rattle.head.specs.Held.{values_at_most, held}
use Rattle.head.proofs.Held.{Packed, held-n, held-size, pack-sound}
use Rattle.state.specs.declared.state.State.{State}
use Rattle.state.specs.View.{Shaped, view, sound_state}
use Rattle.state.proofs.View.{state-sound}

-- "An empty list is allowed in a sound state": the state of a network in which a free variable lost any values, and its followers theirs, is sound.
pub narrowed-packed : (s : State) → Shaped s → sound_state s ≡ true → (i : ℕ) → free (view s) i ≡ true → (p : ℕ → Bool)
    → Packed (followers_trimmed (narrowed (view s) i p))
unfolding narrowed followers_trimmed relisted held
narrowed-packed s h t i f p =
    pack-sound _ (lists-free.any_part (view s) (state-sound s h t) i f p) (held-n _ s.rows t) (held-size _ _ h.head_shaped t)

pub empty-packed : Packed empty_list_network
unfolding empty_list_network narrowed relisted network_of
empty-packed = pack-sound empty_list_network lists-free.empty_sound (omega arith) small
  where
    small : (i : ℕ) → empty_list_network.size i ≤ values_at_most
    small zero = omega arith
    small (suc i) = omega arith

pub short-packed : Packed short_list_network
unfolding short_list_network narrowed relisted network_of
short-packed = pack-sound short_list_network lists-free.short_sound (omega arith) small
  where
    small : (i : ℕ) → short_list_network.size i ≤ values_at_most
    small zero = omega arith
    small (suc zero) = omega arith
    small (suc (suc i)) = omega arith
