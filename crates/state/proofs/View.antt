-- A state is its head and its rows: what is known of those is known of it.
use mathlib.Core.Bool.{true, false}
use mathlib.Core.Path.{◌≡◌, refl}
use Prim.Native.Nat.{ℕ, ◌≤◌}
use Rattle.words.specs.Word.{width}
use Rattle.network.specs.Network.{Network}
use Rattle.network.specs.Sound.{Sound, Bounded}
use Rattle.pairs.specs.Pairs.{variables}
use Rattle.head.specs.declared.Head.{Head}
use Rattle.head.specs.Held.{values_at_most, held, zero_head}
use Rattle.head.proofs.Held.{Packed, held-of-sound, head-of-held, rows-of-held, held-sound, sound-held, empty-unsound}
use Rattle.state.specs.declared.state.State.{State}
use Rattle.state.specs.View.{head_in, state_of, view, pack, state_of_zeros, sound_state}
pub use Rattle.state.specs.View.{Shaped}

-- A state that was taken apart, put together again.
pub state-whole : (s : State) (h : Head) → h ≡ head_in s → state_of h s.rows ≡ s
state-whole s h e = λ i. state_of (e i) s.rows

-- A sound network within the bounds is that of its state.
pub view-pack : (N : Network) → Sound N → Bounded variables width N → view (pack N) ≡ N
unfolding pack
view-pack N S B = held-of-sound N S B

-- And a state is that of its network, sound or not.
pub pack-view : (s : State) → Shaped s → pack (view s) ≡ s
unfolding pack
pack-view s h = λ i. state_of (head-of-held (head_in s) s.rows h.head_shaped i) (rows-of-held (head_in s) s.rows h.rows_shaped i)

-- A state is sound exactly when its network is, within these numbers.
pub state-sound : (s : State) → Shaped s → sound_state s ≡ true → Sound (view s)
state-sound s h t = held-sound _ _ h.head_shaped t

pub sound-state : (s : State) → Sound (view s) → (view s).n ≤ variables → ((i : ℕ) → (view s).size i ≤ values_at_most) → sound_state s ≡ true
unfolding held
sound-state s S below within = sound-held _ _ S below within

-- The state of a network that the arrays can hold.
module _ {N : Network} (P : Packed N) where
  pub packed-view : view (pack N) ≡ N
  unfolding pack
  packed-view = P.packed_held

  pub packed-state : sound_state (pack N) ≡ true
  unfolding pack
  packed-state = P.packed_sound

  pub packed-shaped : Shaped (pack N)
  unfolding pack
  packed-shaped = record { head_shaped = P.packed_head; rows_shaped = P.packed_rows }

-- The zero state has no variable.
pub zero-unsound : sound_state state_of_zeros ≡ false
unfolding state_of_zeros
zero-unsound = empty-unsound _ _ (unfold zero_head in refl)
