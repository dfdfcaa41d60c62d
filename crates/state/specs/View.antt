-- States and networks.
use Rattle.std.specs.Prelude.{Bool, List, ℕ}
use Rattle.words.specs.Word.{width}
use Rattle.network.specs.Network.{Network}
use Rattle.pairs.specs.Pairs.{rows_of}
use Rattle.head.specs.declared.Head.{Head}
use Rattle.head.specs.Held.{HeadShaped, RowsShaped, held, head_of, zero_head, zero_rows, sound_in}
use Rattle.state.specs.declared.state.State.{State}

-- The head of a state,
abbrev pub head_in : State → Head
head_in s = record { n = s.n; sizes = s.sizes; domains = s.domains; leaders = s.leaders; stated = s.stated }

-- and the state of a head and rows.
abbrev pub state_of : Head → List ℕ → State
state_of h rows = record { n = h.n; sizes = h.sizes; domains = h.domains; leaders = h.leaders; stated = h.stated; rows = rows }

-- What the types of the fields say of every state.
pub record Shaped (s : State) : Type 0 where
  pub head_shaped : HeadShaped (head_in s)
  pub rows_shaped : RowsShaped s.rows

-- The network that a state holds.
abbrev pub view : State → Network
view s = held (head_in s) s.rows

-- The state that holds a network, where the network is within the bounds of the arrays.
unfoldable pub pack : Network → State
pack N = state_of (head_of N) (rows_of width N.allows)

-- "The zero state is zero throughout, n included."
unfoldable pub state_of_zeros : State
state_of_zeros = state_of zero_head zero_rows

-- "A state is sound when" its network is.
abbrev pub sound_state : State → Bool
sound_state s = sound_in (head_in s) s.rows
