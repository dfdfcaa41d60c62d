-- What the test of an order and the search for one answer of a state (document 02, L13). An order is a list of bytes, options counted from 1.
use Rattle.std.specs.Prelude.{List, ℕ, eqb, length}
use Rattle.bounded.specs.Bool.{not, if}
use Rattle.network.specs.Order.{order_refusal, find_refusal, test_order, find_order}
use Rattle.answers.specs.Answers.{TestTold, says, refuses}
use Rattle.state.specs.declared.state.State.{State}
use Rattle.state.specs.View.{view, sound_state}

-- "It refuses with 9, then in testing 30 when the order does not hold each option exactly once and nothing else", else 0.
unfoldable pub order_number : State → List ℕ → ℕ
order_number s order = if (not (sound_state s)) 9 (order_refusal (view s) order)

-- "One call tests a given order": refused, or whether it is good. "The stated tables and lists of the given state count, followers included."
unfoldable pub order_told : State → List ℕ → TestTold
order_told s order = if (eqb (order_number s order) 0) (says (test_order (view s) order)) (refuses (order_number s order))

-- "It refuses with 9, then .. in finding 14 for a buffer not of n bytes", else 0.
unfoldable pub find_number : State → List ℕ → ℕ
find_number s buffer = if (not (sound_state s)) 9 (find_refusal (view s) (length buffer))

-- "and another produces one, the smallest permitted number at each place": the buffer at exit. A refusal changes no byte.
unfoldable pub order_buffer : State → List ℕ → List ℕ
order_buffer s buffer = if (eqb (find_number s buffer) 0) (find_order (view s)) buffer
