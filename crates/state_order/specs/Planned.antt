-- What the two calls answer, in the sentences of document 02, L13. Together with their contracts, which cite the same `order_told`, `find_number` and
-- `order_buffer`, it speaks of the code. Options count from 1. Neither call hands a state back, so neither changes one.
use Rattle.std.specs.Prelude.{true, false, List, ◌↔◌, ◌≡◌, ℕ, pred, ◌≤◌, ◌<◌, length, get_or}
use Rattle.network.specs.Added.{Numbered}
use Rattle.network.specs.Reach.{Way, leads_to, reach}
use Rattle.network.specs.Order.{before, permitted, order_of, Assembled}
use Rattle.answers.specs.Answers.{says, refuses}
use Rattle.state.specs.declared.state.State.{State}
use Rattle.state.specs.View.{Shaped, view, sound_state}
use Rattle.state_order.specs.Orders.{order_told, find_number, order_buffer}

-- The option i has "a path .. through tables functional along the way" to the option j.
abbrev pub Leads : State → ℕ → ℕ → Type 0
Leads s i j = Way (leads_to (view s)) (pred i) (pred j)

-- "each option exactly once and nothing else"
pub record EachOption (s : State) (order : List ℕ) : Type 0 where
  pub as_many : length order ≡ s.n
  pub nothing_else : (p : ℕ) → p < s.n → Numbered (view s) (get_or order p 0)
  pub each : (x : ℕ) → Numbered (view s) x → (p : ℕ) × (p < s.n) × (get_or order p 0 ≡ x)
  pub once : (p q : ℕ) → p < s.n → q < s.n → get_or order p 0 ≡ get_or order q 0 → p ≡ q

-- "An order is good when, for an earlier option i and a later option j, a path from j to i through tables functional along the way implies such a path from
-- i to j."
unfoldable pub Good : State → List ℕ → Type 0
Good s order = (p q : ℕ) → p < q → q < s.n → Leads s (get_or order q 0) (get_or order p 0) → Leads s (get_or order p 0) (get_or order q 0)

-- "none precedes one that governs it": one that has a path to it, and it has none back.
unfoldable pub NoneGoverned : State → List ℕ → Type 0
NoneGoverned s order =
    (p q : ℕ) → p < q → q < s.n → Leads s (get_or order q 0) (get_or order p 0) → (Leads s (get_or order p 0) (get_or order q 0) → ⊥) → ⊥

-- The test of an order.
pub record TestsOrder (s : State) (order : List ℕ) : Type 0 where
  -- "It refuses with 9, then in testing 30 when the order does not hold each option exactly once and nothing else", each exactly when.
  pub nine : (order_told s order ≡ refuses 9) ↔ (sound_state s ≡ false)
  pub thirty : (order_told s order ≡ refuses 30) ↔ ((sound_state s ≡ true) × (EachOption s order → ⊥))
  -- Else it says whether the order is good.
  pub yes_exactly : (order_told s order ≡ says true) ↔ ((sound_state s ≡ true) × EachOption s order × Good s order)
  pub no_exactly : (order_told s order ≡ says false) ↔ ((sound_state s ≡ true) × EachOption s order × (Good s order → ⊥))
  -- "Buyers want a list of options in which none precedes one that governs it."
  pub none_governed : (order_told s order ≡ says true) ↔ ((sound_state s ≡ true) × EachOption s order × NoneGoverned s order)
  -- "Every order that source document 000 builds from strongly connected parts is good"
  pub built_good : sound_state s ≡ true → EachOption s order → (part : ℕ → ℕ) → Assembled s.n (leads_to (view s)) (order_of order) part
      → order_told s order ≡ says true

-- Some good order has i at the place p, after what `placed` has before it.
pub record GoesOn (s : State) (placed : List ℕ) (p i : ℕ) : Type 0 where
  pub order : List ℕ
  pub is_good : order_told s order ≡ says true
  pub as_placed : (q : ℕ) → q < p → get_or order q 0 ≡ get_or placed q 0
  pub has_next : get_or order p 0 ≡ i

-- The search for an order. `order` is what is in the buffer then.
pub record FindsOrder (s : State) (buffer : List ℕ) : Type 0 where
  -- "It refuses with 9, then .. in finding 14 for a buffer not of n bytes", each exactly when.
  pub nine : (find_number s buffer ≡ 9) ↔ (sound_state s ≡ false)
  pub fourteen : (find_number s buffer ≡ 14) ↔ ((sound_state s ≡ true) × (length buffer ≡ s.n → ⊥))
  pub taken : (find_number s buffer ≡ 0) ↔ ((sound_state s ≡ true) × (length buffer ≡ s.n))
  -- A refusal changes no byte.
  pub refused_left : (find_number s buffer ≡ 0 → ⊥) → order_buffer s buffer ≡ buffer
  -- What is found, tested, is yes,
  pub found_good : find_number s buffer ≡ 0 → order_told s (order_buffer s buffer) ≡ says true
  -- and has "the smallest permitted number at each place": one that some good order has there after what was placed.
  pub permitted_there : find_number s buffer ≡ 0 → (p : ℕ) → p < s.n → GoesOn s (order_buffer s buffer) p (get_or (order_buffer s buffer) p 0)
  pub smallest_there : find_number s buffer ≡ 0 → (p i : ℕ) → p < s.n → GoesOn s (order_buffer s buffer) p i → get_or (order_buffer s buffer) p 0 ≤ i

-- The state with other leaders.
abbrev pub led_by : State → List ℕ → State
led_by s leaders = record { n = s.n; sizes = s.sizes; domains = s.domains; leaders = leaders; stated = s.stated; rows = s.rows }

-- What is said of any state.
pub record Plans (s : State) : Type 0 where
  pub tests : (order : List ℕ) → TestsOrder s order
  pub finds : (buffer : List ℕ) → FindsOrder s buffer
  -- So what is found is the first of all good orders, number by number.
  pub found_first : (buffer order : List ℕ) → find_number s buffer ≡ 0 → order_told s order ≡ says true
      → (p : ℕ) → p < s.n → ((q : ℕ) → q < p → get_or order q 0 ≡ get_or (order_buffer s buffer) q 0)
      → get_or (order_buffer s buffer) p 0 ≤ get_or order p 0
  -- What the definition calls permitted is it: after the first p places of a good order, i may come next exactly when some good order goes on with i.
  pub permitted_exactly : (placed : List ℕ) → order_told s placed ≡ says true → (p i : ℕ) → p < s.n
      → (Numbered (view s) i × (permitted s.n (reach (view s)) (before (order_of placed) p) (pred i) ≡ true)) ↔ GoesOn s placed p i
  -- There is an order that source document 000 builds.
  pub built_some : sound_state s ≡ true
      → (order : List ℕ) × (part : ℕ → ℕ) × EachOption s order × Assembled s.n (leads_to (view s)) (order_of order) part
  -- "The stated tables and lists of the given state count, followers included": who leads whom plays no part.
  pub leaders_no_part : (leaders : List ℕ) → sound_state s ≡ true → sound_state (led_by s leaders) ≡ true → (order : List ℕ)
      → (order_told (led_by s leaders) order ≡ order_told s order) × (order_buffer (led_by s leaders) order ≡ order_buffer s order)

-- Of every state, sound or not.
unfoldable pub PlansEvery : Type 0
PlansEvery = (s : State) → Shaped s → Plans s
