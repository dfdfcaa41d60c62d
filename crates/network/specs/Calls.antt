-- "A list of calls holds follow steps, each with any two option numbers, and full reductions, in any order", and tables that are added: "From then on such
-- calls belong to demand 3's list too, refused ones included" (document 02), and reductions that trim: "such runs belong to demand 3's list too,
-- refused ones included". Of a leader that is named document 02 says no such thing; it is in the list all the same, refused or not.
use Rattle.std.specs.Prelude.{Bool, true, false, List, [], ◌∷◌, ◌++◌, ℕ, pred, eqb, length}
use Rattle.bounded.specs.Bool.{and, if}
use Rattle.network.specs.Network.{Network}
use Rattle.network.specs.Step.{refusal, followed}
use Rattle.network.specs.Reduction.{Reduced, reduce, lead, lead_refusal}
use Rattle.network.specs.Trimming.{alternate}
use Rattle.network.specs.Sheet.{Table}
use Rattle.network.specs.Added.{meets_table, add_refusal, added}

pub data Call : Type 0 where
  follow_step : ℕ → ℕ → Call  -- leader and follower, variables counted from 1
  full_reduction : Call
  trimmed_reduction : Call  -- trimming and reducing in turn
  led_reduction : ℕ → Call  -- the leader that is named, counted from 1: only it takes followers
  add_table : ℕ → ℕ → List ℕ → Call  -- the first and the second variable named, counted from 1, and a row for each value of the first

-- The number that refuses a call, or 0. (9 goes by the state.)
unfoldable pub refuses : Network → Call → ℕ
refuses N (follow_step l f) = refusal N l f
refuses N full_reduction = 0
refuses N trimmed_reduction = 0
refuses N (led_reduction l) = lead_refusal N l
refuses N (add_table x y rows) = add_refusal N x y rows

-- What a call that is not refused makes, and the number of its steps.
unfoldable pub made : Network → Call → Reduced
made N (follow_step l f) = record { network = followed N (pred l) (pred f); steps = 1 }
made N full_reduction = reduce N
made N trimmed_reduction = alternate N
made N (led_reduction l) = lead N (pred l)
made N (add_table x y rows) = record { network = added N (pred x) (pred y) rows; steps = 0 }

-- What a call hands back: "a refused call hands back what it was given".
unfoldable pub answer : Network → Call → Network
answer N c = if (eqb (refuses N c) 0) (made N c).network N

-- "Each call gets the state that the one before it handed back."
unfoldable pub after : Network → List Call → Network
after N [] = N
after N (c ∷ cs) = after (answer N c) cs

-- The table that a call is to add, if any,
unfoldable pub tables_of : Call → List Table
tables_of (follow_step l f) = []
tables_of full_reduction = []
tables_of trimmed_reduction = []
tables_of (led_reduction l) = []
tables_of (add_table x y rows) = record { first = x; second = y; rows = rows } ∷ []

-- and adds where it is not refused.
unfoldable pub adds : Network → Call → List Table
adds N c = if (eqb (refuses N c) 0) (tables_of c) []

-- "the tables that calls not refused added"
unfoldable pub added_by : Network → List Call → List Table
added_by N [] = []
added_by N (c ∷ cs) = adds N c ++ added_by (answer N c) cs

-- f keeps to each of the tables.
unfoldable pub keeps_to : List Table → (ℕ → ℕ) → Bool
keeps_to [] f = true
keeps_to (t ∷ ts) f = and (meets_table (pred t.first) (pred t.second) t.rows f) (keeps_to ts f)

-- No table is to be added: follow steps and reductions alone, document 01's lists of calls among them.
unfoldable pub tableless : List Call → Bool
tableless [] = true
tableless (c ∷ cs) = and (eqb (length (tables_of c)) 0) (tableless cs)
