-- A table added to a state (document 02, L3). Variables are counted from 1.
use Rattle.std.specs.Prelude.{List, ◌≡◌, ℕ, pred}
use Rattle.bounded.specs.Bool.{and}
use Rattle.network.specs.Network.{solves}
use Rattle.network.specs.Added.{meets_table, Adds}
use Rattle.network.specs.Calls.{add_table}
use Rattle.state.specs.declared.state.State.{State}
use Rattle.state.specs.View.{Shaped, view}
use Rattle.state.specs.Answers.{Told}
use Rattle.state.specs.Calls.{call_refusal, called}

-- "It refuses with 9, then 10, then 21 for two equal options, then 22 for a wrong count of rows or a bit at or above the size."
abbrev pub table_refusal : State → ℕ → ℕ → List ℕ → ℕ
table_refusal s first second rows = call_refusal s (add_table first second rows)

-- "Each of these hands back the state given." No step is made: the count is 0.
abbrev pub table_added : State → ℕ → ℕ → List ℕ → Told
table_added s first second rows = called s (add_table first second rows)

-- The request's sentences, of what the call answers.
pub record AddedByRules (s : State) (first second : ℕ) (rows : List ℕ) : Type 0 where
  -- A table that is not refused: sentence by sentence in `Adds`, from the network of the state given to that of the state handed back.
  pub taken : (table_added s first second rows).number ≡ 0
      → (p : ℕ) × (q : ℕ) × Adds (view s) (pred first) (pred second) rows p q (view (table_added s first second rows).state)
  -- "builds are counted against the accepted sheet together with the tables that calls not refused added": of the solutions those stay that keep to the table.
  pub solutions : (table_added s first second rows).number ≡ 0
      → (f : ℕ → ℕ) → solves (view (table_added s first second rows).state) f ≡ and (solves (view s) f) (meets_table (pred first) (pred second) rows f)
  -- "Each of these hands back the state given."
  pub handed_back : ((table_added s first second rows).number ≡ 0 → ⊥) → (table_added s first second rows).state ≡ s

-- Of every state, sound or not, any two numbers of variables, and any rows.
unfoldable pub TablesByRules : Type 0
TablesByRules = (s : State) → Shaped s → (first second : ℕ) (rows : List ℕ) → AddedByRules s first second rows
