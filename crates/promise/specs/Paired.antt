-- What the reading call for the paired profile promises of the sheets that it accepts (document 02, L14).
use Rattle.std.specs.Prelude.{true, List, ◌≡◌, ℕ}
use Rattle.network.specs.Completion.{decided}
use Rattle.network.specs.Calls.{Call, tableless}
use Rattle.format.specs.Parse.{Octets}
use Rattle.state.specs.declared.state.State.{State}
use Rattle.state.specs.View.{view}
use Rattle.state.specs.Read.{read_paired}
use Rattle.state.specs.Steps.{reduced}
use Rattle.promise.specs.Promise.{state_after, last_state, Promise}
use Rattle.promise.specs.Settled.{Settles}

-- The state handed back last, where this call read the sheet,
unfoldable pub paired_last : List ℕ → List Call → State
paired_last bytes cs = state_after (read_paired bytes).state cs

-- and by a full reduction after it.
unfoldable pub paired_reduced : List ℕ → List Call → State
paired_reduced bytes cs = (reduced (paired_last bytes cs)).state

-- Demand 3 holds from this call: the states are those that it speaks of.
unfoldable pub Demand3Paired : Type 0
Demand3Paired =
    (bytes : List ℕ) → Octets bytes → (read_paired bytes).number ≡ 0 → (cs : List Call) → (paired_last bytes cs ≡ last_state bytes cs) × Promise bytes cs

-- "A sheet of this profile is never OPEN after reduction under the rule for unrelated groups, and NONE is said exactly when no build exists": no two live
-- options are stated together then. So too after any list of calls that adds no table, follow steps and any reductions, refused ones included.
unfoldable pub PairedSettles : Type 0
PairedSettles =
    (bytes : List ℕ) → Octets bytes → (read_paired bytes).number ≡ 0 → (cs : List Call) → tableless cs ≡ true
    → (decided (view (paired_reduced bytes cs)) ≡ true) × Settles bytes (paired_reduced bytes cs)
