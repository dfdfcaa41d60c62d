-- One sheet, and two orders of steps on it: "Different step orders may leave different live options, and one may reach OPEN where another does not; the builds
-- agree."
use Rattle.std.specs.Prelude.{true, List, [], ◌∷◌, ◌↔◌, ◌≡◌, ℕ, replicate}
use Rattle.network.specs.Completion.{BUILT, OPEN}
use Rattle.network.specs.Calls.{Call, follow_step, full_reduction, tableless}
use Rattle.format.specs.Parse.{Octets}
use Rattle.answers.specs.Answers.{says, rules}
use Rattle.state.specs.Read.{read_sheet}
use Rattle.state.specs.Solutions.{tested, verdict_of}
use Rattle.promise.specs.Promise.{last_state, build_count}

-- `01 00 18 04 02 02 02 03 03 01 02 00 02 00 02 02 04 00 00 00 05 03 04 00 03 00 02`: sizes 2, 2, 2 and 3, and the tables (1,2) 0002 0002, (2,4) 0000 0005
-- and (3,4) 0003 0002.
unfoldable pub bytes_orders : List ℕ
bytes_orders =
    1 ∷ 0 ∷ 24 ∷ 4 ∷ 2 ∷ 2 ∷ 2 ∷ 3 ∷ 3
    ∷ 1 ∷ 2 ∷ 0 ∷ 2 ∷ 0 ∷ 2
    ∷ 2 ∷ 4 ∷ 0 ∷ 0 ∷ 0 ∷ 5
    ∷ 3 ∷ 4 ∷ 0 ∷ 3 ∷ 0 ∷ 2 ∷ []

-- The order of the full reduction,
unfoldable pub reducing : List Call
reducing = full_reduction ∷ []

-- and another: 2 and 3 follow 4, and 4 follows 1.
unfoldable pub stepping : List Call
stepping = follow_step 4 2 ∷ follow_step 4 3 ∷ follow_step 1 4 ∷ []

pub record OrdersDiffer : Type 0 where
  pub accepted : (read_sheet bytes_orders).number ≡ 0
  -- "Different step orders may leave different live options": 1, 3 and 4, or 1 alone,
  pub three_live : (last_state bytes_orders reducing).leaders ≡ 0 ∷ 1 ∷ 0 ∷ 0 ∷ replicate 12 0
  pub one_live : (last_state bytes_orders stepping).leaders ≡ 0 ∷ 1 ∷ 1 ∷ 1 ∷ replicate 12 0
  -- "and one may reach OPEN where another does not", though the sheet has builds.
  pub reaches_open : verdict_of (last_state bytes_orders reducing) ≡ rules OPEN (replicate 16 0)
  pub reaches_built : verdict_of (last_state bytes_orders stepping) ≡ rules BUILT (0 ∷ 1 ∷ 0 ∷ 0 ∷ replicate 12 0)
  pub two_builds : build_count bytes_orders [] ≡ 2

-- "the builds agree", on every accepted sheet: whatever steps and reductions are asked of it, the tester says yes to the same buffers.
unfoldable pub OrdersAgree : Type 0
OrdersAgree =
    (bytes : List ℕ) → Octets bytes → (read_sheet bytes).number ≡ 0 → (cs ds : List Call) → tableless cs ≡ true → tableless ds ≡ true
    → (b : List ℕ) → (tested (last_state bytes cs) b ≡ says true) ↔ (tested (last_state bytes ds) b ≡ says true)
