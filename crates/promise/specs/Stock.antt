-- Document 02, L11, with demand 3: "I want a year's call-offs tried against stock on the same sheets". What is called off after a list of calls on an accepted
-- sheet. Together with the contracts of the calls, which cite the same `call_off_number` and `delivery_number`, it speaks of the code.
use Rattle.std.specs.Prelude.{true, false, List, ◌↔◌, ◌≡◌, ℕ, ◌+◌}
use Rattle.network.specs.Calls.{Call}
use Rattle.format.specs.Parse.{Octets}
use Rattle.format.specs.Builds.{options, option_size}
use Rattle.bins.specs.declared.Bin.{Bin}
use Rattle.bins.specs.Bins.{places}
use Rattle.state.specs.Read.{read_sheet}
use Rattle.state_bins.specs.Bins.{bin_places, call_off_number}
use Rattle.state_bins.specs.Refuses.{InPlace}
use Rattle.promise.specs.Promise.{last_state, build_of_sheet}

pub record StockOfSheet (bytes : List ℕ) (cs : List Call) : Type 0 where
  -- The bins are those of the sheet, "one for each value below each option's size, ascending by option and then by value": no call changes which they are.
  pub same_bins : bin_places (last_state bytes cs) ≡ places (options bytes) (λ (i : ℕ). option_size bytes (i + 1))
  -- What is called off is a build of the sheet with its added tables, whatever the bins hold;
  pub called_off : (bins : List Bin) (build : List ℕ) (amount : ℕ) → call_off_number (last_state bytes cs) bins build amount ≡ 0 → build_of_sheet bytes cs build ≡ true
  -- and where the records are those bins, 28 is said of a call-off exactly where it is none.
  pub non_build : (bins : List Bin) (build : List ℕ) (amount : ℕ) → InPlace (last_state bytes cs) bins
      → (call_off_number (last_state bytes cs) bins build amount ≡ 28) ↔ (build_of_sheet bytes cs build ≡ false)

-- Of every accepted sheet and every list of calls.
unfoldable pub SheetsStock : Type 0
SheetsStock = (bytes : List ℕ) → Octets bytes → (read_sheet bytes).number ≡ 0 → (cs : List Call) → StockOfSheet bytes cs
