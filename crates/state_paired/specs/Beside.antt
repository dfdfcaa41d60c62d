-- "A reading call of its own, beside the old one" (document 02, L14): what the two answer of the same bytes.
use Rattle.std.specs.Prelude.{true, false, List, ◌↔◌, ◌≡◌, ℕ, suc, ◌<◌}
use Rattle.network.specs.Network.{Network}
use Rattle.network.specs.Paired.{paired, unpaired_first, unpaired_second}
use Rattle.format.specs.Parse.{Octets}
use Rattle.format.specs.Builds.{tables, first_table, table_place}
use Rattle.format.specs.Profile.{table_paired, place_past, FirstOther}
use Rattle.state.specs.View.{view, state_of_zeros}
use Rattle.state.specs.Read.{read_sheet, read_paired}

-- The network of the sheet as the old call reads it.
unfoldable pub network_old : List ℕ → Network
network_old bytes = view (read_sheet bytes).state

-- What is answered with 31: "the zero state .., naming the place of the first such pair", the first table of the file that is not functional both ways. Of the
-- sheet's network it is the first pair too, by a and then by b.
pub record Named (bytes : List ℕ) : Type 0 where
  pub zero_state : (read_paired bytes).state ≡ state_of_zeros
  pub first_in_file : FirstOther bytes (read_paired bytes).place
  pub first_pair : (read_paired bytes).place ≡ table_place bytes (suc (unpaired_first (network_old bytes))) (suc (unpaired_second (network_old bytes)))

pub record BesideReading (bytes : List ℕ) : Type 0 where
  -- What it accepts has the old call's answer, whole, and only tables functional both ways.
  pub accepted_alike : (read_paired bytes).number ≡ 0 → read_paired bytes ≡ read_sheet bytes
  pub accepted_paired : (read_paired bytes).number ≡ 0 → (k : ℕ) → k < tables bytes → table_paired bytes (place_past bytes k (first_table bytes)) ≡ true
  -- "after all other tests of reading": what the old call refuses it refuses alike.
  pub refused_alike : ((read_sheet bytes).number ≡ 0 → ⊥) → read_paired bytes ≡ read_sheet bytes
  -- Of what that one accepts it accepts the sheets that "use only tables functional both ways on the full lists",
  pub accepts_exactly : (read_sheet bytes).number ≡ 0 → ((read_paired bytes).number ≡ 0) ↔ (paired (network_old bytes) ≡ true)
  -- and it "refuses with 31 .. a sheet that has another kind of table", and no other.
  pub refuses_exactly : ((read_paired bytes).number ≡ 31) ↔ (((read_sheet bytes).number ≡ 0) × (paired (network_old bytes) ≡ false))
  pub named : (read_paired bytes).number ≡ 31 → Named bytes

unfoldable pub PairedBeside : Type 0
PairedBeside = (bytes : List ℕ) → Octets bytes → BesideReading bytes
