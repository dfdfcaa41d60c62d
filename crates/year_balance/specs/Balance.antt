-- The balance of a year as a theorem about the numbers that are printed.
use Rattle.std.specs.Prelude.{List, [], ◌∷◌, ◌≡◌, ℕ, suc, ◌+◌, ◌<◌, length, get_or}
use Rattle.bins.specs.declared.Bin.{Bin}
use Rattle.bins.specs.Bins.{Place, place, no_bin}
use Rattle.state.specs.declared.state.State.{State}
use Rattle.state_bins.specs.Year.{Entry, last_bins, recorded, called_with, delivered_to, called_off_from, accepted_sum}
use Rattle.stock.specs.Stock.{bins_of}
use Rattle.scan.specs.declared.Line.{Line}
use Rattle.year_entries.specs.Year.{Told, Year, new_year, act, recorded_of}
use Rattle.year_end.specs.End.{count_there}

-- The year after some lines.
abbrev pub year_after : State → Year → List Line → Year
year_after s y [] = y
year_after s y (l ∷ ls) = year_after s (act s y l) ls

-- The entries whose text has no fault came to L11's calls, one after the other: their bins and their recorded list are L11's own.
pub record RanAs (s : State) (opening : List Bin) (y : Year) : Type 0 where
  pub entries : List Entry
  pub bins_are : y.bins ≡ last_bins opening (called_with s entries)
  pub recorded_are : recorded_of y.told ≡ recorded opening (called_with s entries)

-- IN and OUT: "the sums over the entries answered OK".
abbrev pub brought_to : List Told → Place → ℕ
brought_to told p = accepted_sum (delivered_to p) (recorded_of told)

abbrev pub taken_from : List Told → Place → ℕ
taken_from told p = accepted_sum (called_off_from p) (recorded_of told)

-- Each bin balances, whatever the state, the opening bins and the lines are.
abbrev pub Balances : State → List Bin → List Line → Type 0
Balances s opening ls =
    (i : ℕ) → i < length opening
    → (get_or opening i no_bin).count + brought_to (year_after s (new_year opening) ls).told (place (get_or opening i no_bin))
    ≡ taken_from (year_after s (new_year opening) ls).told (place (get_or opening i no_bin)) + (get_or (year_after s (new_year opening) ls).bins i no_bin).count

-- "BIN o v OPEN a IN b OUT c HAND d .. a + b = c + d": the four numbers of each such line, as `bin_text` prints them.
abbrev pub LinesBalance : State → (counts : List ℕ) → List Line → Type 0
LinesBalance s counts ls =
    (o v : ℕ) → o < s.n → v < get_or s.sizes o 0
    → count_there (bins_of s counts) (suc o, v) + brought_to (year_after s (new_year (bins_of s counts)) ls).told (suc o, v)
    ≡ taken_from (year_after s (new_year (bins_of s counts)) ls).told (suc o, v) + count_there (year_after s (new_year (bins_of s counts)) ls).bins (suc o, v)
