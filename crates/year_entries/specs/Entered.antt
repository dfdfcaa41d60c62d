-- What a program that keeps counts and sums in arrays makes of an entry.
use Rattle.std.specs.Prelude.{List, ◌≡◌, ℕ, suc, ◌+◌, ◌<◌, ◌^◌, eqb, length, get_or}
use Rattle.bounded.specs.Bool.{if}
use Rattle.bins.specs.declared.Bin.{Bin}
use Rattle.bins.specs.Bins.{Place}
use Rattle.bins_counts.specs.Counts.{spot}
use Rattle.state.specs.declared.state.State.{State}
use Rattle.state_bins.specs.Year.{Entry, number_of, bins_after, delivered_to, called_off_from}
use Rattle.stock.specs.Stock.{bins_of}
use Rattle.scan.specs.declared.Line.{Line}
use Rattle.year_entries.specs.declared.Answer.{Answer}
use Rattle.year_entries.specs.Year.{Told, entry_of, amount_of, low_of, told_as, fault_of}

-- Sums of 64 bits, one for each bin: each becomes more by what is told of its bin, wherever that fits.
pub record Summed (s : State) (more : Place → ℕ) (before after : List ℕ) : Type 0 where
  pub same_length : length after ≡ length before
  pub adds : (o v : ℕ) → o < s.n → v < get_or s.sizes o 0 → get_or before (spot s.sizes o v) 0 + more (suc o, v) < 2 ^ 64
      → get_or after (spot s.sizes o v) 0 ≡ get_or before (spot s.sizes o v) 0 + more (suc o, v)

-- What is moved to or from a bin by an entry with this number.
abbrev pub moved : (number : ℕ) → (Place → Entry → ℕ) → Entry → Place → ℕ
moved number f e p = if (eqb number 0) (f p e) 0

-- L11's call was made: its number, the bins as it left them, and what it moved.
pub record Entered (s : State) (e : Entry) (counts counts' ins ins' outs outs' : List ℕ) (number : ℕ) (low : Bin) : Type 0 where
  pub number_is : number ≡ number_of s (bins_of s counts) e
  pub bins_are : bins_of s counts' ≡ bins_after s (bins_of s counts) e
  pub low_is : low ≡ low_of s (bins_of s counts) e
  pub ins_are : Summed s (moved number delivered_to e) ins ins'
  pub outs_are : Summed s (moved number called_off_from e) outs outs'
  pub same_length : length counts' ≡ length counts

-- An answer as it is told.
abbrev pub told_by : (line : ℕ) → Line → Answer → Told
told_by line l a = record { line = line; entry = entry_of l; fault = a.fault; place = a.place; number = a.number; low = a.low }

-- A line that is an entry was answered.
pub record LineEntered (s : State) (line : ℕ) (l : Line) (counts counts' ins ins' outs outs' : List ℕ) (a : Answer) : Type 0 where
  pub told_is : told_by line l a ≡ told_as s (bins_of s counts) line l
  pub bins_are : bins_of s counts' ≡ if (eqb (fault_of line l) 0) (bins_after s (bins_of s counts) (entry_of l)) (bins_of s counts)
  pub ins_are : Summed s (λ (p : Place). if (eqb a.fault 0) (moved a.number delivered_to (entry_of l) p) 0) ins ins'
  pub outs_are : Summed s (λ (p : Place). if (eqb a.fault 0) (moved a.number called_off_from (entry_of l) p) 0) outs outs'
  pub same_length : length counts' ≡ length counts
  pub amount_lt : amount_of (entry_of l) < 2 ^ 32
