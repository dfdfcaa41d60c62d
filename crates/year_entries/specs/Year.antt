-- THE MEANING of a list: what each line of it asks, what it is answered, and what has been answered so far.
use Rattle.std.specs.Prelude.{Bool, List, [], ◌∷◌, ◌++◌, ℕ, ◌+◌, ◌-◌, eqb, leb, ltb, get_or, take, drop}
use Rattle.bounded.specs.Bool.{and, or, not, bit, if}
use Rattle.bins.specs.declared.Bin.{Bin}
use Rattle.bins.specs.Bins.{Place, no_bin, is_of}
use Rattle.state.specs.declared.state.State.{State}
use Rattle.state_bins.specs.Year.{Entry, delivery, call_off, number_of, bins_after, Recorded}
use Rattle.stock.specs.Stock.{low_bin}
use Rattle.scan.specs.declared.Line.{Line}
use Rattle.year_entries.specs.declared.Shortage.{Shortage}

-- A line that is neither blank nor a comment is an entry.
unfoldable pub is_entry : Line → Bool
is_entry l = or (not (eqb l.fault 0)) (not (eqb l.kind 0))

-- "`D,option,value,count` a delivery, `C,count,v1,..,vn` a call-off"
unfoldable pub entry_of : Line → Entry
entry_of l =
    if (eqb l.kind 1)
    (delivery (get_or l.cells 0 0) (get_or l.cells 1 0) (get_or l.cells 2 0))
    (call_off (take (l.count - 1) (drop 1 l.cells)) (get_or l.cells 0 0))

abbrev pub amount_of : Entry → ℕ
amount_of (delivery variable value amount) = amount
amount_of (call_off solution amount) = amount

-- The bin that a 29 names.
unfoldable pub low_of : State → List Bin → Entry → Bin
low_of s bins (delivery variable value amount) = no_bin
low_of s bins (call_off solution amount) = low_bin s bins solution amount

-- "108 the line after 2^32 - 1 lines, which ends the run"
abbrev pub most_lines : ℕ
most_lines = 4294967295

unfoldable pub fault_of : (line : ℕ) → Line → ℕ
fault_of line l = if (ltb most_lines line) 108 l.fault

unfoldable pub place_of : (line : ℕ) → Line → ℕ
place_of line l = if (ltb most_lines line) 1 l.place

-- An entry with its answer: the text's own fault and its place, or else L11's number and the bin that a 29 names.
pub record Told : Type 0 where
  pub line : ℕ
  pub entry : Entry
  pub fault : ℕ
  pub place : ℕ
  pub number : ℕ
  pub low : Bin

unfoldable pub told_as : State → List Bin → (line : ℕ) → Line → Told
told_as s bins line l =
    record {
      line = line;
      entry = entry_of l;
      fault = fault_of line l;
      place = place_of line l;
      number = if (eqb (fault_of line l) 0) (number_of s bins (entry_of l)) 0;
      low = if (eqb (fault_of line l) 0) (low_of s bins (entry_of l)) no_bin;
    }

-- What has happened so far: the bins as the entries left them, the number of the next line, and each entry with its answer, in order.
pub record Year : Type 0 where
  pub bins : List Bin
  pub line : ℕ
  pub told : List Told

-- Before the first line.
unfoldable pub new_year : List Bin → Year
new_year bins = record { bins = bins; line = 1; told = [] }

-- An entry is answered, and the next one meets the bins as it left them; a text fault leaves them as they were.
unfoldable pub entered : State → Year → Line → Year
entered s y l =
    record {
      bins = if (eqb (fault_of y.line l) 0) (bins_after s y.bins (entry_of l)) y.bins;
      line = y.line + 1;
      told = y.told ++ (told_as s y.bins y.line l ∷ []);
    }

-- Past the lines that are counted a blank line is not counted.
unfoldable pub passed : Year → Year
passed y = record { bins = y.bins; line = if (leb y.line most_lines) (y.line + 1) y.line; told = y.told }

-- After a 108 nothing more is done.
unfoldable pub has_ended : Year → Bool
has_ended y = ltb (most_lines + 1) y.line

unfoldable pub act : State → Year → Line → Year
act s y l = if (is_entry l) (if (has_ended y) y (entered s y l)) (passed y)

-- ---- what the end tells, over the entries

-- Answered by L11's call with this number,
unfoldable pub answered : ℕ → Told → Bool
answered number t = and (eqb t.fault 0) (eqb t.number number)

-- refused for the text alone,
unfoldable pub faulty : Told → Bool
faulty t = not (eqb t.fault 0)

-- refused with 29 for this bin.
unfoldable pub short_of : Place → Told → Bool
short_of p t = and (answered 29 t) (is_of p.0 p.1 t.low)

unfoldable pub tally : (Told → Bool) → List Told → ℕ
tally which [] = 0
tally which (t ∷ ts) = bit (which t) + tally which ts

-- The entries that came to L11's call, each with its number: "the recorded list".
unfoldable pub recorded_of : List Told → List Recorded
recorded_of [] = []
recorded_of (t ∷ ts) = if (eqb t.fault 0) (record { entry = t.entry; number = t.number } ∷ recorded_of ts) (recorded_of ts)

-- The first 29: its line, the bin, and what was asked; zero throughout where there is none.
unfoldable pub first_short : List Told → Shortage
first_short [] = record { line = 0; low = no_bin; asked = 0 }
first_short (t ∷ ts) = if (answered 29 t) (record { line = t.line; low = t.low; asked = amount_of t.entry }) (first_short ts)
