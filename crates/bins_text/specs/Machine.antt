-- The text of the bins line by line into an array of 512 counts: what the code does. A reader needs none of it: `Text` says what is read.
use Rattle.std.specs.Prelude.{Bool, false, List, ℕ, ◌+◌, ◌-◌, eqb, leb, ltb, get_or, set}
use Rattle.bounded.specs.Bool.{if}
use Rattle.bins_counts.specs.Counts.{spot}
use Rattle.scan.specs.declared.Line.{Line}
use Rattle.scan.specs.Scan.{up}
use Rattle.bins_text.specs.declared.Reading.{Reading}

-- How far the text was read, and the counts.
pub record Reads : Type 0 where
  pub reading : Reading
  pub counts : List ℕ

-- Where the count of a value stands; 512 where there is no such value.
unfoldable pub place_index : (n : ℕ) → (sizes : List ℕ) → (variable value : ℕ) → ℕ
place_index n sizes variable value =
    if (eqb variable 0) 512
    (if (leb n (variable - 1)) 512
    (if (leb (get_or sizes (variable - 1) 0) value) 512
    (spot sizes (variable - 1) value)))

-- The value's bin comes next.
unfoldable pub in_order : (n : ℕ) → (sizes : List ℕ) → (count variable value : ℕ) → Bool
in_order n sizes count variable value = if (ltb count 512) (eqb (place_index n sizes variable value) count) false

unfoldable pub bins_count : (n : ℕ) → (sizes : List ℕ) → ℕ
bins_count n sizes = if (ltb n 16) (spot sizes n 0) (spot sizes 16 0)

unfoldable pub start_reading : List ℕ → Reads
start_reading counts = record { reading = record { number = 0; line = 1; place = 0; count = 0 }; counts = counts }

unfoldable pub refused_at : (number place : ℕ) → Reading → Reading
refused_at number place r = record { number = number; line = r.line; place = place; count = r.count }

unfoldable pub passed : Reading → Reading
passed r = record { number = r.number; line = up r.line; place = r.place; count = r.count }

unfoldable pub taken : ℕ → Reads → Reads
taken count q =
    record {
      reading = record { number = q.reading.number; line = up q.reading.line; place = q.reading.place; count = q.reading.count + 1 };
      counts = set q.counts q.reading.count count;
    }

-- What a finished line does: where the text is refused already, nothing.
unfoldable pub read_on : (n : ℕ) → (sizes : List ℕ) → Reads → Line → Reads
read_on n sizes q l =
    if (eqb l.fault 0)
    (if (eqb l.count 0) (record { reading = passed q.reading; counts = q.counts })
    (if (in_order n sizes q.reading.count (get_or l.cells 0 0) (get_or l.cells 1 0)) (taken (get_or l.cells 2 0) q)
    (record { reading = refused_at 27 0 q.reading; counts = q.counts })))
    (record { reading = refused_at l.fault l.place q.reading; counts = q.counts })

unfoldable pub read_case : (n : ℕ) → (sizes : List ℕ) → Reads → Line → Reads
read_case n sizes q l = if (eqb q.reading.number 0) (read_on n sizes q l) q

-- Where the text ends: lines may be missing.
unfoldable pub judged_end : (n : ℕ) → (sizes : List ℕ) → Reading → Reading
judged_end n sizes r = if (eqb r.number 0) (if (ltb r.count (bins_count n sizes)) (refused_at 27 0 r) r) r

unfoldable pub at_end : (n : ℕ) → (sizes : List ℕ) → Reads → Reads
at_end n sizes q = record { reading = judged_end n sizes q.reading; counts = q.counts }
