-- The text of the bins: "a line `option,value,count` for each bin, in L11's order".
use Rattle.std.specs.Prelude.{Bool, true, List, [], ◌∷◌, map, ◌≡◌, ℕ, ◌≤◌, eqb, get_or}
use Rattle.std.proofs.lemmas.List.Edits.{sets}
use Rattle.bounded.specs.Bool.{if, and}
use Rattle.bins.specs.declared.Bin.{Bin}
use Rattle.bins.specs.Bins.{Place, stand_at}
use Rattle.scan.specs.declared.Line.{Line}
use Rattle.scan.specs.Scan.{up}
use Rattle.scan.specs.Line.{line_of}
use Rattle.stream.specs.Lines.{lines_of}

-- At most sixteen variables, of at most 32 values: "sizes .. may go to 32, in a sound state too".
pub record Sizes (n : ℕ) (sizes : List ℕ) : Type 0 where
  pub n_most : n ≤ 16
  pub size_most : (i : ℕ) → get_or sizes i 0 ≤ 32

-- 0 or why the text is refused, at which line and column; and the counts that were read.
pub record Read : Type 0 where
  pub number : ℕ
  pub line : ℕ
  pub place : ℕ
  pub counts : List ℕ

abbrev pub stopped : (number line place : ℕ) → Read
stopped number line place = record { number = number; line = line; place = place; counts = [] }

abbrev pub counted : ℕ → Read → Read
counted count r = record { number = r.number; line = r.line; place = r.place; counts = count ∷ r.counts }

-- The line is that of the bin at a place.
unfoldable pub is_at : Place → Line → Bool
is_at p l = and (eqb (get_or l.cells 0 0) p.0) (eqb (get_or l.cells 1 0) p.1)

-- The lines from a number on, for the places that are to come: "bins with a text fault (its number, line and column) or not L11's (27, with the first line
-- that differs, or the line after the last where lines are missing; on one line the text fault first"; a blank line is no bin.
unfoldable pub read_lines : List Place → (line : ℕ) → List Line → Read
read_lines [] line [] = stopped 0 line 0
read_lines (p ∷ ps) line [] = stopped 27 line 0
read_lines [] line (l ∷ ls) =
    if (eqb l.fault 0) (if (eqb l.count 0) (read_lines [] (up line) ls) (stopped 27 line 0))
    (stopped l.fault line l.place)
read_lines (p ∷ ps) line (l ∷ ls) =
    if (eqb l.fault 0)
    (if (eqb l.count 0) (read_lines (p ∷ ps) (up line) ls)
    (if (is_at p l) (counted (get_or l.cells 2 0) (read_lines ps (up line) ls))
    (stopped 27 line 0)))
    (stopped l.fault line l.place)

-- THE MEANING of the bytes of BINS, for these places.
unfoldable pub read_bins : List Place → List ℕ → Read
read_bins ps bytes = read_lines ps 1 (map (line_of true) (lines_of bytes))

-- The records of the lines, and that no line has a fault.
unfoldable pub bin_of : Line → Bin
bin_of l = record { variable = get_or l.cells 0 0; value = get_or l.cells 1 0; count = get_or l.cells 2 0 }

unfoldable pub bins_on : List Line → List Bin
bins_on [] = []
bins_on (l ∷ ls) = if (eqb l.count 0) (bins_on ls) (bin_of l ∷ bins_on ls)

unfoldable pub all_right : List Line → Bool
all_right [] = true
all_right (l ∷ ls) = and (eqb l.fault 0) (all_right ls)

-- Accepted: no line has a fault, and the records are "exactly those options and values in that order"; the counts are theirs.
pub record Accepted (ps : List Place) (ls : List Line) (counts : List ℕ) : Type 0 where
  pub no_fault : all_right ls ≡ true
  pub in_place : stand_at (bins_on ls) ps ≡ true
  pub theirs : counts ≡ map (λ (b : Bin). b.count) (bins_on ls)

-- The machine's answer and its counts are what was read; the counts stand in the array from index k on.
pub record ReadsAs (r : Read) (k number line place : ℕ) (before after : List ℕ) : Type 0 where
  pub number_is : number ≡ r.number
  pub line_is : line ≡ r.line
  pub place_is : place ≡ r.place
  pub counts_are : after ≡ sets before k r.counts
