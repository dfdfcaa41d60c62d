-- The lines of the end from the arrays that a program keeps. A reader needs none of it: `End` says what is printed.
use Rattle.std.specs.Prelude.{List, ◌++◌, ℕ, ◌-◌, get_or}
use Rattle.bins.specs.Bins.{Place}
use Rattle.bins_counts.specs.Counts.{spot, plus}
use Rattle.year_text.specs.Lines.{line_of_bin, entries_line, end_line}
use Rattle.year_entries.specs.declared.Shortage.{Shortage}
use Rattle.year_end.specs.End.{each_bin, first_text, short_text}

-- The number at the index of a place.
abbrev pub at : (sizes xs : List ℕ) → Place → ℕ
at sizes xs p = get_or xs (spot sizes (p.0 - 1) p.1) 0

unfoldable pub bin_of : (sizes opened ins outs counts : List ℕ) → Place → List ℕ
bin_of sizes opened ins outs counts p = line_of_bin p.0 p.1 (at sizes opened p) (at sizes ins p) (at sizes outs p) (at sizes counts p)

unfoldable pub short_of_array : (sizes shorts : List ℕ) → Place → List ℕ
short_of_array sizes shorts p = short_text p (at sizes shorts p)

-- Sums of 64 bits that stay at their highest number.
unfoldable pub counts_by : (ok r28 r29 text : ℕ) → List ℕ
counts_by ok r28 r29 text = entries_line ok r28 r29 text (plus (plus (plus text r29) r28) ok) ++ end_line (plus (plus text r29) r28)

unfoldable pub rest_by : (n : ℕ) → (sizes shorts : List ℕ) → Shortage → (ok r28 r29 text : ℕ) → List ℕ
rest_by n sizes shorts first ok r28 r29 text =
    first_text r29 first ++ (each_bin n sizes (short_of_array sizes shorts) ++ counts_by ok r28 r29 text)
