-- The lines of the end, over the bins before the first entry and what has happened since.
use Rattle.std.specs.Prelude.{List, [], ◌++◌, ℕ, suc, ◌+◌, eqb, get_or}
use Rattle.bounded.specs.Bool.{if}
use Rattle.buffers.specs.Digits.{decimal}
use Rattle.bins.specs.declared.Bin.{Bin}
use Rattle.bins.specs.Bins.{Place, is_of}
use Rattle.bins_counts.specs.Counts.{first_of}
use Rattle.text_lines.specs.Text.{ascii}
use Rattle.text_phrase.specs.Phrase.{phrase_end}
use Rattle.text_put.specs.Put.{each}
use Rattle.state.specs.declared.state.State.{State}
use Rattle.state_bins.specs.Year.{delivered_to, called_off_from, accepted_sum}
use Rattle.year_text.specs.Lines.{fault_end, line_of_bin, first_line, short_entries, entries_line, end_line}
use Rattle.year_entries.specs.declared.Shortage.{Shortage}
use Rattle.year_entries.specs.Year.{Told, Year, answered, faulty, short_of, tally, recorded_of, first_short}

-- A text for each bin, "ascending by option and then by value".
unfoldable pub each_bin : (n : ℕ) → (sizes : List ℕ) → (Place → List ℕ) → List ℕ
each_bin n sizes text = each (λ (o : ℕ). each (λ (v : ℕ). text (suc o, v)) (get_or sizes o 0)) n

-- What the bins hold of a value.
unfoldable pub count_there : List Bin → Place → ℕ
count_there bins p = (first_of (is_of p.0 p.1) bins).count

-- "BIN o v OPEN a IN b OUT c HAND d for each bin at the end", "IN and OUT being the sums over the entries answered OK".
unfoldable pub bin_text : (opening hand : List Bin) → List Told → Place → List ℕ
bin_text opening hand told p =
    line_of_bin p.0 p.1 (count_there opening p) (accepted_sum (delivered_to p) (recorded_of told)) (accepted_sum (called_off_from p) (recorded_of told)) (count_there hand p)

unfoldable pub bins_text : State → (opening : List Bin) → Year → List ℕ
bins_text s opening y = each_bin s.n s.sizes (bin_text opening y.bins y.told)

-- "FIRST SHORTAGE LINE l BIN o v HAS h ASKED q if there is one"
unfoldable pub first_text : (r29 : ℕ) → Shortage → List ℕ
first_text r29 first = if (eqb r29 0) [] (first_line first.line first.low first.asked)

-- "SHORT o v ENTRIES k each bin that a 29 named"
unfoldable pub short_text : Place → (entries : ℕ) → List ℕ
short_text p entries = if (eqb entries 0) [] (short_entries p.0 p.1 entries)

unfoldable pub shorts_text : State → List Told → List ℕ
shorts_text s told = each_bin s.n s.sizes (λ (p : Place). short_text p (tally (short_of p) told))

-- "ENTRIES e OK k R28 x R29 y TEXT t", "e = k + x + y + t", and "END n REFUSED", "n = x + y + t"
unfoldable pub counts_text : (ok r28 r29 text : ℕ) → List ℕ
counts_text ok r28 r29 text = entries_line ok r28 r29 text (ok + (r28 + (r29 + text))) ++ end_line (r28 + (r29 + text))

unfoldable pub rest_text : State → List Told → List ℕ
rest_text s told =
    first_text (tally (answered 29) told) (first_short told)
    ++ (shorts_text s told ++ counts_text (tally (answered 0) told) (tally (answered 28) told) (tally (answered 29) told) (tally faulty told))

-- All of it.
unfoldable pub end_text : State → (opening : List Bin) → Year → List ℕ
end_text s opening y = bins_text s opening y ++ rest_text s y.told

-- The refusal of the bins' text: "27, with the first line that differs", or "a text fault (its number, line and column)".
unfoldable pub bins_refusal : (number line place : ℕ) → List ℕ
bins_refusal number line place =
    if (eqb number 27)
    ((ascii "REFUSED " ++ decimal 27) ++ ((ascii " BINS LINE " ++ decimal line) ++ phrase_end 27))
    ((ascii "REFUSED " ++ decimal number) ++ ((ascii " BINS LINE " ++ decimal line) ++ ((ascii " AT " ++ decimal place) ++ fault_end number)))
