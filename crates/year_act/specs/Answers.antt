-- What is printed for a line.
use Rattle.std.specs.Prelude.{Bool, List, [], ℕ, eqb}
use Rattle.bounded.specs.Bool.{if}
use Rattle.bins.specs.declared.Bin.{Bin}
use Rattle.state.specs.declared.state.State.{State}
use Rattle.scan.specs.declared.Line.{Line}
use Rattle.year_text.specs.Lines.{ok_line, refused_line, short_line, fault_line}
use Rattle.year_entries.specs.Year.{Told, Year, is_entry, has_ended, told_as}

-- OK, where it is not to be left out; REFUSED with the text's own fault, with 29 and the bin, or with 28: no other number comes (`only-three`).
unfoldable pub answer_text : (quiet : Bool) → (line fault place number : ℕ) → Bin → List ℕ
answer_text quiet line fault place number low =
    if (eqb fault 0)
    (if (eqb number 0) (if quiet [] (ok_line line)) (if (eqb number 29) (short_line line low) (refused_line 28 line)))
    (fault_line fault line place)

abbrev pub told_text : (quiet : Bool) → Told → List ℕ
told_text quiet t = answer_text quiet t.line t.fault t.place t.number t.low

-- Nothing for a blank line, and nothing after a 108.
unfoldable pub answer : (quiet : Bool) → State → Year → Line → List ℕ
answer quiet s y l = if (is_entry l) (if (has_ended y) [] (told_text quiet (told_as s y.bins y.line l))) []
