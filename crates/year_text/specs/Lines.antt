-- The lines that the program of a year prints, as ASCII codes.
use Rattle.std.specs.Prelude.{List, ◌++◌, ℕ, eqb}
use Rattle.bounded.specs.Bool.{if}
use Rattle.buffers.specs.Digits.{decimal}
use Rattle.text_lines.specs.Text.{ascii}
use Rattle.text_phrase.specs.Phrase.{ending, phrase_end}
use Rattle.bins.specs.declared.Bin.{Bin}

-- The text's own faults in words.
unfoldable pub text_phrase : ℕ → List ℕ
text_phrase fault =
    if (eqb fault 101) (ascii "a character does not belong there")
    (if (eqb fault 102) (ascii "a number is above 4294967295")
    (if (eqb fault 103) (ascii "there are more fields than any line has")
    (if (eqb fault 104) (ascii "a field is empty")
    (if (eqb fault 105) (ascii "the line begins with neither D nor C")
    (if (eqb fault 106) (ascii "the line has a wrong number of fields")
    (ascii "there are more than 4294967295 lines"))))))

unfoldable pub fault_end : ℕ → List ℕ
fault_end fault = ending (text_phrase fault)

-- OK LINE l
unfoldable pub ok_line : (line : ℕ) → List ℕ
ok_line line = (ascii "OK LINE " ++ decimal line) ++ ascii "\n"

-- REFUSED 28 LINE l: phrase
unfoldable pub refused_line : (number line : ℕ) → List ℕ
refused_line number line = (ascii "REFUSED " ++ decimal number) ++ ((ascii " LINE " ++ decimal line) ++ phrase_end number)

-- REFUSED 29 LINE l BIN o v HAS c: phrase
unfoldable pub short_line : (line : ℕ) → Bin → List ℕ
short_line line low =
    (ascii "REFUSED 29 LINE " ++ decimal line) ++ ((ascii " BIN " ++ decimal low.variable) ++ ((ascii " " ++ decimal low.value)
    ++ ((ascii " HAS " ++ decimal low.count) ++ phrase_end 29)))

-- REFUSED 101 LINE l AT column: phrase
unfoldable pub fault_line : (fault line place : ℕ) → List ℕ
fault_line fault line place = (ascii "REFUSED " ++ decimal fault) ++ ((ascii " LINE " ++ decimal line) ++ ((ascii " AT " ++ decimal place) ++ fault_end fault))

-- BIN o v OPEN a IN b OUT c HAND d
unfoldable pub line_of_bin : (variable value opening brought taken hand : ℕ) → List ℕ
line_of_bin variable value opening brought taken hand =
    (ascii "BIN " ++ decimal variable) ++ ((ascii " " ++ decimal value) ++ ((ascii " OPEN " ++ decimal opening) ++ ((ascii " IN " ++ decimal brought)
    ++ ((ascii " OUT " ++ decimal taken) ++ ((ascii " HAND " ++ decimal hand) ++ ascii "\n")))))

-- FIRST SHORTAGE LINE l BIN o v HAS h ASKED q
unfoldable pub first_line : (line : ℕ) → Bin → (asked : ℕ) → List ℕ
first_line line low asked =
    (ascii "FIRST SHORTAGE LINE " ++ decimal line) ++ ((ascii " BIN " ++ decimal low.variable) ++ ((ascii " " ++ decimal low.value)
    ++ ((ascii " HAS " ++ decimal low.count) ++ ((ascii " ASKED " ++ decimal asked) ++ ascii "\n"))))

-- SHORT o v ENTRIES k
unfoldable pub short_entries : (variable value entries : ℕ) → List ℕ
short_entries variable value entries =
    (ascii "SHORT " ++ decimal variable) ++ ((ascii " " ++ decimal value) ++ ((ascii " ENTRIES " ++ decimal entries) ++ ascii "\n"))

-- ENTRIES e OK k R28 x R29 y TEXT t
unfoldable pub entries_line : (ok r28 r29 text all : ℕ) → List ℕ
entries_line ok r28 r29 text all =
    (ascii "ENTRIES " ++ decimal all) ++ ((ascii " OK " ++ decimal ok) ++ ((ascii " R28 " ++ decimal r28) ++ ((ascii " R29 " ++ decimal r29)
    ++ ((ascii " TEXT " ++ decimal text) ++ ascii "\n"))))

-- END n REFUSED
unfoldable pub end_line : (refused : ℕ) → List ℕ
end_line refused = (ascii "END " ++ decimal refused) ++ ascii " REFUSED\n"
