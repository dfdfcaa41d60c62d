-- A refusal in words, as ASCII codes. The phrases are those of `sheet_cause_text` in include/sheet.h, to the letter.
use Rattle.std.specs.Prelude.{List, [], ◌∷◌, ◌++◌, ℕ, get_or}
use Rattle.buffers.specs.Digits.{decimal}
use Rattle.text_lines.specs.Text.{ascii}

-- By their numbers, from 0 on.
unfoldable pub phrases : List (List ℕ)
phrases =
    ascii "not refused"
    ∷ ascii "the sheet is under 3 bytes or over 15,621, or its count of bytes is wrong"
    ∷ ascii "the version is none of 1, 2 and 3"
    ∷ ascii "the number of options is 0 or above 16"
    ∷ ascii "the size of an option is 0, above 32, or above 16 in version 1"
    ∷ ascii "there are more tables than pairs of options"
    ∷ ascii "a field is cut off, or bytes are left over"
    ∷ ascii "a table names an option 0 or above the number of options"
    ∷ ascii "a row allows a value at or above the size of its option"
    ∷ ascii "the state is not sound"
    ∷ ascii "an option number is 0 or above the number of options"
    ∷ ascii "the two options are equal, an option named is not live, or one named as a follower is live"
    ∷ ascii "the two options have no table"
    ∷ ascii "the table is not functional from leader to follower"
    ∷ ascii "the buffer does not have one byte for each option"
    ∷ ascii "a value is not in the list of its live option, or at or above the size of its option"
    ∷ ascii "a table forbids the values of two live options"
    ∷ ascii "the sheet is longer than the buffer"
    ∷ ascii "an option follows another, or a list is not full"
    ∷ ascii "the first option of a table is not below its second"
    ∷ ascii "a table's pair is not after the one before"
    ∷ ascii "the table is for one option and itself"
    ∷ ascii "the table does not have a row for each value of its first option, or a row allows a value at or above the size of its second"
    ∷ ascii "the lists of the live options have more than 1,000,000 choices"
    ∷ ascii "the version to write is unknown, or a size is above what it can hold"
    ∷ ascii "there are fewer than two options, or option 1 or 2 does not have four values"
    ∷ ascii "a row is all-zero, which version 3 forbids"
    ∷ ascii "the bins are not one for each value of each option, in their order"
    ∷ ascii "there is no such build or value, or a count would exceed 32 bits"
    ∷ ascii "a bin holds too few"
    ∷ ascii "the order does not hold each option exactly once and nothing else"
    ∷ ascii "a table is not functional both ways"
    ∷ []

unfoldable pub phrase : ℕ → List ℕ
phrase number = get_or phrases number (ascii "no cause has this number")

unfoldable pub ending : List ℕ → List ℕ
ending words = ascii ": " ++ (words ++ ascii "\n")

unfoldable pub phrase_end : ℕ → List ℕ
phrase_end number = ending (phrase number)

unfoldable pub refused_number : ℕ → List ℕ
refused_number number = ascii "REFUSED " ++ decimal number

-- A refusal that has no place,
unfoldable pub refusal_line : ℕ → List ℕ
refusal_line number = refused_number number ++ phrase_end number

-- and that of a sheet, at a byte.
unfoldable pub refusal_at_line : ℕ → ℕ → List ℕ
refusal_at_line number place = refused_number number ++ ((ascii " AT " ++ decimal place) ++ phrase_end number)
