-- Document 01, "The program sheetcut": quoted texts, the lines of options and the text of a refusal, as ASCII codes.
use Rattle.std.specs.Prelude.{List, [], ◌∷◌, ◌++◌, ℕ, zero, suc, ◌+◌, eqb, get_or}
use Prim.Native.Char.{code}
use Prim.Native.String.{String, [] as noText, ◌∷◌ as ◌before◌}
use Rattle.bounded.specs.Bool.{if}
use Rattle.buffers.specs.Digits.{decimal, hex_text}

-- The codes of a quoted text.
unfoldable pub ascii : String → List ℕ
ascii noText = []
ascii (c before s) = code c ∷ ascii s

-- A line of two numbers, each with a title: "Every line ends with a line feed."
unfoldable pub pair_line : List ℕ → ℕ → List ℕ → ℕ → List ℕ
pair_line first one second two = first ++ (decimal one ++ (second ++ (decimal two ++ ascii "\n")))

-- Document 02, L6: "LIST prints eight digits." Upper-case hexadecimal ones, as before; "other numbers are decimal."
unfoldable pub live_line : ℕ → ℕ → List ℕ
live_line number list = ascii "LIVE " ++ (decimal number ++ (ascii " LIST " ++ (hex_text 8 list ++ ascii "\n")))

-- "LIVE with its number and list, or FOLLOWS with its number and its leader's": i counts from 0, the numbers printed from 1.
unfoldable pub option_line : ℕ → ℕ → ℕ → List ℕ
option_line i leader list = if (eqb leader 0) (live_line (i + 1) list) (pair_line (ascii "FOLLOWS ") (i + 1) (ascii " OF ") leader)

-- "There is one line for each option, ascending": the first count of them.
unfoldable pub option_lines : List ℕ → List ℕ → ℕ → List ℕ
option_lines leaders lists zero = []
option_lines leaders lists (suc count) = option_lines leaders lists count ++ option_line count (get_or leaders count 0) (get_or lists count 0)

-- "Another refusal prints its number and place, decimal, in that form, and nothing else."
unfoldable pub refused_text : ℕ → ℕ → List ℕ
refused_text number place = pair_line (ascii "REFUSED ") number (ascii " AT ") place
