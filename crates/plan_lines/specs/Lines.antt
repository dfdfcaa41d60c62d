-- The lines of the planning table, as ASCII codes: "each line with its kind first and values in decimal, never as masks". Options count from 0 here and
-- from 1 in the text.
use Rattle.std.specs.Prelude.{Bool, List, [], ◌++◌, ℕ, ◌+◌, eqb, ltb, get_or}
use Rattle.bounded.specs.Bool.{and, not, if}
use Rattle.bounded.specs.Fold.{count}
use Rattle.words.specs.Word.{width, has, word}
use Rattle.buffers.specs.Digits.{decimal}
use Rattle.network.specs.Completion.{NONE, BUILT, OPEN}
use Rattle.answers.specs.Answers.{VerdictTold, rules, no_verdict}
use Rattle.text_lines.specs.Text.{ascii}
use Rattle.text_put.specs.Put.{each}
use Rattle.text_phrase.specs.Phrase.{refusal_line}

-- A blank and a number.
unfoldable pub spaced : ℕ → List ℕ
spaced k = ascii " " ++ decimal k

-- The value v, where the word x has it,
unfoldable pub value_among : ℕ → ℕ → List ℕ
value_among x v = if (has x v) (spaced v) []

-- and `KIND i VALUES v v ..`, ascending; without a value the line ends after VALUES.
unfoldable pub values_line : List ℕ → ℕ → ℕ → List ℕ
values_line kind i x = (kind ++ decimal (i + 1)) ++ (ascii " VALUES" ++ (each (value_among x) width ++ ascii "\n"))

-- `LIVE i VALUES v v ..` or `FOLLOWS j OF i`, "a line for each option".
unfoldable pub option_line : ℕ → ℕ → ℕ → List ℕ
option_line i leader list =
    if (eqb leader 0)
    (values_line (ascii "LIVE ") i list)
    ((ascii "FOLLOWS " ++ decimal (i + 1)) ++ ((ascii " OF " ++ decimal leader) ++ ascii "\n"))

unfoldable pub option_lines : List ℕ → List ℕ → ℕ → List ℕ
option_lines leaders lists = each (λ (i : ℕ). option_line i (get_or leaders i 0) (get_or lists i 0))

-- "STEPS k": "all steps: options live as read and not now". All are live as read.
unfoldable pub steps_of : List ℕ → ℕ → ℕ
steps_of leaders n = count n (λ (i : ℕ). not (eqb (get_or leaders i 0) 0))

-- `USED j VALUES v v ..`, `IDLE j VALUES v v ..` or `MAYBE j VALUES v v ..`: "no line where there is none".
unfoldable pub stock_line : List ℕ → ℕ → ℕ → List ℕ
stock_line kind i x = if (eqb x 0) [] (values_line kind i x)

unfoldable pub stock_lines : List ℕ → List ℕ → ℕ → List ℕ
stock_lines kind words = each (λ (i : ℕ). stock_line kind i (get_or words i 0))

-- "the others below the size: stock nothing"
unfoldable pub idle_word : ℕ → ℕ → ℕ
idle_word size used = word width (λ (v : ℕ). and (ltb v size) (not (has used v)))

unfoldable pub idle_line : ℕ → ℕ → ℕ → List ℕ
idle_line i size used = stock_line (ascii "IDLE ") i (idle_word size used)

unfoldable pub idle_lines : List ℕ → List ℕ → ℕ → List ℕ
idle_lines sizes words = each (λ (i : ℕ). idle_line i (get_or sizes i 0) (get_or words i 0))

-- ` BUILT v .. v`: the first n values of a build.
unfoldable pub build_texts : List ℕ → ℕ → List ℕ
build_texts build = each (λ (i : ℕ). spaced (get_or build i 0))

unfoldable pub built_text : List ℕ → ℕ → List ℕ
built_text build n = ascii " BUILT" ++ (build_texts build n ++ ascii "\n")

unfoldable pub refused_text : ℕ → List ℕ
refused_text number = ascii " " ++ refusal_line number

-- "NONE | BUILT v .. v | OPEN", and "REFUSED 23: phrase".
unfoldable pub ruling_text : VerdictTold → ℕ → List ℕ
ruling_text (rules NONE build) n = ascii " NONE\n"
ruling_text (rules BUILT build) n = built_text build n
ruling_text (rules OPEN build) n = ascii " OPEN\n"
ruling_text (no_verdict number build) n = refused_text number

-- "BUILDS k or BUILDS OVER 18446744073709551615 where the survey's flag is set"
unfoldable pub builds_line : Bool → ℕ → List ℕ
builds_line more builds = if more (ascii "BUILDS OVER 18446744073709551615\n") ((ascii "BUILDS " ++ decimal builds) ++ ascii "\n")
