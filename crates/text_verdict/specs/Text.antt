-- Document 01, "The program sheetcut": the text of a verdict.
use Rattle.std.specs.Prelude.{List, [], ◌++◌, ℕ, zero, suc, get_or}
use Rattle.buffers.specs.Digits.{decimal}
use Rattle.network.specs.Completion.{Verdict, NONE, BUILT, OPEN}
use Rattle.answers.specs.Answers.{VerdictTold, rules, no_verdict}
use Rattle.text_lines.specs.Text.{ascii}

-- A space and the value,
unfoldable pub value_text : ℕ → List ℕ
value_text value = ascii " " ++ decimal value

-- for each of the first count.
unfoldable pub value_texts : List ℕ → ℕ → List ℕ
value_texts build zero = []
value_texts build (suc count) = value_texts build count ++ value_text (get_or build count 0)

-- "BUILD gives the n values in option order."
unfoldable pub built_text : List ℕ → ℕ → List ℕ
built_text build n = ascii "VERDICT BUILT\nBUILD" ++ (value_texts build n ++ ascii "\n")

-- "VERDICT is NONE, BUILT or OPEN, for the reduced state." "BUILD stands only after BUILT."
unfoldable pub ruled_text : Verdict → List ℕ → ℕ → List ℕ
ruled_text NONE build n = ascii "VERDICT NONE\n"
ruled_text BUILT build n = built_text build n
ruled_text OPEN build n = ascii "VERDICT OPEN\n"

unfoldable pub verdict_text : VerdictTold → ℕ → List ℕ
verdict_text (rules k build) n = ruled_text k build n
verdict_text (no_verdict number build) n = []
