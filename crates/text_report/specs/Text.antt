-- Document 01, "The program sheetcut": the text for the bytes of a sheet, as ASCII codes.
use Rattle.std.specs.Prelude.{List, ◌++◌, ℕ, suc, eqb}
use Rattle.bounded.specs.Bool.{if}
use Rattle.buffers.specs.Digits.{decimal}
use Rattle.format.specs.Layout.{longest}
use Rattle.answers.specs.Answers.{VerdictTold}
use Rattle.state.specs.Cut.{CutTold, cut_sheet}
use Rattle.text_lines.specs.Text.{ascii, option_lines, refused_text}
use Rattle.text_verdict.specs.Text.{verdict_text}

-- "OPTIONS gives n. There is one line for each option .. STEPS is the reduction's count. VERDICT .. for the reduced state." The leaders and lists are
-- those of the reduced state.
unfoldable pub cut_text : ℕ → List ℕ → List ℕ → ℕ → VerdictTold → List ℕ
cut_text n leaders lists steps verdict =
    ascii "OPTIONS " ++ (decimal n ++ (ascii "\n"
    ++ (option_lines leaders lists n
    ++ (ascii "STEPS " ++ (decimal steps ++ (ascii "\n"
    ++ verdict_text verdict n))))))

unfoldable pub text_as : CutTold → List ℕ
text_as c =
    if (eqb c.number 0)
    (cut_text c.state.n c.state.leaders c.state.domains c.steps c.verdict)
    (refused_text c.number c.place)

-- "It reads standard input, reads the sheet, reduces it and prints." Document 02, L6: "The largest version 2 sheet has 15,621 bytes, which is the limit
-- in number 1 and in the program": more bytes print `REFUSED 1 AT 0`.
unfoldable pub text_of : List ℕ → List ℕ
text_of bytes = text_as (cut_sheet bytes)

-- How many bytes of an input tell its text: one more than the largest sheet has, since a longer input is refused for its length alone.
unfoldable pub limit : ℕ
limit = suc longest
