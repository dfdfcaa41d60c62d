-- Case A of document 01: the bytes of the sheet, the state that the full reduction leaves, the verdict on it, and the text.
use Rattle.std.specs.Prelude.{List, [], ◌∷◌, ℕ, replicate}
use Rattle.network.specs.Completion.{BUILT}
use Rattle.answers.specs.Answers.{rules}
use Rattle.state.specs.declared.state.State.{State}
use Rattle.state.specs.Answers.{Told}
use Rattle.state.specs.Cut.{CutTold}
use Rattle.state.specs.Read.{read_sheet}
use Rattle.text_lines.specs.Text.{ascii}

-- `01 00 13 03 02 03 02 02 01 02 00 01 00 04 02 03 00 02 00 01 00 01`
unfoldable pub bytes_a : List ℕ
bytes_a = 1 ∷ 0 ∷ 19 ∷ 3 ∷ 2 ∷ 3 ∷ 2 ∷ 2 ∷ 1 ∷ 2 ∷ 0 ∷ 1 ∷ 0 ∷ 4 ∷ 2 ∷ 3 ∷ 0 ∷ 2 ∷ 0 ∷ 1 ∷ 0 ∷ 1 ∷ []

-- The sheet that has the pairs of the last state as its tables: (1,2) 0001 0004 as in A, and (1,3) 0002 0001, which rule 2 composes.
unfoldable pub bytes_last : List ℕ
bytes_last = 1 ∷ 0 ∷ 17 ∷ 3 ∷ 2 ∷ 3 ∷ 2 ∷ 2 ∷ 1 ∷ 2 ∷ 0 ∷ 1 ∷ 0 ∷ 4 ∷ 1 ∷ 3 ∷ 0 ∷ 2 ∷ 0 ∷ 1 ∷ []

-- After 2 steps variables 2 and 3 follow 1, 2 has lost value 1, which is no partner of a value of 1, and 1 is stated with both.
unfoldable pub state_last : State
state_last =
    record {
      n = 3;
      sizes = 2 ∷ 3 ∷ 2 ∷ replicate 13 0;
      domains = 3 ∷ 5 ∷ 3 ∷ replicate 13 0;
      leaders = 0 ∷ 1 ∷ 1 ∷ replicate 13 0;
      stated = 6 ∷ 1 ∷ 1 ∷ replicate 13 0;
      rows = (read_sheet bytes_last).state.rows;
    }

unfoldable pub reduced_a : Told
reduced_a = record { number = 0; state = state_last; steps = 2 }

-- The whole cut: variable 1 takes value 0, its lowest, and variables 2 and 3 their partners of it.
unfoldable pub cut_a : CutTold
cut_a = record { number = 0; place = 0; state = state_last; steps = 2; verdict = rules BUILT (0 ∷ 0 ∷ 1 ∷ replicate 13 0) }

-- What "it prints" for these bytes.
unfoldable pub text_a : List ℕ
text_a = ascii "OPTIONS 3\nLIVE 1 LIST 00000003\nFOLLOWS 2 OF 1\nFOLLOWS 3 OF 1\nSTEPS 2\nVERDICT BUILT\nBUILD 0 0 1\n"
