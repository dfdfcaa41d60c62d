-- Reading, the full reduction and the verdict in one call: what the three calls give one after the other, as far as reading accepts the sheet.
use Rattle.std.specs.Prelude.{List, ℕ, eqb, replicate}
use Rattle.bounded.specs.Bool.{if}
use Rattle.state.specs.declared.state.State.{State}
use Rattle.state.specs.declared.answer.CutAnswer.{CutAnswer}
use Rattle.answers.specs.Answers.{VerdictTold, number_read, read_place, verdict_told, no_verdict}
use Rattle.state.specs.Answers.{ReadTold, Told}
use Rattle.state.specs.Read.{read_sheet}
use Rattle.state.specs.Steps.{reduced}
use Rattle.state.specs.Solutions.{verdict_of}

pub record CutTold : Type 0 where
  pub number : ℕ
  pub place : ℕ
  pub state : State
  pub steps : ℕ
  pub verdict : VerdictTold

unfoldable pub cut_told : CutAnswer → CutTold
cut_told r =
    record {
      number = number_read r.outcome;
      place = read_place r.outcome;
      state = r.state;
      steps = r.steps;
      verdict = verdict_told r.verdict;
    }

-- An accepted sheet is reduced, and the verdict is that of the reduced state.
unfoldable pub cut_accepted : ReadTold → Told → CutTold
cut_accepted read cut =
    record { number = read.number; place = read.place; state = cut.state; steps = cut.steps; verdict = verdict_of cut.state }

-- Of a refused one nothing more is shown than reading gives, "place .., zero state": no step, and no verdict, which is refused with reading's own number.
unfoldable pub cut_refused : ReadTold → CutTold
cut_refused read =
    record { number = read.number; place = read.place; state = read.state; steps = 0; verdict = no_verdict read.number (replicate 16 0) }

unfoldable pub cut_as : ReadTold → CutTold
cut_as read = if (eqb read.number 0) (cut_accepted read (reduced read.state)) (cut_refused read)

unfoldable pub cut_sheet : List ℕ → CutTold
cut_sheet bytes = cut_as (read_sheet bytes)
