-- A cut whose rows are lent: what it tells together with the rows at exit.
use Rattle.std.specs.Prelude.{List, ℕ}
use Rattle.answers.specs.Answers.{number_read, read_place, verdict_told}
use Rattle.state.specs.View.{state_of}
use Rattle.state.specs.Cut.{CutTold}
use Rattle.state_cut.specs.declared.CutParts.{CutParts}

unfoldable pub cut_parts_told : CutParts → List ℕ → CutTold
cut_parts_told r rows =
    record {
      number = number_read r.outcome;
      place = read_place r.outcome;
      state = state_of r.head rows;
      steps = r.steps;
      verdict = verdict_told r.verdict;
    }
