-- A refusal, or the three calls one after the other.
use mathlib.Core.Path.{sym}
use Rattle.cause.specs.Number.{number_of}
use Rattle.cause.proofs.Laws.{number-positive}
use Rattle.answers.specs.Answers.{outcome_number, verdict_told}
use Rattle.state.specs.Answers.{told}
use Rattle.meter.specs.Fitted.{meter_told, turned_away}
use Rattle.meter.proofs.Fitted.{fitted-away, fitted-told}
use Rattle.meter.proofs.fit.Goals as goal

pub returns-in-Err : goal.returns-in-Err
unfolding meter_told turned_away verdict_told outcome_number
returns-in-Err c = sym (fitted-away _ (number_of c.in-Err.cause) (sym c.in-Err.ensures) (number-positive c.in-Err.cause))

pub returns : goal.returns
unfolding meter_told told outcome_number
returns c =
    fitted-told _ _ (told c.add_table.result) (told c.reduce.result) _ (sym c.in_default.ensures)
    c.page_nine.ensures c.add_table.ensures c.reduce.ensures c.verdict.ensures
