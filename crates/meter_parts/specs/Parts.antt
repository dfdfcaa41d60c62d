-- Page nine on lent rows: what it tells of the head given, together with the rows that are left beside it. A refusal leaves the head given.
use Rattle.std.specs.Prelude.{List, ℕ, replicate, Result, Ok, Err}
use Rattle.cause.specs.declared.Cause.{Cause}
use Rattle.cause.specs.Number.{number_of}
use Rattle.answers.specs.Answers.{verdict_told, no_verdict}
use Rattle.head.specs.declared.Head.{Head}
use Rattle.state.specs.View.{state_of}
use Rattle.meter.specs.Fitted.{MeterTold}
use Rattle.meter_parts.specs.declared.Fit.{Fit}

unfoldable pub fit_told : Head → Result Fit Cause → List ℕ → MeterTold
fit_told given (Ok r) rows = record { number = 0; state = state_of r.head rows; verdict = verdict_told (Ok r.verdict) }
fit_told given (Err c) rows = record { number = number_of c; state = state_of given rows; verdict = no_verdict (number_of c) (replicate 16 0) }
