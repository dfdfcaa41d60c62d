-- A step or a reduction on a head and lent rows: its number, the state that they are left as, and its count. A refused one leaves the head given.
use Rattle.std.specs.Prelude.{List, ℕ, Result, Ok, Err}
use Rattle.cause.specs.declared.Cause.{Cause}
use Rattle.cause.specs.Number.{number_of}
use Rattle.head.specs.declared.Head.{Head}
use Rattle.step_reduce.specs.declared.Reduction.{Reduction}
use Rattle.state.specs.View.{state_of}
use Rattle.state.specs.Answers.{Told}

abbrev pub worked_told : Head → Result Reduction Cause → List ℕ → Told
worked_told given (Ok r) rows = record { number = 0; state = state_of r.head rows; steps = r.steps }
worked_told given (Err c) rows = record { number = number_of c; state = state_of given rows; steps = 0 }
