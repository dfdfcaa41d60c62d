-- What an answer with a state tells: document 01's number and values, and the state.
use Rattle.std.specs.Prelude.{ℕ}
use Rattle.answers.specs.Answers.{number_read, read_place, outcome_number}
use Rattle.state.specs.declared.state.State.{State}
use Rattle.state.specs.declared.answer.ReadAnswer.{ReadAnswer}
use Rattle.state.specs.declared.answer.Answer.{Answer}

-- Reading: number, place and state.
pub record ReadTold : Type 0 where
  pub number : ℕ
  pub place : ℕ
  pub state : State

unfoldable pub read_told : ReadAnswer → ReadTold
read_told r = record { number = number_read r.outcome; place = read_place r.outcome; state = r.state }

-- A step or a reduction: number, state and count of steps.
pub record Told : Type 0 where
  pub number : ℕ
  pub state : State
  pub steps : ℕ

unfoldable pub told : Answer → Told
told r = record { number = outcome_number r.outcome; state = r.state; steps = r.steps }
