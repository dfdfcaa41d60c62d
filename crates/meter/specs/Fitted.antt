-- What the call answers (document 02, L7): "The layer adds this as a table, reduces fully, and hands back the state and its verdict".
use Rattle.std.specs.Prelude.{Bool, List, ℕ, eqb, leb, get_or, replicate}
use Rattle.bounded.specs.Bool.{and, if}
use Rattle.answers.specs.Answers.{outcome_number, VerdictTold, verdict_told, no_verdict}
use Rattle.state.specs.declared.state.State.{State}
use Rattle.state.specs.View.{sound_state}
use Rattle.state.specs.Steps.{reduced}
use Rattle.state.specs.Tables.{table_added}
use Rattle.state.specs.Solutions.{verdict_of}
use Rattle.meter_rule.specs.PageNine.{page_nine}
use Rattle.meter.specs.declared.MeterAnswer.{MeterAnswer}

-- Number, state, and the verdict with the build shown.
pub record MeterTold : Type 0 where
  pub number : ℕ
  pub state : State
  pub verdict : VerdictTold

unfoldable pub meter_told : MeterAnswer → MeterTold
meter_told r = record { number = outcome_number r.outcome; state = r.state; verdict = verdict_told r.verdict }

-- Neither "fewer than two options" nor a state "where option 1 or 2 is not of size four": by the sizes, whatever is left in the lists.
unfoldable pub flat_meter : (n : ℕ) (sizes : List ℕ) → Bool
flat_meter n sizes = and (leb 2 n) (and (eqb (get_or sizes 0 0) 4) (eqb (get_or sizes 1 0) 4))

-- "It refuses with 25, after 9".
unfoldable pub fit_refusal : State → ℕ
fit_refusal s = if (sound_state s) (if (flat_meter s.n s.sizes) 0 25) 9

-- "Both hand back the state given." Nothing more is shown: no verdict, which is refused with the call's own number.
unfoldable pub turned_away : ℕ → State → MeterTold
turned_away number s = record { number = number; state = s; verdict = no_verdict number (replicate 16 0) }

-- The state of page nine: the table added, and the state fully reduced.
unfoldable pub fitted_state : State → State
fitted_state s = (reduced (table_added s 1 2 page_nine).state).state

unfoldable pub fitted : State → MeterTold
fitted s =
    if (eqb (fit_refusal s) 0)
    (record { number = 0; state = fitted_state s; verdict = verdict_of (fitted_state s) })
    (turned_away (fit_refusal s) s)
