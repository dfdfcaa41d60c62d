-- The follow step and the full reduction on states: the calls by their names.
use Rattle.std.specs.Prelude.{ℕ}
use Rattle.network.specs.Reduction.{Reduced}
use Rattle.network.specs.Calls.{follow_step, full_reduction, trimmed_reduction, led_reduction}
use Rattle.state.specs.declared.state.State.{State}
use Rattle.state.specs.View.{pack}
use Rattle.state.specs.Answers.{Told}
use Rattle.state.specs.Calls.{call_refusal, called}

-- The number that refuses a follow step, variables counted from 1.
abbrev pub step_refusal : State → ℕ → ℕ → ℕ
step_refusal s l f = call_refusal s (follow_step l f)

-- A legal step gives exactly the state of rules 1, 2 and 3, and counts 1.
abbrev pub stepped : State → ℕ → ℕ → Told
stepped s l f = called s (follow_step l f)

unfoldable pub reduced_as : Reduced → Told
reduced_as r = record { number = 0; state = pack r.network; steps = r.steps }

-- "It hands back the state and the number of steps". It refuses with 9 alone.
abbrev pub reduced : State → Told
reduced s = called s full_reduction

-- "This trimming comes first; then reduce fully, and alternate until neither changes anything. The state and the total number of follow steps come back. ..
-- It refuses only with 9" (document 02).
abbrev pub trimmed : State → Told
trimmed s = called s trimmed_reduction

-- "Only it takes followers .. The state and the number of steps come back. .. It refuses with 9, then 10, then 11 when the named option is not live"
-- (document 02). The leader counts from 1.
abbrev pub lead_number : State → ℕ → ℕ
lead_number s l = call_refusal s (led_reduction l)

abbrev pub led : State → ℕ → Told
led s l = called s (led_reduction l)
