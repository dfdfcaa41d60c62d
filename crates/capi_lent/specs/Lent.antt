-- The arrays of a state that C and Rust lend one by one, and what is stored in them.
use Rattle.std.specs.Prelude.{List, ◌≡◌, ℕ, Result, Ok, Err}
use Rattle.cause.specs.declared.Cause.{Cause}
use Rattle.cause.specs.Number.{number_of}
use Rattle.answers.specs.Answers.{outcome_number}
use Rattle.head.specs.declared.Head.{Head}
use Rattle.step_reduce.specs.declared.Reduction.{Reduction}
use Rattle.state.specs.declared.state.State.{State}
use Rattle.state.specs.View.{state_of}
use Rattle.state.specs.Answers.{Told}
use Rattle.capi_lent.specs.declared.SheetStepped.{SheetStepped}

-- The state whose arrays are lent one by one, and its head.
abbrev pub head_with : ℕ → (sizes lists leaders stated : List ℕ) → Head
head_with n sizes lists leaders stated = record { n = n; sizes = sizes; domains = lists; leaders = leaders; stated = stated }

abbrev pub state_with : ℕ → (sizes lists leaders stated rows : List ℕ) → State
state_with n sizes lists leaders stated rows = state_of (head_with n sizes lists leaders stated) rows

-- What a step or a reduction tells, of the struct and of the arrays as they are left.
unfoldable pub state_left : State → SheetStepped → Told
state_left s r = record { number = r.number; state = s; steps = r.steps }

-- What is stored of a head: all that a call changes of it.
abbrev pub Stored : Head → (lists leaders stated : List ℕ) → Type 0
Stored h lists leaders stated = (lists ≡ h.domains) × (leaders ≡ h.leaders) × (stated ≡ h.stated)

-- What has been made is stored where the call is not refused, and else nothing; with the number.
unfoldable pub Made : Result Head Cause → ℕ → (lists leaders stated lists' leaders' stated' : List ℕ) → Type 0
Made (Ok h) number lists leaders stated lists' leaders' stated' = (number ≡ 0) × Stored h lists' leaders' stated'
Made (Err c) number lists leaders stated lists' leaders' stated' =
    (number ≡ outcome_number (Err c)) × (lists' ≡ lists) × (leaders' ≡ leaders) × (stated' ≡ stated)

-- The same of a step or a run of steps, with the count.
unfoldable pub Left : Result Reduction Cause → SheetStepped → (lists leaders stated lists' leaders' stated' : List ℕ) → Type 0
Left (Ok run) r lists leaders stated lists' leaders' stated' = (r ≡ record { number = 0; steps = run.steps }) × Stored run.head lists' leaders' stated'
Left (Err c) r lists leaders stated lists' leaders' stated' =
    (r ≡ record { number = number_of c; steps = 0 }) × (lists' ≡ lists) × (leaders' ≡ leaders) × (stated' ≡ stated)
