-- What a call that hands a state back answers: one definition for all of them.
use Rattle.std.specs.Prelude.{ℕ, eqb}
use Rattle.bounded.specs.Bool.{if}
use Rattle.network.specs.Calls.{Call, refuses, made}
use Rattle.state.specs.declared.state.State.{State}
use Rattle.state.specs.View.{view, pack, sound_state}
use Rattle.state.specs.Answers.{Told}

-- "a refusal hands back the state given, with numbers 9 to 13 .. alike"; its count is 0.
unfoldable pub refused : ℕ → State → Told
refused number s = record { number = number; state = s; steps = 0 }

-- "Other calls test 9 first and then upward".
unfoldable pub call_refusal : State → Call → ℕ
call_refusal s c = if (sound_state s) (refuses (view s) c) 9

-- A call that is not refused gives exactly the state of the network that it makes, and its count of steps.
unfoldable pub called : State → Call → Told
called s c =
    if (eqb (call_refusal s c) 0)
    (record { number = 0; state = pack (made (view s) c).network; steps = (made (view s) c).steps })
    (refused (call_refusal s c) s)
