-- Document 01's number and values for each case of an answer. Number 0 stands for "not refused".
use Rattle.std.specs.Prelude.{Bool, false, List, ℕ, Result, Ok, Err, replicate}
use Rattle.cause.specs.declared.Cause.{Cause}
use Rattle.cause.specs.declared.Refusal.{Refusal}
use Rattle.cause.specs.Number.{number_of}
use Rattle.network.specs.Completion.{NONE, BUILT, OPEN}
use Rattle.network.specs.Completion as network
use Rattle.answers.specs.declared.Verdict.{Verdict}
use Rattle.answers.specs.declared.Verdict.TheVariants as verdict

-- The number that refuses, of any call whose answer is refused by a cause alone.
unfoldable pub refused_with : {T : Type 0} → Result T Cause → ℕ
refused_with (Ok x) = 0
refused_with (Err c) = number_of c

-- Reading: number and place.
unfoldable pub number_read : Result (Unit {0}) Refusal → ℕ
number_read (Ok x) = 0
number_read (Err r) = number_of r.cause

unfoldable pub read_place : Result (Unit {0}) Refusal → ℕ
read_place (Ok x) = 0
read_place (Err r) = r.place

-- A step, a reduction or a completion.
unfoldable pub outcome_number : Result (Unit {0}) Cause → ℕ
outcome_number (Ok x) = 0
outcome_number (Err c) = number_of c

-- Writing: number and length.
pub record WriteTold : Type 0 where
  pub number : ℕ
  pub length : ℕ

unfoldable pub write_told : Result ℕ Cause → WriteTold
write_told (Ok k) = record { number = 0; length = k }
write_told (Err c) = record { number = number_of c; length = 0 }

-- Testing: yes, no, or refused with a number.
pub data TestTold : Type 0 where
  says : Bool → TestTold
  refuses : ℕ → TestTold

unfoldable pub test_told : Result Bool Cause → TestTold
test_told (Ok b) = says b
test_told (Err c) = refuses (number_of c)

unfoldable pub test_number : TestTold → ℕ
test_number (says b) = 0
test_number (refuses k) = k

-- A refusal says no.
unfoldable pub test_agrees : TestTold → Bool
test_agrees (says b) = b
test_agrees (refuses k) = false

-- The value of a follower: number and value.
pub record ValueTold : Type 0 where
  pub number : ℕ
  pub value : ℕ

unfoldable pub value_told : Result ℕ Cause → ValueTold
value_told (Ok v) = record { number = 0; value = v }
value_told (Err c) = record { number = number_of c; value = 0 }

-- The verdict: NONE, BUILT, OPEN, or refused with a number, and the solution shown, of 16 values.
pub data VerdictTold : Type 0 where
  rules : network.Verdict → List ℕ → VerdictTold
  no_verdict : ℕ → List ℕ → VerdictTold

-- No solution is shown.
abbrev pub nothing_shown : List ℕ
nothing_shown = replicate 16 0

unfoldable pub verdict_told : Result Verdict Cause → VerdictTold
verdict_told (Ok verdict.None) = rules NONE nothing_shown
verdict_told (Ok (verdict.Built build)) = rules BUILT build
verdict_told (Ok verdict.Open) = rules OPEN nothing_shown
verdict_told (Err c) = no_verdict (number_of c) nothing_shown

unfoldable pub verdict_number : VerdictTold → ℕ
verdict_number (rules v build) = 0
verdict_number (no_verdict k build) = k

-- NONE is 1, BUILT 2 and OPEN 3; "any other part of a refused answer is zero", so that a refusal is no verdict.
unfoldable pub kind_of : network.Verdict → ℕ
kind_of NONE = 1
kind_of BUILT = 2
kind_of OPEN = 3

unfoldable pub verdict_kind : VerdictTold → ℕ
verdict_kind (rules v build) = kind_of v
verdict_kind (no_verdict k build) = 0

unfoldable pub verdict_solution : VerdictTold → List ℕ
verdict_solution (rules v build) = build
verdict_solution (no_verdict k build) = build
