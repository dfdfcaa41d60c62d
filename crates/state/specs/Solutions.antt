-- The tester, the completer, the verdict and the search on states. A solution is a buffer of bytes, one for each variable.
use Rattle.std.specs.Prelude.{List, ℕ, eqb, length, get_or, replicate}
use Rattle.bounded.specs.Bool.{not, if}
use Rattle.bounded.specs.Table.{tabulate}
use Rattle.network.specs.Network.{solves, test_refusal}
use Rattle.network.specs.Completion.{complete_refusal, completed, verdict, shown}
use Rattle.network.specs.Search.{searched, sought, said_of, search_refusal}
use Rattle.state.specs.declared.state.State.{State}
use Rattle.state.specs.View.{view, sound_state}
use Rattle.answers.specs.Answers.{TestTold, says, refuses, VerdictTold, rules, no_verdict}

-- The values of a buffer's bytes.
unfoldable pub values_of : List ℕ → ℕ → ℕ
values_of build i = get_or build i 0

-- 9 "state not sound", then 14 "build buffer not n bytes", then the call's own.
unfoldable pub solution_refusal : State → List ℕ → ℕ → ℕ
solution_refusal s build own = if (not (sound_state s)) 9 (if (not (eqb (length build) s.n)) 14 own)

-- The tester: 9, 14, 15, and then yes or no.
unfoldable pub tested : State → List ℕ → TestTold
tested s build =
    if (eqb (solution_refusal s build (test_refusal (view s) (values_of build))) 0)
    (says (solves (view s) (values_of build)))
    (refuses (solution_refusal s build (test_refusal (view s) (values_of build))))

-- The completer's number, 9, 14, 15, 16 or 0,
unfoldable pub complete_number : State → List ℕ → ℕ
complete_number s build = solution_refusal s build (complete_refusal (view s) (values_of build))

-- and the buffer at exit: a refusal changes no byte.
unfoldable pub completed_buffer : State → List ℕ → List ℕ
completed_buffer s build = if (eqb (complete_number s build) 0) (tabulate s.n (completed (view s) (values_of build))) build

-- The verdict, and the solution of 16 values: "zero past n, and all zero with NONE or OPEN" and with a refusal.
unfoldable pub verdict_of : State → VerdictTold
verdict_of s =
    if (sound_state s)
    (rules (verdict (view s)) (tabulate 16 (shown (view s))))
    (no_verdict 9 (replicate 16 0))

-- The search's number: "It refuses with 9, and then with 23 when the product of the live list sizes exceeds 1,000,000", and else 0,
unfoldable pub search_number : State → ℕ
search_number s = if (not (sound_state s)) 9 (search_refusal (view s))

-- and what it says, NONE or BUILT: "A build is returned as the verdict's is, zero past n, and all zero with none" and with a refusal.
unfoldable pub search_of : State → VerdictTold
search_of s =
    if (eqb (search_number s) 0)
    (rules (said_of (searched (view s))) (tabulate 16 (sought (view s))))
    (no_verdict (search_number s) (replicate 16 0))
