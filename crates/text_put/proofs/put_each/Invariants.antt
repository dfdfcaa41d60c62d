use Rattle.std.proofs.Common.{List, ℕ, ◌<◌, ◌≤◌, MutBor}
use Rattle.text_put.specs.Put.{Put, each}
use Rattle.text_put.proofs.put_each.Given as goal

-- The texts of the numbers before `i` are put.
abbrev pub invariant-loop-i : goal.invariant-loop-i
invariant-loop-i g l =
    (l.i ≤ l.fn.n)
    × ((text : ℕ → List ℕ)
    → ((before : MutBor (List ℕ)) (after : MutBor (List ℕ)) (next i r : ℕ) → i < l.fn.n → goal.F-post g l.fn.put before next i r after
    → Put before.now after.now (text i) next r)
    → Put l.fn.buffer l.buffer (each text l.i) l.fn.at l.next)
