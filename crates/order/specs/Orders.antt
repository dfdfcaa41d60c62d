-- What the test of an order and the search for one answer (document 02, L13).
use Rattle.std.specs.Prelude.{⊤, Bool, true, List, Result, Ok, Err, MatchResult, ◌≡◌, ℕ, ◌<◌, eqb, leb, length, get_or}
use Rattle.bounded.specs.Bool.{and, if}
use Rattle.bounded.specs.Fold.{every}
use Rattle.words.specs.Word.{width, has, word}
use Rattle.network.specs.Network.{Network}
use Rattle.network.specs.Order.{each_comes_once, good, governs, order_of, order_refusal, find_refusal, test_order, find_order}
use Rattle.cause.specs.declared.Cause.{Cause}
use Rattle.cause.specs.declared.Cause.TheVariants.{OrderNumbers, SolutionLength}

-- R says who has a path to whom, and `over` who governs each of n variables, as a word.
pub record Governed (n : ℕ) (R : ℕ → ℕ → Bool) (over : List ℕ) : Type 0 where
  pub self : (x : ℕ) → R x x ≡ true
  pub join : (x y z : ℕ) → R x y ≡ true → R y z ≡ true → R x z ≡ true
  pub over_is : (i v : ℕ) → i < n → v < width → has (get_or over i 0) v ≡ governs n R v i

-- i may come next: it is left, and none that is left is over it.
unfoldable pub may_come : ℕ → ℕ → ℕ → Bool
may_come left over i = and (has left i) (eqb (word width (λ (v : ℕ). and (has left v) (has over v))) 0)

-- "each option exactly once and nothing else"
unfoldable pub lists_each : ℕ → List ℕ → Bool
lists_each n l = and (eqb (length l) n) (and (every n (λ (p : ℕ). leb 1 (get_or l p 0))) (each_comes_once n (order_of l)))

unfoldable pub tested_in : ℕ → (ℕ → ℕ → Bool) → List ℕ → Result Bool Cause
tested_in n R l = if (lists_each n l) (Ok (good n R (order_of l))) (Err OrderNumbers)

-- The test of a list: refused with 30, or whether it is good.
unfoldable pub order_tested : Network → List ℕ → Result Bool Cause
order_tested N l = if (eqb (order_refusal N l) 0) (Ok (test_order N l)) (Err OrderNumbers)

-- The search for an order into a buffer of so many bytes: 14 refuses it, and nothing else does.
abbrev pub OrderFound : Network → ℕ → Result ⊤ Cause → Type 0
OrderFound N long r = MatchResult r (λ done. find_refusal N long ≡ 0) (λ cause. (find_refusal N long ≡ 0 → ⊥) × (cause ≡ SolutionLength))

-- The buffer after the search: the order that is found, or the buffer as it was where 14 refuses it.
unfoldable pub found_buffer : Network → List ℕ → List ℕ
found_buffer N buffer = if (eqb (find_refusal N (length buffer)) 0) (find_order N) buffer
