-- The numbers before `i` pass, or not.
use Rattle.std.proofs.Common.{Bool, ◌≡◌, ℕ, ◌<◌}
use Rattle.bounded.specs.Fold.{every}
use Rattle.folds.proofs.every.Given as goal

abbrev pub invariant-loop-i : goal.invariant-loop-i
invariant-loop-i g l = (p : ℕ → Bool) → ((i : ℕ) (r : Bool) → i < l.n → goal.F-post g l.test i r → r ≡ p i) → l.all ≡ every l.i p
