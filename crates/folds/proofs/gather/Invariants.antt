-- The word of those before `i` that pass.
use Rattle.std.proofs.Common.{Bool, ◌≡◌, ℕ, ◌<◌}
use Rattle.words.specs.Word.{word}
use Rattle.folds.proofs.gather.Given as goal

abbrev pub invariant-loop-i : goal.invariant-loop-i
invariant-loop-i g l = (p : ℕ → Bool) → ((i : ℕ) (r : Bool) → i < l.n → goal.F-post g l.test i r → r ≡ p i) → l.members ≡ word l.i p
