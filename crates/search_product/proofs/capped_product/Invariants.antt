-- The product of the factors before `i`, capped.
use Rattle.std.proofs.Common.{◌≡◌, ℕ, min, ◌<◌}
use Rattle.bounded.specs.Fold.{product}
use Rattle.search_product.proofs.capped_product.Given as goal

abbrev pub invariant-loop-i : goal.invariant-loop-i
invariant-loop-i g l = (f : ℕ → ℕ) → ((i : ℕ) (x : ℕ) → i < l.n → goal.F-post g l.factor i x → x ≡ f i) → l.choices ≡ min (product l.i f) 1000001
