-- Pairs of variables of which, for each k of a set T, what stood at j, k has gone to i, k, and from k, j to k, i.
use Rattle.std.specs.Prelude.{Bool, false, ◌≡◌, ℕ}

-- A pair that stays: neither i, k nor j, k for a k of T, from either side.
pub record Stays (i j : ℕ) (T : ℕ → Bool) (x y : ℕ) : Type 0 where
  pub left_i : x ≡ i → T y ≡ false
  pub right_i : y ≡ i → T x ≡ false
  pub left_j : x ≡ j → T y ≡ false
  pub right_j : y ≡ j → T x ≡ false
