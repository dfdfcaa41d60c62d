-- What holds of every element of a list.
use mathlib.Core.List.{List, ◌++◌}
use Prim.Native.Nat.{ℕ, zero, suc, ◌+◌, ◌≤◌, ◌<◌}
use native.Mathlib.Omega.{arith}
use lib.ListN.{length, get_or}
use Rattle.bounded.specs.Table.{tabulate}
use Rattle.network.specs.Sheet.{collect}
use Rattle.format.specs.WellFormed.{All, none, more}

module _ {A : Type 0} {P : A → Type 0} where
  pub all_get_d : {l : List A} → All P l → (k : ℕ) (d : A) → k < length l → P (get_or l k d)
  all_get_d none k d h = absurd (let x : ⊥ = omega arith in x)
  all_get_d (more p ps) zero d h = p
  all_get_d (more p ps) (suc k) d h = all_get_d ps k d (omega arith)

  pub all_map : {Q : A → Type 0} {l : List A} → ((x : A) → P x → Q x) → All P l → All Q l
  all_map f none = none
  all_map f (more p ps) = more (f _ p) (all_map f ps)

  pub all_append : {xs ys : List A} → All P xs → All P ys → All P (xs ++ ys)
  all_append none h = h
  all_append (more p ps) h = more p (all_append ps h)

  pub all-tabulate : (n : ℕ) (f : ℕ → A) → ((k : ℕ) → k < n → P (f k)) → All P (tabulate n f)
  unfolding tabulate
  all-tabulate zero f h = none
  all-tabulate (suc n) f h = more (h zero (omega arith)) (all-tabulate n (λ (k : ℕ). f (suc k)) (λ k l. h (suc k) (omega arith)))

  pub all-collect : (f : ℕ → List A) (c k : ℕ) → ((l : ℕ) → k ≤ l → l < k + c → All P (f l)) → All P (collect c k f)
  unfolding collect
  all-collect f zero k h = none
  all-collect f (suc c) k h = all_append (h k (omega arith) (omega arith)) (all-collect f c (suc k) (λ l a b. h l (omega arith) (omega arith)))
