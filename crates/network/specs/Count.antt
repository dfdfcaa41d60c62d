-- Numbers of solutions and of choices, counted over all tuples of values.
use Rattle.std.specs.Prelude.{Bool, ℕ, zero, suc, eqb}
use Rattle.bounded.specs.Bool.{and, bit, if}
use Rattle.bounded.specs.Fold.{sum}
use Rattle.network.specs.Network.{Network, free, solves}
use Rattle.network.specs.Completion.{allowed_choice}

-- f with v at i.
unfoldable pub put : (ℕ → ℕ) → ℕ → ℕ → ℕ → ℕ
put f i v k = if (eqb k i) v (f k)

-- The sum of w over all tuples of values below the sizes s at 0 to n - 1; past n a tuple is as f.
unfoldable pub sum_tuples : ℕ → (ℕ → ℕ) → ((ℕ → ℕ) → ℕ) → (ℕ → ℕ) → ℕ
sum_tuples zero s w f = w f
sum_tuples (suc n) s w f = sum (s n) (λ (v : ℕ). sum_tuples n s w (put f n v))

-- How many tuples pass a test.
unfoldable pub count_tuples : ℕ → (ℕ → ℕ) → ((ℕ → ℕ) → Bool) → ℕ
count_tuples n s p = sum_tuples n s (λ (f : ℕ → ℕ). bit (p f)) (λ (i : ℕ). 0)

-- "builds by their n bytes": how many solutions there are that pass p.
unfoldable pub solution_count : Network → ((ℕ → ℕ) → Bool) → ℕ
solution_count N p = count_tuples N.n N.size (λ (f : ℕ → ℕ). and (solves N f) (p f))

-- "Choices are told apart by the values of live options": an eliminated variable has one value, 0, in the tuples that are counted.
unfoldable pub choice_size : Network → ℕ → ℕ
choice_size N i = if (free N i) (N.size i) 1

-- How many allowed choices there are.
unfoldable pub choice_count : Network → ℕ
choice_count N = count_tuples N.n (choice_size N) (allowed_choice N)
