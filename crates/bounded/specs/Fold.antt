-- Tests over the numbers 0 to n - 1.
use Rattle.std.specs.Prelude.{Bool, true, false, ℕ, zero, suc, ◌+◌, ◌*◌}
use Rattle.bounded.specs.Bool.{and, or, bit, if}

-- Every number below n passes p.
unfoldable pub every : ℕ → (ℕ → Bool) → Bool
every zero p = true
every (suc n) p = and (p n) (every n p)

-- Some number below n passes p.
unfoldable pub some : ℕ → (ℕ → Bool) → Bool
some zero p = false
some (suc n) p = or (p n) (some n p)

-- The sum of f over the numbers below n.
unfoldable pub sum : ℕ → (ℕ → ℕ) → ℕ
sum zero f = 0
sum (suc n) f = f n + sum n f

-- The product of f over the numbers below n.
unfoldable pub product : ℕ → (ℕ → ℕ) → ℕ
product zero f = 1
product (suc n) f = f n * product n f

-- How many numbers below n pass p.
unfoldable pub count : ℕ → (ℕ → Bool) → ℕ
count n p = sum n (λ (k : ℕ). bit (p k))

-- The lowest number below n that passes p, or n where none does.
unfoldable pub first : ℕ → (ℕ → Bool) → ℕ
first zero p = zero
first (suc n) p = if (p zero) zero (suc (first n (λ (k : ℕ). p (suc k))))
