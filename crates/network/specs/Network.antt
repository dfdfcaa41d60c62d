-- A binary constraint network (source document 000, section 2), with the marks of document 01's state.
use Rattle.std.specs.Prelude.{Bool, ℕ, eqb, leb, ltb}
use Rattle.bounded.specs.Bool.{and, implies, if}
use Rattle.bounded.specs.Fold.{every, count}

-- Variables ("options") count from 0 here, and so do values. What stands past n or past a size is fixed by `Sound`.
pub record Network : Type 0 where
  pub n : ℕ  -- how many variables
  pub size : ℕ → ℕ  -- how many values a variable has
  pub domain : ℕ → ℕ → Bool  -- the values still open, its "list"
  pub leader : ℕ → ℕ  -- 0: free ("live"); suc l: eliminated, it follows l
  pub stated : ℕ → ℕ → Bool  -- the pair has a constraint ("table")
  pub allows : ℕ → ℕ → ℕ → ℕ → Bool  -- allows i j a b: value a of i goes with value b of j

-- A variable that follows nobody: "live".
unfoldable pub free : Network → ℕ → Bool
free N i = eqb (N.leader i) 0

-- b is in the domain of j and goes with value a of i: "allowed partner in the list of j".
unfoldable pub partner : Network → ℕ → ℕ → ℕ → ℕ → Bool
partner N i j a b = and (N.domain j b) (N.allows i j a b)

-- "The table is functional from i to j when no value in the list of i has more than one allowed partner in the list of j."
unfoldable pub functional : Network → ℕ → ℕ → Bool
functional N i j = every (N.size i) (λ (a : ℕ). implies (N.domain i a) (leb (count (N.size j) (partner N i j a)) 1))

-- "Each value is in its option's list."
unfoldable pub in_domains : Network → (ℕ → ℕ) → Bool
in_domains N f = every N.n (λ (i : ℕ). N.domain i (f i))

-- "Each stated pair allows its two values."
unfoldable pub pairs_allow : Network → (ℕ → ℕ) → Bool
pairs_allow N f = every N.n (λ (i : ℕ). every N.n (λ (j : ℕ). implies (N.stated i j) (N.allows i j (f i) (f j))))

-- "The tester says yes exactly when each value is in its option's list and each stated pair allows its two values": f is a solution ("build").
unfoldable pub solves : Network → (ℕ → ℕ) → Bool
solves N f = and (in_domains N f) (pairs_allow N f)

-- The tester's refusal: 15 where a value is at or above its size, else 0.
unfoldable pub test_refusal : Network → (ℕ → ℕ) → ℕ
test_refusal N f = if (every N.n (λ (i : ℕ). ltb (f i) (N.size i))) 0 15
