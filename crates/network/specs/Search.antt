-- The search: "We want a search over the live options that finds the first build, live options compared in ascending number and lower values first, or says
-- there is none" (document 02).
use Rattle.std.specs.Prelude.{Bool, true, false, ◌↔◌, ◌≡◌, ℕ, zero, suc, eqb, ltb}
use Rattle.bounded.specs.Bool.{and, implies, if}
use Rattle.bounded.specs.Fold.{every, some, product, count}
use Rattle.network.specs.Network.{Network, free, solves}
use Rattle.network.specs.Completion.{completed, allowed_choice, Verdict, NONE, BUILT, verdict, shown}
use Rattle.network.specs.Count.{put}

-- f and g have the same values at the free variables below x.
unfoldable pub same_below : Network → ℕ → (ℕ → ℕ) → (ℕ → ℕ) → Bool
same_below N x f g = every x (λ (i : ℕ). implies (free N i) (eqb (f i) (g i)))

-- "live options compared in ascending number and lower values first": f comes before g where, at the lowest free variable at which they differ, f has the
-- lower value.
unfoldable pub precedes : Network → (ℕ → ℕ) → (ℕ → ℕ) → Bool
precedes N f g = some N.n (λ (x : ℕ). and (free N x) (and (ltb (f x) (g x)) (same_below N x f g)))

-- The first choice: f is allowed, and no allowed choice comes before it.
pub record IsFirst (N : Network) (f : ℕ → ℕ) : Type 0 where
  pub is_allowed : allowed_choice N f ≡ true
  pub none_before : (g : ℕ → ℕ) → allowed_choice N g ≡ true → precedes N g f ≡ false

-- What a search says: a choice of the free variables, or that "there is none".
pub data Sought : Type 0 where
  none : Sought
  found : (ℕ → ℕ) → Sought

-- What is found, and else r.
unfoldable pub or_else : Sought → Sought → Sought
or_else none r = r
or_else (found f) r = found f

-- The first that is found of s 0, s 1, .., s (n - 1).
unfoldable pub first_found_in : ℕ → (ℕ → Sought) → Sought
first_found_in zero s = none
first_found_in (suc n) s = or_else (s zero) (first_found_in n (λ (v : ℕ). s (suc v)))

-- "It picks the next option, tries its values, and so on down": the `left` variables from k on are to be chosen yet, f has the values chosen before.
unfoldable pub search_from : Network → ℕ → ℕ → (ℕ → ℕ) → Sought
search_from N zero k f = if (allowed_choice N f) (found f) none
search_from N (suc left) k f =
    if (free N k)
    (first_found_in (N.size k) (λ (v : ℕ). search_from N left (suc k) (put f k v)))
    (search_from N left (suc k) f)

-- The choice that is found has 0 at eliminated variables and past n.
unfoldable pub searched : Network → Sought
searched N = search_from N N.n 0 (λ (i : ℕ). 0)

-- "A build is returned as the verdict's is, zero past n, and all zero with none."
unfoldable pub returned : Network → Sought → ℕ → ℕ
returned N none i = 0
returned N (found f) i = if (ltb i N.n) (completed N f i) 0

-- What is said, in the words of the verdict: that there is none, or that one is built.
unfoldable pub said_of : Sought → Verdict
said_of none = NONE
said_of (found f) = BUILT

unfoldable pub sought : Network → ℕ → ℕ
sought N = returned N (searched N)

-- How many values are open to a variable: those in its domain, if it is free. An eliminated one has no choice: 1.
unfoldable pub open_values : Network → ℕ → ℕ
open_values N i = if (free N i) (count (N.size i) (N.domain i)) 1

-- "the product of the live list sizes .. an empty list makes that product 0"
unfoldable pub choice_product : Network → ℕ
choice_product N = product N.n (open_values N)

-- "It refuses with 9, and then with 23 when the product of the live list sizes exceeds 1,000,000". (9 goes by the state.)
unfoldable pub search_refusal : Network → ℕ
search_refusal N = if (ltb 1000000 (choice_product N)) 23 0

-- What the search says is right of N: "finds the first build, .. or says there is none", over choices.
pub record Settles (N : Network) (r : Sought) : Type 0 where
  pub found_first : (f : ℕ → ℕ) → r ≡ found f → IsFirst N f
  pub none_exactly : (r ≡ none) ↔ ((f : ℕ → ℕ) → allowed_choice N f ≡ false)

-- And over solutions, where M stands for N with p added (`Keeps`):
pub record Settled (N M : Network) (p : (ℕ → ℕ) → Bool) : Type 0 where
  -- "It says none exactly when the state has no build, and so, for a state that demand 3's list of calls hands back, the sheet with its added tables has
  -- none."
  pub none_exactly : (searched M ≡ none) ↔ ((f : ℕ → ℕ) → and (solves N f) (p f) ≡ false)
  -- Otherwise what is returned is a solution,
  pub returns_solution : (searched M ≡ none → ⊥) → and (solves N (sought M)) (p (sought M)) ≡ true
  -- and it is "the first build, live options compared in ascending number and lower values first".
  pub returns_first : (g : ℕ → ℕ) → and (solves N g) (p g) ≡ true → precedes M g (sought M) ≡ false

-- The search and the verdict.
pub record AsVerdict (N : Network) : Type 0 where
  -- "an empty list makes that product 0": the verdict is NONE exactly then,
  pub none_exactly : (verdict N ≡ NONE) ↔ (choice_product N ≡ 0)
  -- and so the search says none and does not refuse.
  pub none_alike : verdict N ≡ NONE → (searched N ≡ none) × (search_refusal N ≡ 0)
  -- Where the verdict is BUILT both show the same.
  pub built_alike : verdict N ≡ BUILT → (searched N ≡ none → ⊥) × ((i : ℕ) → sought N i ≡ shown N i)
