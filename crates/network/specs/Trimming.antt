-- "Trim the live lists against each other": "A value of a live option that has no partner in some live neighbour should vanish .. Remove such values until
-- none is left" (document 02), and the reduction that alternates with it.
use Rattle.std.specs.Prelude.{Bool, true, false, ◌≡◌, ℕ, zero, suc, ◌+◌, eqb}
use Rattle.bounded.specs.Bool.{and, implies, if}
use Rattle.bounded.specs.Fold.{every, some, sum, count}
use Rattle.network.specs.Network.{Network, free}
use Rattle.network.specs.Step.{relisted, followers_trimmed}
use Rattle.network.specs.Reduction.{Reduced, reducible, reduce}

-- A choice of lists, one for each free variable: D i a says that value a is in the list of i. What it says of other variables does not count.
abbrev pub Lists : Type 0
Lists = ℕ → ℕ → Bool

-- "every value has a partner in each stated live pair"
abbrev pub Partnered : Network → Lists → Type 0
Partnered N D =
    (i j a : ℕ) → free N i ≡ true → free N j ≡ true → N.stated i j ≡ true → D i a ≡ true
    → (b : ℕ) × (D j b ≡ true) × (N.allows i j a b ≡ true)

-- The lists D lie within the lists E.
abbrev pub Within : Network → Lists → Lists → Type 0
Within N D E = (i a : ℕ) → free N i ≡ true → D i a ≡ true → E i a ≡ true

-- Values were removed from the given lists, and no choice of lists that the sentence speaks of has lost one. So it is at the start and after each removal,
-- in whatever order.
pub record Cut (N : Network) (D : Lists) : Type 0 where
  pub within : Within N D N.domain
  pub none_lost : (E : Lists) → Within N E N.domain → Partnered N E → Within N E D

-- "What remains is the largest choice of lists within the given ones in which every value has a partner in each stated live pair."
pub record Largest (N : Network) (D : Lists) : Type 0 where
  pub cut : Cut N D
  pub partnered : Partnered N D

-- From D to E only values are removed that have no partner in some live neighbour.
pub record Removes (N : Network) (D E : Lists) : Type 0 where
  pub fewer : Within N E D
  pub cause : (i a : ℕ) → free N i ≡ true → D i a ≡ true → E i a ≡ false
      → (j : ℕ) × (free N j ≡ true) × (N.stated i j ≡ true) × ((b : ℕ) → D j b ≡ true → N.allows i j a b ≡ false)

module _ (N : Network) where
  -- Value a of i "has a partner in each stated live pair", within the lists D.
  unfoldable pub supported : Lists → ℕ → ℕ → Bool
  supported D i a =
      every N.n (λ (j : ℕ).
      implies (and (free N j) (N.stated i j)) (some (N.size j) (λ (b : ℕ). and (D j b) (N.allows i j a b))))

  -- "every value has a partner in each stated live pair"
  unfoldable pub consistent : Lists → Bool
  consistent D = every N.n (λ (i : ℕ). every (N.size i) (λ (a : ℕ). implies (and (free N i) (D i a)) (supported D i a)))

  -- One pass: every free variable's list loses the values that have no partner in some live neighbour.
  unfoldable pub pass : Lists → Lists
  pass D i a = and (D i a) (implies (free N i) (supported D i a))

  -- "Remove such values until none is left": at most so many passes.
  unfoldable pub passes_within : ℕ → Lists → Lists
  passes_within zero D = D
  passes_within (suc most) D = if (consistent D) D (passes_within most (pass D))

  -- How many values there are in all lists. A pass that is needed removes one.
  unfoldable pub value_count : Lists → ℕ
  value_count D = sum N.n (λ (i : ℕ). count (N.size i) (D i))

  -- What remains.
  unfoldable pub largest : Lists
  largest = passes_within (value_count N.domain) N.domain

  -- The network with these lists, the followers' trimmed with them (L8).
  unfoldable pub live_trimmed : Network
  live_trimmed = followers_trimmed (relisted N largest)

-- So many steps before.
unfoldable pub more_steps : ℕ → Reduced → Reduced
more_steps k r = record { network = r.network; steps = k + r.steps }

-- "This trimming comes first; then reduce fully, and alternate until neither changes anything. The state and the total number of follow steps come back."
-- A reduction that takes no step changes nothing, and then the trimming before it would change nothing either. Each round but the last takes a free
-- variable, so n rounds are as many as there can be.
unfoldable pub alternate_within : ℕ → Network → Reduced
alternate_within zero N = record { network = live_trimmed N; steps = 0 }
alternate_within (suc most) N =
    if (eqb (reduce (live_trimmed N)).steps 0)
    (reduce (live_trimmed N))
    (more_steps (reduce (live_trimmed N)).steps (alternate_within most (reduce (live_trimmed N)).network))

unfoldable pub alternate : Network → Reduced
alternate N = alternate_within N.n N

-- Trimming and reducing in turn as rounds, with no bound on them.
pub data Rounds : Network → Network → ℕ → Type 0 where
  last : {N : Network} → (reduce (live_trimmed N)).steps ≡ 0 → Rounds N (live_trimmed N) 0
  then : {N M : Network} {k : ℕ} → ((reduce (live_trimmed N)).steps ≡ 0 → ⊥) → Rounds (reduce (live_trimmed N)).network M k
      → Rounds N M ((reduce (live_trimmed N)).steps + k)

-- "until neither changes anything"
pub record Rests (M : Network) : Type 0 where
  pub lists_rest : live_trimmed M ≡ M
  pub steps_rest : reduce M ≡ record { network = M; steps = 0 }
  -- that is: every value of a live list has a partner in each stated live pair, and no step is legal
  pub all_partnered : Partnered M M.domain
  pub none_legal : reducible M ≡ false
