-- The turns of the search: choices of the free variables from k on, within domains that the choices below k have narrowed. What each function of the
-- search promises, down to k = n.
use Rattle.std.specs.Prelude.{Bool, true, false, ◌≡◌, ℕ, ◌≤◌, ◌<◌}
use Rattle.bounded.specs.Bool.{and, implies}
use Rattle.network.specs.Network.{Network, free}

-- "It is allowed when each value is in its option's list and each stated pair of two live options allows its two values", from k on and within the
-- domains D. Each pair is read from its lower variable.
pub record ChoiceFrom (N : Network) (D : ℕ → ℕ → Bool) (k : ℕ) (f : ℕ → ℕ) : Type 0 where
  pub listed : (i : ℕ) → k ≤ i → i < N.n → free N i ≡ true → D i (f i) ≡ true
  pub allowed : (i j : ℕ) → k ≤ i → i < j → j < N.n → free N i ≡ true → free N j ≡ true → N.stated i j ≡ true → N.allows i j (f i) (f j) ≡ true

-- f is not after g, from k on: "live options compared in ascending number and lower values first".
abbrev pub UptoFrom : Network → ℕ → (ℕ → ℕ) → (ℕ → ℕ) → Type 0
UptoFrom N k f g =
    (x : ℕ) → k ≤ x → x < N.n → free N x ≡ true
    → ((i : ℕ) → k ≤ i → i < x → free N i ≡ true → f i ≡ g i)
    → f x ≤ g x

-- f is the first choice from k on if one is found, and else there is none.
pub record FirstFrom (N : Network) (D : ℕ → ℕ → Bool) (k : ℕ) (found : Bool) (f : ℕ → ℕ) : Type 0 where
  pub found_is : found ≡ true → ChoiceFrom N D k f
  pub found_first : found ≡ true → (g : ℕ → ℕ) → ChoiceFrom N D k g → UptoFrom N k f g
  pub none_is : found ≡ false → (g : ℕ → ℕ) → ChoiceFrom N D k g → ⊥

-- The domains E of the free variables after k are those of D once k has taken the value v. Those of other variables do not count.
pub record Narrows (N : Network) (D : ℕ → ℕ → Bool) (k v : ℕ) (E : ℕ → ℕ → Bool) : Type 0 where
  pub later : (j u : ℕ) → k < j → j < N.n → free N j ≡ true → E j u ≡ and (D j u) (implies (N.stated k j) (N.allows k j v u))
