-- What soundness does not fix: the domains of free variables, on every sound network and not only on those that calls hand back.
use Rattle.std.specs.Prelude.{Bool, true, false, [], ◌∷◌, ◌≡◌, ℕ, eqb}
use Rattle.bounded.specs.Bool.{and, if}
use Rattle.network.specs.Network.{Network, free}
use Rattle.network.specs.Sound.{Sound}
use Rattle.network.specs.Step.{legal, relisted, followers_trimmed, followed}
use Rattle.network.specs.Sheet.{network_of}

-- N with the values of i that pass p alone.
unfoldable pub narrowed : Network → ℕ → (ℕ → Bool) → Network
narrowed N i p = relisted N (λ (x a : ℕ). if (eqb x i) (and (N.domain x a) (p a)) (N.domain x a))

-- Sheet I, its one domain empty.
unfoldable pub empty_list_network : Network
empty_list_network = narrowed (network_of (record { sizes = 1 ∷ []; tables = [] })) 0 (λ (a : ℕ). false)

-- Sheet H, the domain of its first variable short of value 1: nobody follows.
unfoldable pub short_list_network : Network
short_list_network = narrowed (network_of (record { sizes = 2 ∷ 2 ∷ []; tables = [] })) 0 (λ (a : ℕ). eqb a 0)

-- Two variables of one value, and a table between them that allows nothing.
unfoldable pub blank_table : Network
blank_table = network_of (record { sizes = 1 ∷ 1 ∷ []; tables = record { first = 1; second = 2; rows = 0 ∷ [] } ∷ [] })

-- The domain of i is empty.
abbrev pub Empty : Network → ℕ → Type 0
Empty N i = (a : ℕ) → N.domain i a ≡ false

pub record ListsFree : Type 0 where
  -- A free variable's domain may lose any values, whatever the others are, if the domains of its followers are trimmed with it.
  pub any_part : (N : Network) → Sound N → (i : ℕ) → free N i ≡ true → (p : ℕ → Bool) → Sound (followers_trimmed (narrowed N i p))
  -- So a domain may be short where nobody follows,
  pub short_sound : Sound short_list_network
  pub short_list : short_list_network.domain 0 1 ≡ false
  pub nobody_follows : (i : ℕ) → short_list_network.leader i ≡ 0
  -- and "An empty list is allowed in a sound state",
  pub empty_sound : Sound empty_list_network
  pub empty_list : Empty empty_list_network 0
  -- "since a step may produce one".
  pub step_legal : (Sound blank_table) × (legal blank_table 0 1 ≡ true)
  pub step_sound : Sound (followed blank_table 0 1)
  pub step_empties : (Empty (followed blank_table 0 1) 0) × (Empty (followed blank_table 0 1) 1)
