-- "A state is sound when": as facts over all indices (`Sound`), and as a test (`sound`).
use Rattle.std.specs.Prelude.{Bool, true, false, ◌≡◌, ℕ, suc, pred, ◌≤◌, ◌<◌, eqb, leb, ltb}
use Rattle.bounded.specs.Bool.{and, implies, not, if}
use Rattle.bounded.specs.Fold.{every, some, count}
use Rattle.network.specs.Network.{Network, free, partner}

pub record Sound (N : Network) : Type 0 where
  pub some_variable : 1 ≤ N.n
  pub sizes : (i : ℕ) → i < N.n → 1 ≤ N.size i
  pub size_past : (i : ℕ) → N.n ≤ i → N.size i ≡ 0
  pub domain_in : (i a : ℕ) → N.domain i a ≡ true → a < N.size i
  pub leader_past : (i : ℕ) → N.n ≤ i → N.leader i ≡ 0
  pub stated_in : (i j : ℕ) → N.stated i j ≡ true → (i < N.n) × (j < N.n)
  pub no_self : (i : ℕ) → N.stated i i ≡ false
  pub stated_sym : (i j : ℕ) → N.stated i j ≡ N.stated j i
  pub allows_stated : (i j a b : ℕ) → N.allows i j a b ≡ true → N.stated i j ≡ true
  pub allows_in : (i j a b : ℕ) → N.allows i j a b ≡ true → (a < N.size i) × (b < N.size j)
  pub allows_sym : (i j a b : ℕ) → N.allows i j a b ≡ N.allows j i b a
  pub leader_free : (i l : ℕ) → N.leader i ≡ suc l → (l < N.n) × (N.leader l ≡ 0)
  pub follower_stated : (i l : ℕ) → N.leader i ≡ suc l → N.stated i l ≡ true
  pub follower_only : (i l k : ℕ) → N.leader i ≡ suc l → N.stated i k ≡ true → k ≡ l
  pub follower_one : (i l a : ℕ) → N.leader i ≡ suc l → N.domain l a ≡ true → count (N.size i) (partner N l i a) ≡ 1
  -- "A value stays in a follower's list exactly when it is the partner of a value in the leader's list" (document 02).
  pub follower_trimmed : (i l b : ℕ) → N.leader i ≡ suc l → N.domain i b ≡ true → some (N.size l) (partner N i l b) ≡ true

-- What arrays for m variables, with words of w bits, can hold: nothing stands at a variable m or above, nor at a bit w or above. A bit of `stated` is a
-- variable's, and may be any below w.
pub record Bounded (m w : ℕ) (N : Network) : Type 0 where
  pub size_bound : (i : ℕ) → m ≤ i → N.size i ≡ 0
  pub leader_bound : (i : ℕ) → m ≤ i → N.leader i ≡ 0
  pub domain_bound : (i a : ℕ) → N.domain i a ≡ true → (i < m) × (a < w)
  pub stated_bound : (i j : ℕ) → N.stated i j ≡ true → (i < m) × (j < w)
  pub allows_bound : (i j a b : ℕ) → N.allows i j a b ≡ true → (i < m) × (j < m) × (a < w) × (b < w)

-- The test: m is the number of variables that an array holds, w the bits of a word, k the largest size (16, 32 and 32 today). It looks at every bit of
-- every word, whatever the sizes. A definition for each sentence.
module _ (m w k : ℕ) (N : Network) where
  -- "n is 1 to 16"
  unfoldable pub count_sound : Bool
  count_sound = and (leb 1 N.n) (leb N.n m)

  -- "sizes are 1 to 16 .. and all entries past n are zero"
  unfoldable pub sizes_sound : Bool
  sizes_sound = every m (λ (i : ℕ). if (ltb i N.n) (and (leb 1 (N.size i)) (leb (N.size i) k)) (eqb (N.size i) 0))

  -- "each list lies within its size"; past n the size is 0, so the domain is empty
  unfoldable pub domains_sound : Bool
  domains_sound = every m (λ (i : ℕ). every w (λ (a : ℕ). implies (N.domain i a) (ltb a (N.size i))))

  -- "no option is paired with itself", pairs lie below n, "a pair seen from its two options says the same"
  unfoldable pub pairs_sound : Bool
  pairs_sound =
      every m (λ (i : ℕ).
      every w (λ (j : ℕ).
      implies (N.stated i j) (and (and (ltb i N.n) (ltb j N.n)) (and (not (eqb i j)) (N.stated j i)))))

  -- "rows lie within sizes, unstated pairs allow nothing, and a pair seen from its two options says the same"
  unfoldable pub rows_sound : Bool
  rows_sound =
      every m (λ (i : ℕ).
      every m (λ (j : ℕ).
      every w (λ (a : ℕ).
      every w (λ (b : ℕ).
      implies (N.allows i j a b) (and (N.stated i j) (and (and (ltb a (N.size i)) (ltb b (N.size j))) (N.allows j i b a)))))))

  -- "a leader is a live option other than the follower"
  unfoldable pub leads : ℕ → ℕ → Bool
  leads i l = and (ltb i N.n) (and (ltb l N.n) (and (free N l) (not (eqb l i))))

  -- "a follower is stated with its leader and with no other option"
  unfoldable pub tied_to : ℕ → ℕ → Bool
  tied_to i l = and (N.stated i l) (every w (λ (u : ℕ). implies (N.stated i u) (eqb u l)))

  -- "each value in a leader's list has exactly one allowed partner in each of its followers' lists"
  unfoldable pub determines : ℕ → ℕ → Bool
  determines i l = every w (λ (a : ℕ). implies (N.domain l a) (eqb (count (N.size i) (partner N l i a)) 1))

  -- "A value stays in a follower's list exactly when it is the partner of a value in the leader's list" (document 02): each has such a value.
  unfoldable pub trimmed_to : ℕ → ℕ → Bool
  trimmed_to i l = every w (λ (b : ℕ). implies (N.domain i b) (some (N.size l) (partner N i l b)))

  -- What is asked of a follower i of l.
  unfoldable pub follower_sound : ℕ → ℕ → Bool
  follower_sound i l = and (leads i l) (and (tied_to i l) (and (determines i l) (trimmed_to i l)))

  unfoldable pub followers_sound : Bool
  followers_sound = every m (λ (i : ℕ). implies (not (free N i)) (follower_sound i (pred (N.leader i))))

  unfoldable pub sound : Bool
  sound = and count_sound (and sizes_sound (and domains_sound (and pairs_sound (and rows_sound followers_sound))))
