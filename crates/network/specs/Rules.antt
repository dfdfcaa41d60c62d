-- Rules 1 to 3 as document 01 says them, and the trimming of document 02: what M is after the step of N in which j comes to follow i.
use Rattle.std.specs.Prelude.{true, false, ◌↔◌, ◌≡◌, ℕ, suc}
use Rattle.network.specs.Network.{Network}
use Rattle.network.specs.Pairs.{Stays}
use Rattle.network.specs.Step.{third}

pub record Rules (N : Network) (i j : ℕ) (M : Network) : Type 0 where
  -- 1. "The list of i loses each value that has no allowed partner in the list of j."
  pub rule_1 : (a : ℕ)
      → (M.domain i a ≡ true) ↔ ((N.domain i a ≡ true) × ((b : ℕ) × (N.domain j b ≡ true) × (N.allows i j a b ≡ true)))
  -- No other domain changes, but those of followers of i.
  pub rule_1_rest : (x a : ℕ) → (x ≡ i → ⊥) → (M.leader x ≡ suc i → ⊥) → M.domain x a ≡ N.domain x a
  -- "Each follow step .. now also trims the lists of all followers of the leader concerned, new ones included. A value stays in a follower's list exactly
  -- when it is the partner of a value in the leader's list" (document 02).
  pub trimming : (x b : ℕ) → M.leader x ≡ suc i
      → (M.domain x b ≡ true) ↔ ((N.domain x b ≡ true) × ((a : ℕ) × (M.domain i a ≡ true) × (M.allows i x a b ≡ true)))
  -- 2. "For each third option k stated with j, the pair i, k becomes stated. It allows (a, c) exactly when a is in the new list of i,
  -- c is in the list of k, some b in the list of j goes with both, and, if i, k was stated before, it allowed (a, c) before."
  pub rule_2_stated : (k : ℕ) → third N i j k ≡ true → M.stated i k ≡ true
  pub rule_2 : (k a c : ℕ) → third N i j k ≡ true
      → (M.allows i k a c ≡ true)
      ↔ ((M.domain i a ≡ true)
      × (N.domain k c ≡ true)
      × ((b : ℕ) × (N.domain j b ≡ true) × (N.allows i j a b ≡ true) × (N.allows j k b c ≡ true))
      × (N.stated i k ≡ true → N.allows i k a c ≡ true))
  -- The pair k, i is the same from its other side.
  pub rule_2_side : (k a c : ℕ) → third N i j k ≡ true → (M.stated k i ≡ M.stated i k) × (M.allows k i c a ≡ M.allows i k a c)
  -- "The pair j, k is then unstated and allows nothing."
  pub rule_2_gone : (k b c : ℕ) → third N i j k ≡ true
      → (M.stated j k ≡ false) × (M.stated k j ≡ false) × (M.allows j k b c ≡ false) × (M.allows k j c b ≡ false)
  -- Every other pair is as it was.
  pub rule_2_rest : (x y a b : ℕ) → Stays i j (third N i j) x y
      → (M.stated x y ≡ N.stated x y) × (M.allows x y a b ≡ N.allows x y a b)
  -- 3. "Followers of j get i as leader, and so does j."
  pub rule_3_followers : (x : ℕ) → N.leader x ≡ suc j → M.leader x ≡ suc i
  pub rule_3 : M.leader j ≡ suc i
  -- No other variable gets a leader.
  pub rule_3_rest : (x : ℕ) → (x ≡ j → ⊥) → (N.leader x ≡ suc j → ⊥) → M.leader x ≡ N.leader x
  -- Nothing else changes.
  pub same_n : M.n ≡ N.n
  pub same_size : (x : ℕ) → M.size x ≡ N.size x
