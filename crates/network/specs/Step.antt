-- One follow step: j is to follow i. The refusals, decided here once, the rules 1 to 3, and the trimming of followers' lists.
use Rattle.std.specs.Prelude.{Bool, true, false, ◌≡◌, ℕ, suc, pred, ◌<◌, eqb, ltb}
use Rattle.bounded.specs.Bool.{and, or, implies, not, if}
use Rattle.bounded.specs.Fold.{some}
use Rattle.network.specs.Network.{Network, free, partner, functional}

-- A variable's number, counted from 1, that is "0 or above n".
unfoldable pub outside : Network → ℕ → Bool
outside N x = or (eqb x 0) (ltb N.n x)

-- The number that refuses the step, variables counted from 1, or 0 for a legal step. Tested upward:
-- 10 "option number 0 or above n", 11 "the two options equal, or one not live", 12 "pair not stated", 13 "not functional from leader to follower".
unfoldable pub refusal : Network → ℕ → ℕ → ℕ
refusal N l f =
    if (or (outside N l) (outside N f)) 10
    (if (or (eqb l f) (or (not (free N (pred l))) (not (free N (pred f))))) 11
    (if (not (N.stated (pred l) (pred f))) 12
    (if (not (functional N (pred l) (pred f))) 13
    0)))

-- The step is legal: variables counted from 0.
unfoldable pub legal : Network → ℕ → ℕ → Bool
legal N i j = eqb (refusal N (suc i) (suc j)) 0

module _ (N : Network) (i j : ℕ) where
  -- Rule 1: "The list of i loses each value that has no allowed partner in the list of j."
  unfoldable pub trimmed : ℕ → Bool
  trimmed a = and (N.domain i a) (some (N.size j) (partner N i j a))

  -- "third option k stated with j"
  unfoldable pub third : ℕ → Bool
  third k = and (N.stated j k) (and (not (eqb k i)) (not (eqb k j)))

  -- "some b in the list of j goes with both"
  unfoldable pub joined : ℕ → ℕ → ℕ → Bool
  joined k a c = some (N.size j) (λ (b : ℕ). and (N.domain j b) (and (N.allows i j a b) (N.allows j k b c)))

  -- Rule 2: "It allows (a, c) exactly when a is in the new list of i, c is in the list of k, some b in the list of j goes with both,
  -- and, if i, k was stated before, it allowed (a, c) before." The last is handed in, read from the side that is being defined.
  unfoldable pub composed : ℕ → ℕ → ℕ → Bool → Bool
  composed k a c before = and (and (trimmed a) (N.domain k c)) (and (joined k a c) before)

  -- Rules 1 to 3. "The pair i, k becomes stated .. The pair j, k is then unstated and allows nothing."
  -- Rule 3: "Followers of j get i as leader, and so does j."
  unfoldable pub eliminate : Network
  eliminate =
      record {
        n = N.n;
        size = N.size;
        domain = λ (x a : ℕ). if (eqb x i) (trimmed a) (N.domain x a);
        leader = λ (x : ℕ). if (or (eqb x j) (eqb (N.leader x) (suc j))) (suc i) (N.leader x);
        stated =
            λ (x y : ℕ).
            if (or (and (eqb x i) (third y)) (and (eqb y i) (third x))) true
            (if (or (and (eqb x j) (third y)) (and (eqb y j) (third x))) false (N.stated x y));
        allows =
            λ (x y a b : ℕ).
            if (and (eqb x i) (third y)) (composed y a b (implies (N.stated x y) (N.allows x y a b)))
            (if (and (eqb y i) (third x)) (composed x b a (implies (N.stated x y) (N.allows x y a b)))
            (if (or (and (eqb x j) (third y)) (and (eqb y j) (third x))) false (N.allows x y a b)));
      }

-- N with other domains.
unfoldable pub relisted : Network → (ℕ → ℕ → Bool) → Network
relisted N D =
    record {
      n = N.n;
      size = N.size;
      domain = D;
      leader = N.leader;
      stated = N.stated;
      allows = N.allows;
    }

-- "trims the lists of all followers .. A value stays in a follower's list exactly when it is the partner of a value in the leader's list"
-- (document 02): rule 1, with the follower in the place of i and its leader in that of j.
unfoldable pub followers_trimmed : Network → Network
followers_trimmed N = relisted N (λ (x b : ℕ). if (free N x) (N.domain x b) (trimmed N x (pred (N.leader x)) b))

-- What the trimming asks of a network, sound or on the way between two that are: each follower's list can be trimmed by itself, in any order.
pub record Trimmable (M : Network) : Type 0 where
  pub values_in : (x a : ℕ) → M.domain x a ≡ true → a < M.size x
  pub pairs_alike : (x y a b : ℕ) → M.allows x y a b ≡ M.allows y x b a
  pub leaders_free : (x l : ℕ) → M.leader x ≡ suc l → (l < M.n) × (M.leader l ≡ 0)

-- The whole step: "Each follow step .. now also trims the lists of all followers of the leader concerned, new ones included" (document 02). Followers of
-- other leaders are trimmed already where N is sound.
unfoldable pub followed : Network → ℕ → ℕ → Network
followed N i j = followers_trimmed (eliminate N i j)
