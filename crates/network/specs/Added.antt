-- A table that is added to a network: "We want to add a table for two options to any sound state, followers included, as source document 001 does it"
-- (document 02).
use Rattle.std.specs.Prelude.{Bool, true, List, ◌↔◌, ◌≡◌, ℕ, suc, pred, ◌^◌, ◌≤◌, ◌<◌, eqb, ltb, length, get_or}
use Rattle.bounded.specs.Bool.{and, or, implies, not, if}
use Rattle.bounded.specs.Fold.{every}
use Rattle.words.specs.Word.{has}
use Rattle.network.specs.Network.{Network, free, partner}
use Rattle.network.specs.Step.{outside, followers_trimmed}
use Rattle.network.specs.Substitution.{is_pair}
use Rattle.network.specs.Completion.{follow}
use Rattle.network.specs.Lists.{narrowed}

-- "Each option is traced to its live leader; a live option is its own."
unfoldable pub traced : Network → ℕ → ℕ
traced N x = if (free N x) x (pred (N.leader x))

-- The partner in x of value a of the variable that x is traced to. "A live option's value is its own partner." A follower's is the lowest in its domain
-- that goes with a, and in a sound network the only one.
unfoldable pub partner_in : Network → ℕ → ℕ → ℕ
partner_in N x a = if (free N x) a (follow N x a)

-- "The new table has one row for each value of the first option named, with bits for the values of the second."
unfoldable pub table_allows : List ℕ → ℕ → ℕ → Bool
table_allows rows c d = has (get_or rows c 0) d

-- f keeps to the table of x and y: the row of its value of x has the bit of its value of y.
unfoldable pub meets_table : ℕ → ℕ → List ℕ → (ℕ → ℕ) → Bool
meets_table x y rows f = table_allows rows (f x) (f y)

-- One row for each value of x, and no bit at or above the size of y: the sizes of the variables named, whoever leads them.
unfoldable pub rows_fit : Network → ℕ → ℕ → List ℕ → Bool
rows_fit N x y rows = and (eqb (length rows) (N.size x)) (every (length rows) (λ (c : ℕ). ltb (get_or rows c 0) (2 ^ N.size y)))

-- The number that refuses the table, variables counted from 1, or 0: "It refuses with 9, then 10, then 21 for two equal options, then 22 for a wrong
-- count of rows or a bit at or above the size." (9 goes by the state.)
unfoldable pub add_refusal : Network → ℕ → ℕ → List ℕ → ℕ
add_refusal N first second rows =
    if (or (outside N first) (outside N second)) 10
    (if (eqb first second) 21
    (if (not (rows_fit N (pred first) (pred second) rows)) 22
    0))

-- "It then allows two values exactly when both are in the leaders' lists, the new table allows their partners, and the pair, if stated before, allowed
-- them." What the new table says of a and b is handed in, and so is the last, read from the side that is being defined.
unfoldable pub cut_pair : Network → ℕ → ℕ → (ℕ → ℕ → Bool) → ℕ → ℕ → Bool → Bool
cut_pair N p q t a b before = and (and (N.domain p a) (N.domain q b)) (and (t a b) before)

-- N with the constraint t between p and q: "their pair becomes stated".
unfoldable pub constrained : Network → ℕ → ℕ → (ℕ → ℕ → Bool) → Network
constrained N p q t =
    record {
      n = N.n;
      size = N.size;
      domain = N.domain;
      leader = N.leader;
      stated = λ (u v : ℕ). if (or (is_pair p q u v) (is_pair q p u v)) true (N.stated u v);
      allows =
          λ (u v a b : ℕ).
          if (is_pair p q u v) (cut_pair N p q t a b (implies (N.stated u v) (N.allows u v a b)))
          (if (is_pair q p u v) (cut_pair N p q t b a (implies (N.stated u v) (N.allows u v a b)))
          (N.allows u v a b));
    }

module _ (N : Network) (x y : ℕ) (rows : List ℕ) where
  -- "the new table allows their partners", of value a of the leader of x and value b of the leader of y
  unfoldable pub allows_partners : ℕ → ℕ → Bool
  allows_partners a b = table_allows rows (partner_in N x a) (partner_in N y b)

  -- The network with the table added, variables counted from 0. "If they are one, its list loses the values whose partners the new table forbids", and
  -- "each added table now also trims the lists of all followers of the leader concerned" (L8). If the leaders differ no list changes.
  unfoldable pub added : Network
  added =
      if (eqb (traced N x) (traced N y))
      (followers_trimmed (narrowed N (traced N x) (λ (a : ℕ). allows_partners a a)))
      (constrained N (traced N x) (traced N y) allows_partners)

-- The sentences, each as it stands. A number that is not "0 or above n":
pub record Numbered (N : Network) (x : ℕ) : Type 0 where
  pub from_1 : 1 ≤ x
  pub to_n : x ≤ N.n

-- Neither "a wrong count of rows" nor "a bit at or above the size": the rows fit x and y.
pub record Fitting (N : Network) (x y : ℕ) (rows : List ℕ) : Type 0 where
  pub row_count : length rows ≡ N.size x
  pub bits_below : (c d : ℕ) → table_allows rows c d ≡ true → d < N.size y

-- "10, then 21 for two equal options, then 22", each exactly when its own cause holds and none before it, and 0 where none does.
pub record Refuses (N : Network) (first second : ℕ) (rows : List ℕ) : Type 0 where
  pub number_10 : (add_refusal N first second rows ≡ 10) ↔ (Numbered N first × Numbered N second → ⊥)
  pub number_21 : (add_refusal N first second rows ≡ 21) ↔ ((Numbered N first × Numbered N second) × (first ≡ second))
  pub number_22 : (add_refusal N first second rows ≡ 22)
      ↔ ((Numbered N first × Numbered N second) × ((first ≡ second → ⊥) × (Fitting N (pred first) (pred second) rows → ⊥)))
  pub number_0 : (add_refusal N first second rows ≡ 0)
      ↔ ((Numbered N first × Numbered N second) × ((first ≡ second → ⊥) × Fitting N (pred first) (pred second) rows))

-- "Each option is traced to its live leader; a live option is its own": x is traced to p.
pub record Traced (N : Network) (x p : ℕ) : Type 0 where
  pub own : free N x ≡ true → p ≡ x
  pub led : (l : ℕ) → N.leader x ≡ suc l → p ≡ l

-- c is the partner in x of value a of the variable that x is traced to: "A live option's value is its own partner", and "each value in a leader's list has
-- exactly one allowed partner in each of its followers' lists".
pub record Partner (N : Network) (x a c : ℕ) : Type 0 where
  pub own : free N x ≡ true → c ≡ a
  pub led : (l : ℕ) → N.leader x ≡ suc l → partner N l x a c ≡ true

-- "the new table allows their partners"
abbrev pub PartnersAllowed : Network → ℕ → ℕ → List ℕ → ℕ → ℕ → Type 0
PartnersAllowed N x y rows a b = (c : ℕ) × (d : ℕ) × Partner N x a c × Partner N y b d × (table_allows rows c d ≡ true)

-- What M is after the table of x and y has been added to N, where these are traced to p and q.
pub record Adds (N : Network) (x y : ℕ) (rows : List ℕ) (p q : ℕ) (M : Network) : Type 0 where
  -- "Each option is traced to its live leader; a live option is its own."
  pub first_traced : Traced N x p
  pub second_traced : Traced N y q
  -- "If the leaders differ, their pair becomes stated.
  pub becomes_stated : (p ≡ q → ⊥) → M.stated p q ≡ true
  -- It then allows two values exactly when both are in the leaders' lists, the new table allows their partners, and the pair, if stated before, allowed
  -- them."
  pub allows_exactly : (p ≡ q → ⊥) → (a b : ℕ)
      → (M.allows p q a b ≡ true)
      ↔ ((N.domain p a ≡ true)
      × (N.domain q b ≡ true)
      × PartnersAllowed N x y rows a b
      × (N.stated p q ≡ true → N.allows p q a b ≡ true))
  -- The pair q, p is the same from its other side.
  pub other_side : (p ≡ q → ⊥) → (a b : ℕ) → (M.stated q p ≡ M.stated p q) × (M.allows q p b a ≡ M.allows p q a b)
  -- Every other pair is as it was, and so is every domain.
  pub other_pairs : (p ≡ q → ⊥) → (u v a b : ℕ) → (u ≡ p → v ≡ q → ⊥) → (u ≡ q → v ≡ p → ⊥)
      → (M.stated u v ≡ N.stated u v) × (M.allows u v a b ≡ N.allows u v a b)
  pub domains_stay : (p ≡ q → ⊥) → (u a : ℕ) → M.domain u a ≡ N.domain u a
  -- "If they are one, its list loses the values whose partners the new table forbids."
  pub keeps_exactly : p ≡ q → (a : ℕ) → (M.domain p a ≡ true) ↔ ((N.domain p a ≡ true) × PartnersAllowed N x y rows a a)
  -- "A value stays in a follower's list exactly when it is the partner of a value in the leader's list."
  pub trims_exactly : p ≡ q → (u b : ℕ) → N.leader u ≡ suc p
      → (M.domain u b ≡ true) ↔ ((N.domain u b ≡ true) × ((a : ℕ) × (M.domain p a ≡ true) × (N.allows p u a b ≡ true)))
  -- Every other domain is as it was, and so is every pair.
  pub other_domains : p ≡ q → (u a : ℕ) → (u ≡ p → ⊥) → (N.leader u ≡ suc p → ⊥) → M.domain u a ≡ N.domain u a
  pub pairs_stay : p ≡ q → (u v a b : ℕ) → (M.stated u v ≡ N.stated u v) × (M.allows u v a b ≡ N.allows u v a b)
  -- Nothing else changes: no variable gets a leader.
  pub same_n : M.n ≡ N.n
  pub same_size : (u : ℕ) → M.size u ≡ N.size u
  pub same_leader : (u : ℕ) → M.leader u ≡ N.leader u
