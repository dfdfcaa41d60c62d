-- What a table says of two leaders' values, read off an array of rows, for any number w of values.
use Rattle.std.specs.Prelude.{Bool, true, List, ◌≡◌, ℕ, pred, ◌<◌, eqb, length, get_or}
use Rattle.bounded.specs.Bool.{and, implies, if}
use Rattle.bounded.specs.Fold.{some, first}
use Rattle.words.specs.Word.{has}
use Rattle.pairs.specs.Pairs.{variables, allows_of}
use Rattle.head.specs.declared.Head.{Head}
use Rattle.step_sides.specs.declared.sides.Side.{Side}

-- "Each option is traced to its live leader; a live option is its own."
unfoldable pub leader_of : Head → ℕ → ℕ
leader_of h x = if (eqb (get_or h.leaders x 0) 0) x (pred (get_or h.leaders x 0))

-- x with its leader, and the domains of both.
unfoldable pub side_of : Head → ℕ → Side
side_of h x =
    record {
      named = x;
      domain = get_or h.domains x 0;
      leader = leader_of h x;
      values = get_or h.domains (leader_of h x) 0;
    }

-- Both are variables that an array tells of.
pub record Placed (s : Side) : Type 0 where
  pub named_in : s.named < variables
  pub leader_in : s.leader < variables

-- The leaders differ, and neither is the variable that the other leads: what the table is told through is no part of the leaders' own pair.
pub record Apart (s t : Side) : Type 0 where
  pub leaders_apart : s.leader ≡ t.leader → ⊥
  pub first_apart : s.named ≡ t.leader → ⊥
  pub second_apart : t.named ≡ s.leader → ⊥

-- The partner in s of value a of its leader: "A live option's value is its own partner", and another's is the lowest of row AND domain.
unfoldable pub partner_at : ℕ → List ℕ → Side → ℕ → ℕ
partner_at w rows s a =
    if (eqb s.leader s.named) a (first w (λ (c : ℕ). and (has s.domain c) (allows_of w rows s.leader s.named a c)))

-- Each value in the leader's domain has a row of the table.
abbrev pub PartnersIn : ℕ → List ℕ → List ℕ → Side → Type 0
PartnersIn w rows table s = (a : ℕ) → has s.values a ≡ true → partner_at w rows s a < length table

-- A row of the table, told to the leader of t: value b of it has its partner in the row.
unfoldable pub told_at : ℕ → List ℕ → Side → ℕ → ℕ → Bool
told_at w rows t row b =
    if (eqb t.leader t.named) (has row b)
    (some w (λ (d : ℕ). and (and (has t.domain d) (has row d)) (allows_of w rows t.named t.leader d b)))

-- The partner in t of each value in the leader's domain is a value, and its leader is told of a row what the row says of it.
abbrev pub PartnersTold : ℕ → List ℕ → Side → Side → Type 0
PartnersTold w rows s t =
    (a : ℕ) → has s.values a ≡ true → (partner_at w rows t a < w) × ((row : ℕ) → told_at w rows t row a ≡ has row (partner_at w rows t a))

-- "the new table allows their partners", of value a of the first leader and value b of the second
unfoldable pub reach_at : ℕ → List ℕ → List ℕ → Side → Side → ℕ → ℕ → Bool
reach_at w rows table s t a b = told_at w rows t (get_or table (partner_at w rows s a) 0) b

-- "It then allows two values exactly when both are in the leaders' lists, the new table allows their partners, and the pair, if stated before, allowed
-- them."
unfoldable pub cut_at : ℕ → List ℕ → List ℕ → Side → Side → Bool → ℕ → ℕ → Bool
cut_at w rows table s t was a b =
    and (and (has s.values a) (has t.values b)) (and (reach_at w rows table s t a b) (implies was (allows_of w rows s.leader t.leader a b)))

-- "If they are one, its list loses the values whose partners the new table forbids."
unfoldable pub kept_at : ℕ → List ℕ → List ℕ → Side → Side → ℕ → Bool
kept_at w rows table s t a = and (has s.values a) (reach_at w rows table s t a a)
