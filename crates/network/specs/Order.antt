-- "In which order to plan" (document 02, L13): an order has the variable o p at the place p, both counted from 0.
use Rattle.std.specs.Prelude.{Bool, true, false, List, ◌≡◌, ℕ, zero, suc, pred, ◌≤◌, ◌<◌, eqb, leb, ltb, length, get_or}
use Rattle.bounded.specs.Bool.{and, or, implies, not, if}
use Rattle.bounded.specs.Fold.{every, some, count, first}
use Rattle.bounded.specs.Table.{tabulate}
use Rattle.network.specs.Network.{Network}
use Rattle.network.specs.Reach.{Way, reach}

-- x stands before the place p.
unfoldable pub before : (ℕ → ℕ) → ℕ → ℕ → Bool
before o p x = some p (λ (q : ℕ). eqb (o q) x)

-- Each of the n variables "exactly once and nothing else".
unfoldable pub each_comes_once : ℕ → (ℕ → ℕ) → Bool
each_comes_once n o = and (every n (λ (p : ℕ). ltb (o p) n)) (every n (λ (x : ℕ). eqb (count n (λ (p : ℕ). eqb (o p) x)) 1))

-- R j i says that there is a path from j to i.
module _ (n : ℕ) (R : ℕ → ℕ → Bool) where
  -- "for an earlier option i and a later option j, a path from j to i through tables functional along the way implies such a path from i to j"
  unfoldable pub good : (ℕ → ℕ) → Bool
  good o = every n (λ (q : ℕ). every q (λ (p : ℕ). implies (R (o q) (o p)) (R (o p) (o q))))

  -- j governs i: a path from j to i, and none back.
  unfoldable pub governs : ℕ → ℕ → Bool
  governs j i = and (R j i) (not (R i j))

  -- i may come next, where those that pass T are placed: it is not placed, and "none precedes one that governs it": whoever is not placed and has a path to
  -- i has one back.
  unfoldable pub permitted : (ℕ → Bool) → ℕ → Bool
  permitted T i = and (not (T i)) (every n (λ (j : ℕ). implies (and (not (T j)) (R j i)) (R i j)))

  -- "the smallest permitted number at each place": those placed before p,
  unfoldable pub placed : ℕ → ℕ → Bool
  placed zero x = false
  placed (suc p) x = or (eqb (first n (permitted (placed p))) x) (placed p x)

  -- and the one at p.
  unfoldable pub found : ℕ → ℕ
  found p = first n (permitted (placed p))

-- An order as source document 000 builds it (section 4): "1) finding all the strongly connected components of G; 2) modifying G by taking every component
-- as one vertex ..; 3) finding a topological ordering of the nodes in the new graph; and 4) replacing any vertex v in the ordering by any sequence of the
-- vertices of the strongly connected component represented by v". E are the edges, and part x is the place of x's component in the topological ordering.
pub record Assembled (n : ℕ) (E : ℕ → ℕ → Bool) (o part : ℕ → ℕ) : Type 0 where
  -- 1: two variables are of one component exactly when each is reachable from the other.
  pub same_part : (x y : ℕ) → x < n → y < n → part x ≡ part y → Way E x y
  pub one_part : (x y : ℕ) → x < n → y < n → Way E x y → Way E y x → part x ≡ part y
  -- 2 and 3: an edge between two components goes from the earlier to the later one.
  pub topological : (x y : ℕ) → x < n → y < n → E x y ≡ true → (part x ≡ part y → ⊥) → part x < part y
  -- 4: the components stand in that order, the variables of each together.
  pub in_parts : (p q : ℕ) → p < q → q < n → part (o p) ≤ part (o q)

-- The calls. "The stated tables and lists of the given state count, followers included."
unfoldable pub good_order : Network → (ℕ → ℕ) → Bool
good_order N o = good N.n (reach N) o

unfoldable pub found_order : Network → ℕ → ℕ
found_order N p = found N.n (reach N) p

-- A list of bytes, the variables counted from 1, as an order.
unfoldable pub order_of : List ℕ → ℕ → ℕ
order_of l p = pred (get_or l p 0)

-- "in testing 30 when the order does not hold each option exactly once and nothing else", else 0
unfoldable pub order_refusal : Network → List ℕ → ℕ
order_refusal N l =
    if (and (eqb (length l) N.n) (and (every N.n (λ (p : ℕ). leb 1 (get_or l p 0))) (each_comes_once N.n (order_of l)))) 0 30

-- "and in finding 14 for a buffer not of n bytes", else 0
unfoldable pub find_refusal : Network → ℕ → ℕ
find_refusal N bytes = if (eqb bytes N.n) 0 14

-- The test of a list that is not refused, and the list that is found.
unfoldable pub test_order : Network → List ℕ → Bool
test_order N l = good_order N (order_of l)

unfoldable pub find_order : Network → List ℕ
find_order N = tabulate N.n (λ (p : ℕ). suc (found_order N p))
