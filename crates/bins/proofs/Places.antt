-- The records from a place on, tested one after the other, are those of the list of places.
use mathlib.Core.Path.{◌≡◌, refl, sym, ap, ◌∙◌}
use Prim.Native.Nat.{ℕ, zero, suc, ◌+◌, ◌-◌, ◌<◌, ◌≤◌}
use native.Mathlib.Nat.{add-zero, add-suc}
use mathlib.Core.Bool.{true, false}
use mathlib.Core.List.{List, [], ◌∷◌, map, ◌++◌}
use native.Mathlib.Omega.{arith}
use lib.Dec.{eqb, ltb}
use borrow.Author.Tests.{ltb-true, ltb-false, lt-ltb, le-ltb, le-leb, lt-leb, eqb-true, eq-eqb}
use Rattle.bounded.specs.Bool.{and}
use Rattle.bounded.proofs.Bool.{by_cases, clash, and_l, and_r, and_i, and-holds, and-fails, if-true, if-false}
use Rattle.bins.specs.declared.Bin.{Bin}
use Rattle.bins.specs.declared.Plan.{Plan}
use Rattle.bins.specs.Bins.{Place, place, values_from, places_from, places, stand_at, is_of}
use Rattle.bins.specs.Plans.{size_of, is_next, next_variable, next_value, exact}

-- The test is the equation.
pub stand-e : (bs : List Bin) (ps : List Place) → stand_at bs ps ≡ true → map place bs ≡ ps
stand-e [] [] t = refl
stand-e [] (p ∷ ps) t = clash {b = false} t refl
stand-e (b ∷ bs) [] t = clash {b = false} t refl
stand-e (b ∷ bs) (p ∷ ps) t = λ i. (eqb-true b.variable p.0 (and_l _ _ (and_l _ _ t)) i, eqb-true b.value p.1 (and_r _ _ (and_l _ _ t)) i) ∷ stand-e bs ps (and_r _ _ t) i

pub stand-i : (bs : List Bin) → stand_at bs (map place bs) ≡ true
stand-i [] = refl
stand-i (b ∷ bs) = and_i _ _ (and_i _ _ (eq-eqb b.variable b.variable refl) (eq-eqb b.value b.value refl)) (stand-i bs)

one_more : (i : ℕ) → i + 1 ≡ suc i
one_more i = add-suc i zero ∙ ap suc (add-zero i)

module _ (p : Plan) (past : (o : ℕ) → p.n ≤ o → size_of p o ≡ 0) (held : (o : ℕ) → o < p.n → 1 ≤ size_of p o) where
  -- What is to come from value v of the option after o on: m options are left, that one included.
  abbrev todo : (o v m : ℕ) → List Place
  todo o v zero = []
  todo o v (suc m) = values_from (suc o) v (size_of p o - v) ++ places_from (size_of p) (suc o) m

  todo-cons : (o v m : ℕ) → v < size_of p o → todo o v (suc m) ≡ (suc o, v) ∷ (values_from (suc o) (suc v) (size_of p o - suc v) ++ places_from (size_of p) (suc o) m)
  unfolding values_from
  todo-cons o v m l = ap (λ (k : ℕ). values_from (suc o) v k ++ places_from (size_of p) (suc o) m) left
    where
      left : size_of p o - v ≡ suc (size_of p o - suc v)
      left = omega (arith, l)

  opens : (o m : ℕ) → places_from (size_of p) o m ≡ todo o 0 m
  unfolding places_from
  opens o zero = refl
  opens o (suc m) = ap (λ (k : ℕ). values_from (suc o) 0 k ++ places_from (size_of p) (suc o) m) whole
    where
      whole : size_of p o ≡ size_of p o - 0
      whole = omega arith

  closes : (o v m : ℕ) → size_of p o ≤ v + 1 → values_from (suc o) (suc v) (size_of p o - suc v) ++ places_from (size_of p) (suc o) m ≡ todo (suc o) 0 m
  unfolding values_from
  closes o v m l = ap (λ (k : ℕ). values_from (suc o) (suc v) k ++ places_from (size_of p) (suc o) m) none ∙ opens (suc o) m
    where
      none : size_of p o - suc v ≡ 0
      none = omega (arith, l)

  at_value : (o v : ℕ) (b : Bin) → v < size_of p o → is_next p o v b ≡ and (eqb b.variable (suc o)) (eqb b.value v)
  unfolding is_next is_of
  at_value o v b l = and-holds _ _ (lt-ltb v (size_of p o) l) ∙ ap (λ (k : ℕ). and (eqb b.variable k) (eqb b.value v)) (one_more o)

  none_left : (o v : ℕ) (b : Bin) → p.n ≤ o → is_next p o v b ≡ false
  unfolding is_next
  none_left o v b m = and-fails _ _ (le-ltb v (size_of p o) small)
    where
      small : size_of p o ≤ v
      small = omega (arith, past o m)

  ends : (o m : ℕ) → o + zero ≡ p.n → p.n ≤ o
  ends o m e = omega (arith, e)

  goes : (bs : List Bin) (o v m : ℕ) → o + m ≡ p.n → (1 ≤ m → v < size_of p o) → exact p o v bs ≡ stand_at bs (todo o v m)
  unfolding next_variable next_value
  goes [] o v zero e h = le-leb p.n o (ends o 0 e)
  goes [] o v (suc m) e h = lt-leb p.n o less ∙ sym (ap (stand_at []) (todo-cons o v m (h some)))
    where
      less : o < p.n
      less = omega (arith, e)

      some : 1 ≤ suc m
      some = omega arith
  goes (b ∷ bs) o v zero e h = and-fails _ _ (none_left o v b (ends o 0 e))
  goes (b ∷ bs) o v (suc m) e h =
      by_cases (ltb (v + 1) (size_of p o))
      (λ t. (λ i. and (at_value o v b here i) (exact p (on-variable t i) (on_value t i) bs))
      ∙ ap (and (and (eqb b.variable (suc o)) (eqb b.value v))) (goes bs o (suc v) (suc m) e (λ _. next t))
      ∙ sym (ap (stand_at (b ∷ bs)) (todo-cons o v m here)))
      (λ t. (λ i. and (at_value o v b here i) (exact p (off-variable t i) (off-value t i) bs))
      ∙ ap (and (and (eqb b.variable (suc o)) (eqb b.value v))) (goes bs (suc o) 0 m after (λ l. held (suc o) (below l)) ∙ sym (ap (stand_at bs) (closes o v m (ltb-false (v + 1) (size_of p o) t))))
      ∙ sym (ap (stand_at (b ∷ bs)) (todo-cons o v m here)))
    where
      some : 1 ≤ suc m
      some = omega arith

      here : v < size_of p o
      here = h some

      after : suc o + m ≡ p.n
      after = omega (arith, e)

      below : 1 ≤ m → suc o < p.n
      below l = omega (arith, e, l)

      next : ltb (v + 1) (size_of p o) ≡ true → suc v < size_of p o
      next t = omega (arith, ltb-true (v + 1) (size_of p o) t)

      on-variable : ltb (v + 1) (size_of p o) ≡ true → next_variable p o v ≡ o
      on-variable t = if-true _ o (o + 1) t

      on_value : ltb (v + 1) (size_of p o) ≡ true → next_value p o v ≡ suc v
      on_value t = if-true _ (v + 1) 0 t ∙ one_more v

      off-variable : ltb (v + 1) (size_of p o) ≡ false → next_variable p o v ≡ suc o
      off-variable t = if-false _ o (o + 1) t ∙ one_more o

      off-value : ltb (v + 1) (size_of p o) ≡ false → next_value p o v ≡ 0
      off-value t = if-false _ (v + 1) 0 t

  -- The records pass the test of the loop exactly when they are those of the list of places.
  pub exact-is : (bs : List Bin) → exact p 0 0 bs ≡ stand_at bs (places p.n (size_of p))
  unfolding places
  exact-is bs = goes bs 0 0 p.n (omega arith) (λ h. held 0 h) ∙ sym (ap (stand_at bs) (opens 0 p.n))
