-- What stands at a value's index after the values of a solution are changed.
use mathlib.Core.List.{List}
use mathlib.Core.Path.{◌≡◌, refl, sym, ap, ◌∙◌}
use Prim.Native.Nat.{ℕ, zero, suc, ◌+◌, ◌≤◌, ◌<◌, ◌^◌}
use native.Mathlib.Omega.{arith}
use lib.Dec.{eqb, ltb}
use lib.ListN.{length, get_or, length-set}
use borrow.Author.Tests.{eqb-true, eqb-false, eq-eqb, ne_eqb, ltb-true, ltb-false, lt-ltb, le-ltb}
use Rattle.bounded.specs.Bool.{and, if}
use Rattle.bounded.proofs.Bool.{by_cases, and_i, and-fails, and-false, if-true, if-false}
use Rattle.bounded.proofs.Table.{get_d_set}
use Rattle.bins_counts.specs.Counts.{spot, changed_at, changed_each, plus}
use Rattle.bins_counts.proofs.Spots.{one-variable, one_value}

pub length-changed : (f : ℕ → ℕ) (xs : List ℕ) (i : ℕ) → length (changed_at f xs i) ≡ length xs
unfolding changed_at
length-changed f xs i = length-set xs i _

pub changed-here : (f : ℕ → ℕ) (xs : List ℕ) (i k : ℕ) → i < length xs → k ≡ i → get_or (changed_at f xs i) k 0 ≡ f (get_or xs k 0)
unfolding changed_at
changed-here f xs i k l e = get_d_set xs i k _ 0 l ∙ if-true _ _ _ (eq-eqb k i e) ∙ ap (λ (j : ℕ). f (get_or xs j 0)) (sym e)

pub changed-else : (f : ℕ → ℕ) (xs : List ℕ) (i k : ℕ) → i < length xs → (k ≡ i → ⊥) → get_or (changed_at f xs i) k 0 ≡ get_or xs k 0
unfolding changed_at
changed-else f xs i k l d = get_d_set xs i k _ 0 l ∙ if-false _ _ _ (ne_eqb k i d)

-- Two values with one index are one.
module _ (sizes : List ℕ) (x y v w : ℕ) (h : v < get_or sizes x 0) (k : w < get_or sizes y 0) (e : spot sizes x v ≡ spot sizes y w) where
  pub same-variable : x ≡ y
  unfolding spot
  same-variable = one-variable (λ (i : ℕ). get_or sizes i 0) x y v w h k e

  pub same-value : v ≡ w
  unfolding spot
  same-value = one_value (λ (i : ℕ). get_or sizes i 0) x y v w h k e

module _ (f : ℕ → ℕ) (n : ℕ) (sizes values xs : List ℕ) (below : (k : ℕ) → k < n → get_or values k 0 < get_or sizes k 0)
    (inside : (k : ℕ) → k < n → spot sizes k (get_or values k 0) < length xs) where
  pub length-each : (m : ℕ) → length (changed_each f sizes values xs m) ≡ length xs
  unfolding changed_each
  length-each zero = refl
  length-each (suc m) = length-changed f _ _ ∙ length-each m

  module _ (o v : ℕ) (l : o < n) (b : v < get_or sizes o 0) where
    abbrev x : ℕ
    x = get_or xs (spot sizes o v) 0

    abbrev at : ℕ → ℕ
    at m = get_or (changed_each f sizes values xs m) (spot sizes o v) 0

    each-by : (m : ℕ) → m ≤ n → at m ≡ if (and (ltb o m) (eqb (get_or values o 0) v)) (f x) x
    unfolding changed_each
    each-by zero h = sym (if-false _ (f x) x (and-fails _ _ (le-ltb o 0 (omega arith))))
    each-by (suc m) h =
        by_cases (eqb (spot sizes o v) (spot sizes m (get_or values m 0)))
        (λ t. let e = eqb-true (spot sizes o v) (spot sizes m (get_or values m 0)) t in
        let q = same-variable sizes o m v (get_or values m 0) b (below m (omega (arith, h))) e in
        let w : get_or values o 0 ≡ v = ap (λ (k : ℕ). get_or values k 0) q ∙ sym (same-value sizes o m v (get_or values m 0) b (below m (omega (arith, h))) e) in
        changed-here f (changed_each f sizes values xs m) (spot sizes m (get_or values m 0)) (spot sizes o v) room e
        ∙ ap f (each-by m (omega (arith, h)) ∙ if-false _ (f x) x (and-fails _ _ (le-ltb o m (omega (arith, q)))))
        ∙ sym (if-true _ (f x) x (and_i _ _ (lt-ltb o (suc m) (omega (arith, q))) (eq-eqb _ v w))))
        (λ t. let d = eqb-false (spot sizes o v) (spot sizes m (get_or values m 0)) t in
        changed-else f (changed_each f sizes values xs m) (spot sizes m (get_or values m 0)) (spot sizes o v) room d
        ∙ each-by m (omega (arith, h))
        ∙ by_cases (eqb (get_or values o 0) v)
        (λ u. let w = eqb-true (get_or values o 0) v u in
        let a : o ≡ m → ⊥ = λ q. d (λ i. spot sizes (q i) ((sym w ∙ ap (λ (k : ℕ). get_or values k 0) q) i)) in
        ap (λ y. if (and y (eqb (get_or values o 0) v)) (f x) x) (one_more a))
        (λ u. if-false _ (f x) x (ap (and (ltb o m)) u ∙ and-false _) ∙ sym (if-false _ (f x) x (ap (and (ltb o (suc m))) u ∙ and-false _))))
      where
        room : spot sizes m (get_or values m 0) < length (changed_each f sizes values xs m)
        room = omega (arith, length-each m, inside m (omega (arith, h)))

        one_more : (o ≡ m → ⊥) → ltb o m ≡ ltb o (suc m)
        one_more a =
            by_cases (ltb o m)
            (λ t. t ∙ sym (lt-ltb o (suc m) (omega (arith, ltb-true o m t))))
            (λ t. t ∙ sym (le-ltb o (suc m) (omega (arith, ltb-false o m t, a))))

    -- After all of them.
    pub each_at : get_or (changed_each f sizes values xs n) (spot sizes o v) 0 ≡ if (eqb (get_or values o 0) v) (f x) x
    unfolding and
    each_at = each-by n (omega arith) ∙ ap (λ y. if (and y (eqb (get_or values o 0) v)) (f x) x) (lt-ltb o n l)

-- A sum below 2 to the 64 is itself.
pub plus-is : (amount x : ℕ) → x + amount < 2 ^ 64 → plus amount x ≡ x + amount
unfolding plus
plus-is amount x l = if-true _ _ _ (lt-ltb (x + amount) (2 ^ 64) l)
