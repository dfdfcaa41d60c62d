-- Each value of the variables has one index, and each index below the sum of the sizes is that of one value.
use mathlib.Core.List.{◌++◌}
use mathlib.Core.Path.{◌≡◌, refl, sym, ap, subst, ◌∙◌}
use Prim.Native.Nat.{ℕ, zero, suc, ◌+◌, ◌-◌, ◌*◌, ◌≤◌, ◌<◌}
use native.Mathlib.Nat.{not-suc-le-zero, le_of_suc-le-suc}
use native.Mathlib.Omega.{arith}
use lib.Dec.{eqb, ltb}
use lib.ListN.{length, get_or, length-append, get_or-append}
use lib.Seq.{get_or-append-add}
use borrow.Author.Tests.{eqb-true, eqb-false, ltb-true, ltb-false}
use Rattle.bounded.specs.Fold.{sum}
use Rattle.bounded.proofs.Bool.{by_cases}
use Rattle.bins.specs.Bins.{Place, values_from, places_from, places}

abbrev pub no_place : Place
no_place = (0, 0)

length-values : (o v k : ℕ) → length (values_from o v k) ≡ k
unfolding values_from
length-values o v zero = refl
length-values o v (suc k) = ap suc (length-values o (suc v) k)

values-at : (o v k i : ℕ) → i < k → get_or (values_from o v k) i no_place ≡ (o, v + i)
unfolding values_from
values-at o v zero i l = absurd (not-suc-le-zero l)
values-at o v (suc k) zero l = let e : v ≡ v + zero = omega arith in λ j. (o, e j)
values-at o v (suc k) (suc i) l =
    let e : suc v + i ≡ v + suc i = omega arith in
    values-at o (suc v) k i (le_of_suc-le-suc l) ∙ (λ j. (o, e j))

module _ (size : ℕ → ℕ) where
  sum-suc : (o : ℕ) → sum (suc o) size ≡ size o + sum o size
  unfolding sum
  sum-suc o = refl

  sum-up : (x k : ℕ) → sum x size ≤ sum (k + x) size
  sum-up x zero = let e : 0 + x ≡ x = omega arith in subst (λ (y : ℕ). sum x size ≤ sum y size) (sym e) (omega arith)
  sum-up x (suc k) =
      let e : suc k + x ≡ suc (k + x) = omega arith in
      let h : sum x size ≤ sum (k + x) size = sum-up x k in
      subst (λ (y : ℕ). sum x size ≤ sum y size) (sym e) (omega (arith, sum-suc (k + x), h))

  -- The values of a variable come before those of the next ones.
  pub ahead : (x y v : ℕ) → x < y → v < size x → sum x size + v < sum y size
  ahead x y v l h =
      let e : y - suc x + suc x ≡ y = omega (arith, l) in
      let m : sum (suc x) size ≤ sum y size = subst (λ (z : ℕ). sum (suc x) size ≤ sum z size) e (sum-up (suc x) (y - suc x)) in
      omega (arith, sum-suc x, m, h)

  pub one-variable : (x y v w : ℕ) → v < size x → w < size y → sum x size + v ≡ sum y size + w → x ≡ y
  one-variable x y v w h k e =
      by_cases (ltb x y)
      (λ t. absurd (let l = ahead x y v (ltb-true x y t) h in let no : ⊥ = omega (arith, l, e) in no))
      (λ t. by_cases (ltb y x)
      (λ u. absurd (let l = ahead y x w (ltb-true y x u) k in let no : ⊥ = omega (arith, l, e) in no))
      (λ u. omega (arith, ltb-false x y t, ltb-false y x u)))

  pub one_value : (x y v w : ℕ) → v < size x → w < size y → sum x size + v ≡ sum y size + w → v ≡ w
  one_value x y v w h k e = let q : sum x size ≡ sum y size = ap (λ (z : ℕ). sum z size) (one-variable x y v w h k e) in omega (arith, q, e)

  pub record Spot (n i : ℕ) : Type 0 where
    pub variable : ℕ
    pub value : ℕ
    pub inside : variable < n
    pub below : value < size variable
    pub at : i ≡ sum variable size + value

  pub spot-at : (n i : ℕ) → i < sum n size → Spot n i
  unfolding sum
  spot-at zero i l = absurd (not-suc-le-zero l)
  spot-at (suc n) i l =
      by_cases (ltb i (sum n size))
      (λ t. let s = spot-at n i (ltb-true i (sum n size) t) in
      record { variable = s.variable; value = s.value; inside = omega (arith, s.inside); below = s.below; at = s.at })
      (λ t. let m = ltb-false i (sum n size) t in
      record { variable = n; value = i - sum n size; inside = omega arith; below = omega (arith, l, m); at = omega (arith, m) })

  length-places : (o m : ℕ) → length (places_from size o m) + sum o size ≡ sum (m + o) size
  unfolding places_from
  length-places o zero = let e : 0 + o ≡ o = omega arith in omega (arith, ap (λ (y : ℕ). sum y size) e)
  length-places o (suc m) =
      let e : m + suc o ≡ suc m + o = omega arith in
      let h : length (places_from size (suc o) m) + sum (suc o) size ≡ sum (suc m + o) size = length-places (suc o) m ∙ ap (λ (y : ℕ). sum y size) e in
      omega (arith, length-append (values_from (suc o) 0 (size o)) (places_from size (suc o) m), length-values (suc o) 0 (size o), sum-suc o, h)

  place-from : (o m i x v : ℕ) → o ≤ x → x < m + o → v < size x → i + sum o size ≡ sum x size + v → get_or (places_from size o m) i no_place ≡ (suc x, v)
  unfolding places_from
  place-from o zero i x v l h b e = absurd (let no : ⊥ = omega (arith, l, h) in no)
  place-from o (suc m) i x v l h b e =
      by_cases (eqb x o)
      (λ t. let q : x ≡ o = eqb-true x o t in
      let z : sum x size ≡ sum o size = ap (λ (y : ℕ). sum y size) q in
      let s : size x ≡ size o = ap size q in
      let w : i ≡ v = omega (arith, z, e) in
      let k : i < size o = omega (arith, w, s, b) in
      get_or-append (values_from (suc o) 0 (size o)) (places_from size (suc o) m) no_place i (subst (λ (y : ℕ). i < y) (sym (length-values (suc o) 0 (size o))) k)
      ∙ values-at (suc o) 0 (size o) i k ∙ (let u : 0 + i ≡ v = omega (arith, w) in λ j. (suc (sym q j), u j)))
      (λ t. let d = eqb-false x o t in
      let a : o < x = omega (arith, d, l) in
      let m' : sum (suc o) size ≤ sum x size = later a in
      let c : i ≡ length (values_from (suc o) 0 (size o)) + (i - size o) = omega (arith, length-values (suc o) 0 (size o), sum-suc o, m', e) in
      ap (λ (y : ℕ). get_or (values_from (suc o) 0 (size o) ++ places_from size (suc o) m) y no_place) c
      ∙ get_or-append-add (values_from (suc o) 0 (size o)) (places_from size (suc o) m) (i - size o) no_place
      ∙ place-from (suc o) m (i - size o) x v a (omega (arith, h)) b (omega (arith, sum-suc o, m', e)))
    where
      later : o < x → sum (suc o) size ≤ sum x size
      later a = let r : x - suc o + suc o ≡ x = omega (arith, a) in subst (λ (z : ℕ). sum (suc o) size ≤ sum z size) r (sum-up (suc o) (x - suc o))

  -- So many places, and the place of each value.
  pub places-length : (n : ℕ) → length (places n size) ≡ sum n size
  unfolding places sum
  places-length n = let e : n + 0 ≡ n = omega arith in omega (arith, length-places 0 n, ap (λ (y : ℕ). sum y size) e)

  pub place_at : (n x v : ℕ) → x < n → v < size x → get_or (places n size) (sum x size + v) no_place ≡ (suc x, v)
  unfolding places sum
  place_at n x v l b = place-from 0 n (sum x size + v) x v (omega arith) (omega (arith, l)) b (omega arith)

  -- All within a number for each.
  pub sum-within : (n k : ℕ) → ((i : ℕ) → size i ≤ k) → sum n size ≤ n * k
  unfolding sum
  sum-within zero k h = omega arith
  sum-within (suc n) k h = let i : sum n size ≤ n * k = sum-within n k h in let m : suc n * k ≡ k + n * k = omega arith in omega (arith, h n, i, m)
