-- Laws of the folds: each to and from a fact about every number below the bound.
use mathlib.Core.Bool.{Bool, true, false, true≢false, false≢true, ◌&&◌}
use mathlib.Core.Logic.{◌⊎◌, inl, inr, ⊎_elim}
use mathlib.Core.Path.{◌≡◌, refl, sym, ◌∙◌, ap, subst}
use Prim.Native.Nat.{ℕ, zero, suc, ◌+◌, ◌*◌, ◌≤◌, ◌<◌, min}
use native.Mathlib.Nat.{zero-mul, mul-zero, suc-mul, mul-add, mul-le-mul_right, min-eq_left, min-eq_right}
use native.Mathlib.Numerals.{add-one}
use native.Mathlib.Omega.{arith}
use lib.Dec.{eqb, leb, ltb}
use borrow.Author.Tests.{eq-eqb, eqb-true, eqb-false, leb-true, leb-false, ltb-true, ltb-false}
use Rattle.bounded.specs.Bool.{and, or, bit, if, not}
use Rattle.bounded.specs.Fold.{every, some, sum, product, count, first}
use Rattle.bounded.proofs.Bool.{by_cases, clash, bool-ext, not-true→false, machine-and, and_comm, and_i, and_l, and_r, or_l, or_r, or_elim, not-i, not-e, bit-true, bit-false, bit_le, bit-split}

lift-cmp : (n k : ℕ) → (k ≡ n) ⊎ (k < n) → (suc k ≡ suc n) ⊎ (suc k < suc n)
lift-cmp n k (inl e) = inl (ap suc e)
lift-cmp n k (inr l) = inr (omega arith)

cmp : (n k : ℕ) → k < suc n → (k ≡ n) ⊎ (k < n)
cmp zero zero h = inl refl
cmp zero (suc k) h = absurd (let x : ⊥ = omega arith in x)
cmp (suc n) zero h = inr (omega arith)
cmp (suc n) (suc k) h = lift-cmp n k (cmp n k (omega arith))

-- What is below n + 1 is n or is below n.
pub below_suc : {A : Type 0} (n k : ℕ) → k < suc n → (k ≡ n → A) → (k < n → A) → A
below_suc n k h f g = ⊎_elim f g (cmp n k h)

-- A number is i or another.
pub is-or-not : (i : ℕ) (P : ℕ → Type 0) → P i → ((x : ℕ) → (x ≡ i → ⊥) → P x) → (x : ℕ) → P x
is-or-not i P own other x = by_cases (eqb x i) (λ t. subst P (sym (eqb-true x i t)) own) (λ t. other x (eqb-false x i t))

pub every-i : (n : ℕ) (p : ℕ → Bool) → ((k : ℕ) → k < n → p k ≡ true) → every n p ≡ true
unfolding every
every-i zero p h = refl
every-i (suc n) p h = and_i (p n) (every n p) (h n (omega arith)) (every-i n p (λ k l. h k (omega arith)))

pub every-e : (n : ℕ) (p : ℕ → Bool) → every n p ≡ true → (k : ℕ) → k < n → p k ≡ true
unfolding every
every-e zero p h k l = absurd (let x : ⊥ = omega arith in x)
every-e (suc n) p h k l =
    below_suc n k l
    (λ e. subst (λ (m : ℕ). p m ≡ true) (sym e) (and_l (p n) (every n p) h))
    (λ s. every-e n p (and_r (p n) (every n p) h) k s)

-- Where not all pass, some one does not.
pub every-not : {A : Type 0} (n : ℕ) (p : ℕ → Bool) → every n p ≡ false → ((k : ℕ) → k < n → p k ≡ false → A) → A
unfolding every
every-not zero p h f = clash refl h
every-not (suc n) p h f =
    by_cases (p n)
    (λ t. every-not n p (by_cases (every n p) (λ e. clash (and_i _ _ t e) h) (λ e. e)) (λ k l e. f k (omega arith) e))
    (λ t. f n (omega arith) t)

pub some-i : (n : ℕ) (p : ℕ → Bool) (k : ℕ) → k < n → p k ≡ true → some n p ≡ true
unfolding some
some-i zero p k l h = absurd (let x : ⊥ = omega arith in x)
some-i (suc n) p k l h =
    below_suc n k l
    (λ e. or_l (p n) (some n p) (subst (λ (m : ℕ). p m ≡ true) e h))
    (λ s. or_r (p n) (some n p) (some-i n p k s h))

pub some-e : {A : Type 0} (n : ℕ) (p : ℕ → Bool) → some n p ≡ true → ((k : ℕ) → k < n → p k ≡ true → A) → A
unfolding some
some-e zero p h f = absurd (false≢true h)
some-e (suc n) p h f =
    or_elim (p n) (some n p) h
    (λ t. f n (omega arith) t)
    (λ t. some-e n p t (λ k l e. f k (omega arith) e))

-- None passes where every one fails, and the other way round.
pub some-none : (n : ℕ) (p : ℕ → Bool) → ((k : ℕ) → k < n → p k ≡ false) → some n p ≡ false
some-none n p h = not-true→false (some n p) (λ t. some-e n p t (λ k l e. true≢false (sym e ∙ h k l)))

pub none_of : (n : ℕ) (p : ℕ → Bool) → some n p ≡ false → (k : ℕ) → k < n → p k ≡ false
none_of n p h k l = not-true→false (p k) (λ t. clash (some-i n p k l t) h)

-- Folds of tests that agree below the bound are equal.
-- One more test of a run of tests.
pub test-joins : (p : ℕ → Bool) {r t : Bool} (n : ℕ) → r ≡ every n p → t ≡ p n → r && t ≡ every (n + 1) p
unfolding every
test-joins p n e h = rw (e, h, add-one n) (machine-and (every n p) (p n) ∙ and_comm (every n p) (p n))

pub every-cong : (n : ℕ) (p q : ℕ → Bool) → ((k : ℕ) → k < n → p k ≡ q k) → every n p ≡ every n q
unfolding every
every-cong zero p q h = refl
every-cong (suc n) p q h = rw (h n (omega arith), every-cong n p q (λ k l. h k (omega arith)))

pub some-cong : (n : ℕ) (p q : ℕ → Bool) → ((k : ℕ) → k < n → p k ≡ q k) → some n p ≡ some n q
unfolding some
some-cong zero p q h = refl
some-cong (suc n) p q h = rw (h n (omega arith), some-cong n p q (λ k l. h k (omega arith)))

pub sum-cong : (n : ℕ) (f g : ℕ → ℕ) → ((k : ℕ) → k < n → f k ≡ g k) → sum n f ≡ sum n g
unfolding sum
sum-cong zero f g h = refl
sum-cong (suc n) f g h = rw (h n (omega arith), sum-cong n f g (λ k l. h k (omega arith)))

pub count-cong : (n : ℕ) (p q : ℕ → Bool) → ((k : ℕ) → k < n → p k ≡ q k) → count n p ≡ count n q
unfolding count
count-cong n p q h = sum-cong n _ _ (λ k l. ap bit (h k l))

-- A sum of numbers that are no greater is no greater,
pub sum-le : (n : ℕ) (f g : ℕ → ℕ) → ((k : ℕ) → f k ≤ g k) → sum n f ≤ sum n g
unfolding sum
sum-le zero f g h = omega arith
sum-le (suc n) f g h = omega (arith, h n, sum-le n f g h)

-- and less, where one of them is.
pub sum_lt : (n : ℕ) (f g : ℕ → ℕ) → ((k : ℕ) → f k ≤ g k) → (k : ℕ) → k < n → f k < g k → sum n f < sum n g
unfolding sum
sum_lt zero f g h k l m = absurd (let x : ⊥ = omega arith in x)
sum_lt (suc n) f g h k l m =
    below_suc n k l
    (λ e. let q : f n < g n = rw e at m in omega (arith, sum-le n f g h))
    (λ b. omega (arith, h n, sum_lt n f g h k b m))

pub sum-zero : (n : ℕ) (f : ℕ → ℕ) → ((k : ℕ) → k < n → f k ≡ 0) → sum n f ≡ 0
unfolding sum
sum-zero zero f h = refl
sum-zero (suc n) f h = rw (h n (omega arith), sum-zero n f (λ k l. h k (omega arith)))

pub sum-add : (n : ℕ) (f g : ℕ → ℕ) → sum n (λ (k : ℕ). f k + g k) ≡ sum n f + sum n g
unfolding sum
sum-add zero f g = refl
sum-add (suc n) f g = omega (arith, sum-add n f g)

pub sum-mul : (n c : ℕ) (f : ℕ → ℕ) → sum n (λ (k : ℕ). c * f k) ≡ c * sum n f
unfolding sum
sum-mul zero c f = sym (mul-zero c)
sum-mul (suc n) c f = rw (sum-mul n c f, mul-add c (f n) (sum n f))

-- Sums change places.
pub sum-swap : (m n : ℕ) (f : ℕ → ℕ → ℕ) → sum m (λ (i : ℕ). sum n (f i)) ≡ sum n (λ (j : ℕ). sum m (λ (i : ℕ). f i j))
unfolding sum
sum-swap zero n f = sym (sum-zero n _ (λ k l. refl))
sum-swap (suc m) n f = rw (sum-swap m n f) (sym (sum-add n (f m) (λ (j : ℕ). sum m (λ (i : ℕ). f i j))))

pub product-cong : (n : ℕ) (f g : ℕ → ℕ) → ((k : ℕ) → k < n → f k ≡ g k) → product n f ≡ product n g
unfolding product
product-cong zero f g h = refl
product-cong (suc n) f g h = rw (h n (omega arith), product-cong n f g (λ k l. h k (omega arith)))

-- A product with a factor 0 is 0, whatever the others are.
pub product-zero : (n : ℕ) (f : ℕ → ℕ) (k : ℕ) → k < n → f k ≡ 0 → product n f ≡ 0
unfolding product
product-zero zero f k l h = absurd (let x : ⊥ = omega arith in x)
product-zero (suc n) f k l h =
    below_suc n k l
    (λ e. rw (ap f (sym e) ∙ h) (zero-mul (product n f)))
    (λ s. rw (product-zero n f k s h) (mul-zero (f n)))

-- and only such a product is.
pub product-some : {A : Type 0} (n : ℕ) (f : ℕ → ℕ) → product n f ≡ 0 → ((k : ℕ) → k < n → f k ≡ 0 → A) → A
unfolding product
product-some zero f h g = absurd (let x : ⊥ = omega arith in x)
product-some (suc n) f h g =
    by_cases (eqb (f n) 0)
    (λ t. g n (omega arith) (eqb-true (f n) 0 t))
    (λ t. let d : f n ≡ 0 → ⊥ = eqb-false (f n) 0 t in
    let l : 1 * product n f ≤ f n * product n f = mul-le-mul_right (product n f) (omega arith) in
    product-some n f (omega arith) (λ k m e. g k (omega arith) e))

-- A product that is cut down to m at every factor is in the end what the whole product is when cut down to m: it need not wrap.
pub product-capped : (m p c : ℕ) → min (c * min p m) m ≡ min (c * p) m
product-capped m p zero = rw (zero-mul (min p m), zero-mul p)
product-capped m p (suc c) =
    by_cases (leb p m)
    (λ t. rw (min-eq_left (leb-true p m t)))
    (λ t. let l : m ≤ p = omega (arith, leb-false p m t) in
    let a : m ≤ suc c * m = omega (arith, suc-mul c m) in
    let b : m ≤ suc c * p = omega (arith, suc-mul c p) in
    rw (min-eq_right l) (min-eq_right a ∙ sym (min-eq_right b)))

-- A sum has just one term where all others are 0.
pub sum_one : (n : ℕ) (f : ℕ → ℕ) (k : ℕ) → k < n → ((j : ℕ) → j < n → (j ≡ k → ⊥) → f j ≡ 0) → sum n f ≡ f k
unfolding sum
sum_one zero f k l h = absurd (let x : ⊥ = omega arith in x)
sum_one (suc n) f k l h =
    below_suc n k l
    (λ e. let z : sum n f ≡ 0 = sum-zero n f (λ j m. h j (omega arith) (λ q. let x : ⊥ = omega arith in x)) in
    rw (z, e) (omega arith))
    (λ s. let z : f n ≡ 0 = h n (omega arith) (λ q. let x : ⊥ = omega arith in x) in
    let r : sum n f ≡ f k = sum_one n f k s (λ j m d. h j (omega arith) d) in
    omega arith)

-- Where none passes the count is 0.
pub count_none : (n : ℕ) (p : ℕ → Bool) → some n p ≡ false → count n p ≡ 0
unfolding count
count_none n p h = sum-zero n _ (λ k l. bit-false (p k) (none_of n p h k l))

pub count-le : (n : ℕ) (p : ℕ → Bool) → count n p ≤ n
unfolding count sum
count-le zero p = omega arith
count-le (suc n) p = omega (arith, bit_le (p n), count-le n p)

-- A number that passes is counted, and a count above 0 has one.
pub count-pos : (n : ℕ) (p : ℕ → Bool) (k : ℕ) → k < n → p k ≡ true → 1 ≤ count n p
unfolding count sum
count-pos zero p k l h = absurd (let x : ⊥ = omega arith in x)
count-pos (suc n) p k l h =
    below_suc n k l
    (λ e. omega (arith, bit-true (p n) (subst (λ (m : ℕ). p m ≡ true) e h)))
    (λ s. omega (arith, count-pos n p k s h))

pub count-some : {A : Type 0} (n : ℕ) (p : ℕ → Bool) → 1 ≤ count n p → ((k : ℕ) → k < n → p k ≡ true → A) → A
unfolding count sum
count-some zero p h f = absurd (let x : ⊥ = omega arith in x)
count-some (suc n) p h f =
    by_cases (p n)
    (λ t. f n (omega arith) t)
    (λ t. count-some n p (omega (arith, bit-false (p n) t)) (λ k l e. f k (omega arith) e))

-- At most one passes exactly when any two that pass are equal.
pub count-two : (n : ℕ) (p : ℕ → Bool) → count n p ≤ 1 → (j k : ℕ) → j < n → k < n → p j ≡ true → p k ≡ true → j ≡ k
unfolding count sum
count-two zero p h j k l m a b = absurd (let x : ⊥ = omega arith in x)
count-two (suc n) p h j k l m a b =
    below_suc n j l
    (λ e. below_suc n k m
    (λ q. e ∙ sym q)
    (λ s. absurd (let x : ⊥ = omega (arith, bit-true (p n) (subst (λ (m : ℕ). p m ≡ true) e a), count-pos n p k s b) in x)))
    (λ s. below_suc n k m
    (λ q. absurd (let x : ⊥ = omega (arith, bit-true (p n) (subst (λ (m : ℕ). p m ≡ true) q b), count-pos n p j s a) in x))
    (λ t. count-two n p (omega arith) j k s t a b))

pub count-unique : (n : ℕ) (p : ℕ → Bool) → ((j k : ℕ) → j < n → k < n → p j ≡ true → p k ≡ true → j ≡ k) → count n p ≤ 1
unfolding count sum
count-unique zero p h = omega arith
count-unique (suc n) p h =
    by_cases (p n)
    (λ t. let z : count n p ≡ 0 = sum-zero n _ (λ k l. bit-false (p k) (not-true→false (p k) (λ q. absurd (let x : ⊥ = omega (arith, h n k (omega arith) (omega arith) t q) in x)))) in
    omega (arith, bit_le (p n), z))
    (λ t. omega (arith, bit-false (p n) t, count-unique n p (λ j k l m a b. h j k (omega arith) (omega arith) a b)))

-- Exactly one passes.
pub count-one : (n : ℕ) (p : ℕ → Bool) (k : ℕ) → k < n → p k ≡ true → ((j : ℕ) → j < n → p j ≡ true → j ≡ k) → count n p ≡ 1
count-one n p k l h u =
    let a : 1 ≤ count n p = count-pos n p k l h in
    let b : count n p ≤ 1 = count-unique n p (λ i j li lj hi hj. u i li hi ∙ sym (u j lj hj)) in
    omega arith

-- What passes p passes q too or does not.
pub count-split : (n : ℕ) (p q : ℕ → Bool)
    → count n (λ (k : ℕ). and (p k) (q k)) + count n (λ (k : ℕ). and (p k) (not (q k))) ≡ count n p
unfolding count
count-split n p q = sym (sum-add n _ _) ∙ sum-cong n _ _ (λ k l. bit-split (p k) (q k))

-- One that passes taken out: the count is one less.
pub count-without : (n : ℕ) (p : ℕ → Bool) (k : ℕ) → k < n → p k ≡ true
    → suc (count n (λ (i : ℕ). and (p i) (not (eqb i k)))) ≡ count n p
count-without n p k l h =
    let one : count n (λ (i : ℕ). and (p i) (eqb i k)) ≡ 1 =
    count-one n _ k l (and_i _ _ h (eq-eqb k k refl)) (λ i m t. eqb-true i k (and_r (p i) _ t)) in
    omega (arith, count-split n p (λ (i : ℕ). eqb i k))

-- Where fewer pass, fewer are counted.
pub count-fewer : (n : ℕ) (p q : ℕ → Bool) → ((k : ℕ) → k < n → p k ≡ true → q k ≡ true) → count n p ≤ count n q
count-fewer n p q h =
    let e : count n (λ (k : ℕ). and (q k) (p k)) ≡ count n p = count-cong n _ _ λ k l. bool-ext _ _ (and_r _ _) (λ t. and_i _ _ (h k l t) t) in
    omega (arith, count-split n q p)

-- Where all pass, all are counted,
pub count-all : (n : ℕ) (p : ℕ → Bool) → ((k : ℕ) → k < n → p k ≡ true) → count n p ≡ n
unfolding count sum
count-all zero p h = refl
count-all (suc n) p h = omega (arith, bit-true (p n) (h n (omega arith)), count-all n p (λ k l. h k (omega arith)))

-- and a count that is not full leaves one out.
pub count_room : {A : Type 0} (n : ℕ) (p : ℕ → Bool) → count n p < n → ((k : ℕ) → k < n → p k ≡ false → A) → A
count_room n p l f =
    by_cases (some n (λ (k : ℕ). not (p k)))
    (λ t. some-e n _ t λ k m u. f k m (not-e _ u))
    (λ t. absurd (let x : ⊥ = omega (arith, count-all n p λ k m. by_cases (p k) (λ u. u) (λ u. clash (not-i _ u) (none_of n _ t k m))) in x))

-- n numbers of at most 1 add up to at most n,
pub sum-most : (n : ℕ) (f : ℕ → ℕ) → ((k : ℕ) → k < n → f k ≤ 1) → sum n f ≤ n
unfolding sum
sum-most zero f h = omega arith
sum-most (suc n) f h = omega (arith, h n (omega arith), sum-most n f λ k l. h k (omega arith))

-- and where they add up to n they are 1.
pub sum-full : (n : ℕ) (f : ℕ → ℕ) → ((k : ℕ) → k < n → f k ≤ 1) → sum n f ≡ n → (k : ℕ) → k < n → f k ≡ 1
unfolding sum
sum-full zero f h e k l = absurd (let x : ⊥ = omega arith in x)
sum-full (suc n) f h e k l =
    let a : f n ≤ 1 = h n (omega arith) in
    let b : sum n f ≤ n = sum-most n f (λ i m. h i (omega arith)) in
    below_suc n k l
    (λ q. ap f q ∙ (let x : f n ≡ 1 = omega arith in x))
    (λ s. sum-full n f (λ i m. h i (omega arith)) (omega arith) k s)

-- The search: it stays within the bound, what it finds passes, and all below it fails.
pub first-le : (n : ℕ) (p : ℕ → Bool) → first n p ≤ n
unfolding first if
first-le zero p = omega arith
first-le (suc n) p = by_cases (p zero) (λ t. rw t (omega arith)) (λ t. rw t (omega (arith, first-le n (λ (k : ℕ). p (suc k)))))

past : (n : ℕ) (p : ℕ → Bool) (k : ℕ) → k < suc (first n (λ (i : ℕ). p (suc i))) → p zero ≡ false
    → ((m : ℕ) → m < first n (λ (i : ℕ). p (suc i)) → p (suc m) ≡ false)
    → p k ≡ false
past n p zero l t f = t
past n p (suc k) l t f = f k (omega arith)

pub first_below : (n : ℕ) (p : ℕ → Bool) (k : ℕ) → k < first n p → p k ≡ false
unfolding first if
first_below zero p k h = absurd (let x : ⊥ = omega arith in x)
first_below (suc n) p k h =
    by_cases (p zero)
    (λ t. absurd (let x : ⊥ = omega (arith, (rw t at h)) in x))
    (λ t. past n p k (rw t at h) t (λ m l. first_below n (λ (i : ℕ). p (suc i)) m l))

pub first_passes : (n : ℕ) (p : ℕ → Bool) → first n p < n → p (first n p) ≡ true
unfolding first if
first_passes zero p h = absurd (let x : ⊥ = omega arith in x)
first_passes (suc n) p h = by_cases (p zero) (λ t. rw t t) (λ t. rw t (first_passes n (λ (k : ℕ). p (suc k)) (omega (arith, (rw t at h)))))

-- Where some number passes the search finds one, and the lowest.
pub first_some : (n : ℕ) (p : ℕ → Bool) → some n p ≡ true → first n p < n
first_some n p h = some-e n p h (λ k l e. by_cases (leb n (first n p))
    (λ t. clash e (first_below n p k (omega (arith, leb-true n (first n p) t))))
    (λ t. leb-false n (first n p) t))

-- The lowest number that passes is what the search finds.
pub first_is : (n : ℕ) (p : ℕ → Bool) (k : ℕ) → k < n → p k ≡ true → ((j : ℕ) → j < k → p j ≡ false) → first n p ≡ k
first_is n p k l h u =
    let s : first n p < n = first_some n p (some-i n p k l h) in
    by_cases (ltb (first n p) k)
    (λ t. clash (first_passes n p s) (u (first n p) (ltb-true (first n p) k t)))
    (λ t. by_cases (ltb k (first n p))
    (λ r. clash h (first_below n p k (ltb-true k (first n p) r)))
    (λ r. omega (arith, ltb-false (first n p) k t, ltb-false k (first n p) r)))

pub first_cong : (n : ℕ) (p q : ℕ → Bool) → ((k : ℕ) → k < n → p k ≡ q k) → first n p ≡ first n q
unfolding first
first_cong zero p q h = refl
first_cong (suc n) p q h =
    rw (h zero (omega arith), first_cong n (λ (k : ℕ). p (suc k)) (λ (k : ℕ). q (suc k)) (λ k l. h (suc k) (omega arith)))

-- A test of every pair of numbers below n.
pub pairs-i : (n : ℕ) (p : ℕ → ℕ → Bool) → ((x y : ℕ) → x < n → y < n → p x y ≡ true) → every n (λ (x : ℕ). every n (p x)) ≡ true
pairs-i n p h = every-i n _ (λ x l. every-i n (p x) (λ y m. h x y l m))

pub pairs-e : (n : ℕ) (p : ℕ → ℕ → Bool) → every n (λ (x : ℕ). every n (p x)) ≡ true → (x y : ℕ) → x < n → y < n → p x y ≡ true
pairs-e n p h x y l m = every-e n (p x) (every-e n _ h x l) y m

-- Past the last number that passes nothing more is counted,
pub count-widen : (n m : ℕ) (p : ℕ → Bool) → n ≤ m → ((k : ℕ) → n ≤ k → p k ≡ false) → count m p ≡ count n p
count-widen n zero p l h = ap (λ (x : ℕ). count x p) (omega arith)
count-widen n (suc m) p l h =
    by_cases (ltb m n)
    (λ t. ap (λ (x : ℕ). count x p) (omega (arith, ltb-true m n t)))
    (λ t. let e : count (suc m) p ≡ bit (p m) + count m p = unfold count sum in refl in
    omega (arith, e, bit-false (p m) (h m (ltb-false m n t)), count-widen n m p (ltb-false m n t) h))

-- and the lowest that passes is the same.
pub first-widen : (n m : ℕ) (p : ℕ → Bool) → n ≤ m → some n p ≡ true → first m p ≡ first n p
first-widen n m p l h =
    let s : first n p < n = first_some n p h in
    first_is m p (first n p) (omega arith) (first_passes n p s) (first_below n p)
