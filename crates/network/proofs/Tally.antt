-- The tally, turn by turn: a law for each way through a function that chooses a variable and one that tries its values.
use mathlib.Core.Bool.{Bool, true, false}
use mathlib.Core.Path.{◌≡◌, refl, sym, ◌∙◌, ap, fun_ext}
use Prim.Native.Nat.{ℕ, zero, suc, ◌+◌, ◌*◌, ◌≤◌, ◌<◌, min}
use native.Mathlib.Nat.{mul-one, one-mul, zero-mul, mul_comm, mul-le-mul, mul-le-mul_right, zero-add, add_comm, add_assoc, le_trans, min-eq_left, min-eq_right}
use native.Mathlib.Omega.{arith}
use lib.Dec.{eqb, leb, ltb}
use borrow.Author.Tests.{eq-eqb, ne_eqb, eqb-true, eqb-false, leb-true, leb-false, lt-ltb, ltb-true, ltb-false}
use Rattle.bounded.specs.Bool.{and, or, implies, not, bit, if}
use Rattle.bounded.specs.Fold.{some, sum, product, count}
use Rattle.bounded.proofs.Bool.{by_cases, clash, bool-ext, not-true→false, and_i, and_l, and_r, and-holds, and-fails, or_l, or_r, or_elim, if-true, if-false, bit-true, bit-false, bit_le}
use Rattle.bounded.proofs.Fold.{below_suc, some-i, some-e, some-none, sum-cong, sum-mul, sum-zero, product-cong, count-pos}
use Rattle.network.specs.Network.{Network, free}
use Rattle.network.specs.Completion.{exhausted}
use Rattle.network.specs.Survey.{Tally, nothing, joined, taken, narrowed_by, tallied, tied, settled_domain, settled, tied_values, tied_product}
use Rattle.network.proofs.Completion.{not-exhausted}
use Rattle.network.proofs.Turns.{from-here}
use Rattle.network.proofs.Survey.{tally-skip, tally-try, tally-sum, tried, tried-taken, tried-nothing, product-from, count-sum, tied-count, tied-not, tied-eliminated}

-- A sum and one of its terms taken out.
sum-without : (n : ℕ) (f g : ℕ → ℕ) (k : ℕ) → k < n → g k ≡ 0 → ((j : ℕ) → j < n → (j ≡ k → ⊥) → g j ≡ f j) → sum n f ≡ f k + sum n g
unfolding sum
sum-without zero f g k l z h = absurd (let x : ⊥ = omega arith in x)
sum-without (suc n) f g k l z h =
    below_suc n k l
    (λ e. let q : f k ≡ f n = ap f e in
    let r : g k ≡ g n = ap g e in
    omega (arith, sum-cong n g f (λ j m. h j (omega arith) (λ w. let x : ⊥ = omega arith in x))))
    (λ b. omega (arith, sum-without n f g k b z (λ j m. h j (omega arith)), h n (omega arith) (λ w. let x : ⊥ = omega arith in x)))

some-without : (n : ℕ) (p q : ℕ → Bool) (k : ℕ) → k < n → q k ≡ false → ((j : ℕ) → j < n → (j ≡ k → ⊥) → q j ≡ p j)
    → some n p ≡ or (p k) (some n q)
some-without n p q k l z h =
    bool-ext _ _
    (λ t. some-e n p t (λ j m s. by_cases (eqb j k)
    (λ e. or_l _ _ (rw (eqb-true j k e) at s))
    (λ e. or_r _ _ (some-i n q j m (h j m (eqb-false j k e) ∙ s)))))
    (λ t. or_elim (p k) (some n q) t
    (λ s. some-i n p k l s)
    (λ s. some-e n q s (λ j m r. by_cases (eqb j k)
    (λ e. clash (rw (eqb-true j k e) at r) z)
    (λ e. some-i n p j m (sym (h j m (eqb-false j k e)) ∙ r)))))

joined-used : (n : ℕ) (t : ℕ → Tally) (i u : ℕ) → (joined n t).used i u ≡ some n (λ (v : ℕ). (t v).used i u)
unfolding joined
joined-used n t i u = refl

module _ (N : Network) (T : ℕ → Bool) where
  -- The domains agree at the variables of T from k on.
  abbrev pub Alike : (ℕ → ℕ → Bool) → (ℕ → ℕ → Bool) → ℕ → Type 0
  Alike D E k = (j u : ℕ) → k ≤ j → j < N.n → T j ≡ true → D j u ≡ E j u

  -- Only they count.
  pub tally-cong : (left k : ℕ) (D E : ℕ → ℕ → Bool) → k + left ≡ N.n → Alike D E k → tallied N T left k D ≡ tallied N T left k E
  unfolding narrowed_by
  tally-cong zero k D E e h = unfold tallied in refl
  tally-cong (suc left) k D E e h =
      by_cases (T k)
      (λ t. tally-try N T left k D t
      ∙ ap (joined (N.size k)) (fun_ext (λ v.
      let same = h k v (omega arith) (omega arith) t in
      let ih : tallied N T left (suc k) (narrowed_by N D k v) ≡ tallied N T left (suc k) (narrowed_by N E k v) =
      tally-cong left (suc k) (narrowed_by N D k v) (narrowed_by N E k v) (omega arith)
      (λ j u a m q. ap (λ (b : Bool). and b (implies (N.stated k j) (N.allows k j v u))) (h j u (omega arith) m q)) in
      by_cases (E k v)
      (λ d. tried-taken N T left k D v (same ∙ d) ∙ ap (taken k v) ih ∙ sym (tried-taken N T left k E v d))
      (λ d. tried-nothing N T left k D v (same ∙ d) ∙ sym (tried-nothing N T left k E v d))))
      ∙ sym (tally-try N T left k E t))
      (λ t. tally-skip N T left k D t
      ∙ tally-cong left (suc k) D E (omega arith) (λ j u a. h j u (omega arith))
      ∙ sym (tally-skip N T left k E t))

  -- Variables that are not of T are passed over.
  pub tally-past : (d left rest k m : ℕ) (D : ℕ → ℕ → Bool) → m ≡ k + d → left ≡ d + rest → ((i : ℕ) → k ≤ i → i < m → T i ≡ false)
      → tallied N T left k D ≡ tallied N T rest m D
  tally-past zero left rest k m D e q h = let a : m ≡ k = omega arith in let b : left ≡ rest = omega arith in rw (a, b)
  tally-past (suc d) left rest k m D e q h =
      let b : left ≡ suc (d + rest) = omega arith in
      rw b (tally-skip N T (d + rest) k D (h k (omega arith) (omega arith))
      ∙ tally-past d (d + rest) rest (suc k) m D (omega arith) refl (λ i a. h i (omega arith)))

  -- None is left: one choice, of nothing.
  pub tally-end : (left k : ℕ) (D : ℕ → ℕ → Bool) → k + left ≡ N.n → ((i : ℕ) → k ≤ i → i < N.n → T i ≡ false)
      → ((tallied N T left k D).count ≡ 1) × ((i v : ℕ) → (tallied N T left k D).used i v ≡ false)
  unfolding tallied
  tally-end left k D e h = rw (tally-past left left 0 k N.n D (omega arith) (omega arith) h) (refl, λ i v. refl)

  module _ (left k : ℕ) (D : ℕ → ℕ → Bool) (e : k + suc left ≡ N.n) (t : T k ≡ true) where
    tally-used : (i u : ℕ) → (tallied N T (suc left) k D).used i u ≡ some (N.size k) (λ (v : ℕ). (tried N T left k D v).used i u)
    unfolding joined
    tally-used i u = rw (tally-try N T left k D t)

    -- No value is left: no choice.
    pub tally-none : ((v : ℕ) → D k v ≡ false)
        → ((tallied N T (suc left) k D).count ≡ 0) × ((i u : ℕ) → (tallied N T (suc left) k D).used i u ≡ false)
    unfolding nothing
    tally-none h = (
      tally-sum N T left k D t ∙ sum-zero (N.size k) _ (λ v l. rw (bit-false _ (h v)) (zero-mul _)),
      λ i u. tally-used i u ∙ some-none (N.size k) _ (λ v l. rw (tried-nothing N T left k D v (h v))),
    )

    -- The value v is taken, E are the domains after it, and F those without it.
    module _ (v : ℕ) (E F : ℕ → ℕ → Bool) (l : v < N.size k) (d : D k v ≡ true) (same : Alike (narrowed_by N D k v) E (suc k))
        (dropped : F k v ≡ false) (kept : (u : ℕ) → (u ≡ v → ⊥) → F k u ≡ D k u) (others : (j u : ℕ) → suc k ≤ j → F j u ≡ D j u) where
      -- What the other values give is the same.
      kept-tried : (u : ℕ) → (u ≡ v → ⊥) → tried N T left k F u ≡ tried N T left k D u
      unfolding narrowed_by
      kept-tried u q =
          let ih : tallied N T left (suc k) (narrowed_by N F k u) ≡ tallied N T left (suc k) (narrowed_by N D k u) =
          tally-cong left (suc k) (narrowed_by N F k u) (narrowed_by N D k u) (omega arith)
          (λ j w a m r. ap (λ (b : Bool). and b (implies (N.stated k j) (N.allows k j u w))) (others j w a)) in
          by_cases (D k u)
          (λ s. tried-taken N T left k F u (kept u q ∙ s) ∙ ap (taken k u) ih ∙ sym (tried-taken N T left k D u s))
          (λ s. tried-nothing N T left k F u (kept u q ∙ s) ∙ sym (tried-nothing N T left k D u s))

      here-tried : tried N T left k D v ≡ taken k v (tallied N T left (suc k) E)
      here-tried =
          tried-taken N T left k D v d
          ∙ ap (taken k v) (tally-cong left (suc k) (narrowed_by N D k v) E (omega arith) same)

      -- Counts are added,
      pub value-count : (tallied N T (suc left) k D).count ≡ (tallied N T left (suc k) E).count + (tallied N T (suc left) k F).count
      unfolding joined taken nothing
      value-count =
          rw (tally-try N T left k D t, tally-try N T left k F t)
          (sum-without (N.size k) (λ (u : ℕ). (tried N T left k D u).count) (λ (u : ℕ). (tried N T left k F u).count) v l
          (rw (tried-nothing N T left k F v dropped))
          (λ u m q. ap (λ (x : Tally). x.count) (kept-tried u q))
          ∙ rw here-tried)

      -- and words are joined.
      pub value-used : (i u : ℕ) → (tallied N T (suc left) k D).used i u
          ≡ or ((taken k v (tallied N T left (suc k) E)).used i u) ((tallied N T (suc left) k F).used i u)
      unfolding nothing
      value-used i u =
          tally-used i u
          ∙ some-without (N.size k) (λ (w : ℕ). (tried N T left k D w).used i u) (λ (w : ℕ). (tried N T left k F w).used i u) v l
          (rw (tried-nothing N T left k F v dropped))
          (λ w m q. ap (λ (x : Tally). x.used i u) (kept-tried w q))
          ∙ rw (here-tried, sym (used-f i u))
        where
          used-f : (i u : ℕ) → (tallied N T (suc left) k F).used i u ≡ some (N.size k) (λ (w : ℕ). (tried N T left k F w).used i u)
          used-f i u = ap (λ (x : Tally). x.used i u) (tally-try N T left k F t) ∙ joined-used (N.size k) (tried N T left k F) i u

    -- k is the last one: each of its values is a choice.
    module _ (none_after : (i : ℕ) → suc k ≤ i → i < N.n → T i ≡ false) where
      after : (E : ℕ → ℕ → Bool) → ((tallied N T left (suc k) E).count ≡ 1) × ((i v : ℕ) → (tallied N T left (suc k) E).used i v ≡ false)
      after E = tally-end left (suc k) E (omega arith) none_after

      pub last-count : (tallied N T (suc left) k D).count ≡ count (N.size k) (D k)
      unfolding count
      last-count =
          tally-sum N T left k D t
          ∙ sum-cong (N.size k) _ _ (λ v l. rw (after (narrowed_by N D k v)).0 (mul-one (bit (D k v))))

      last-tried : (v i u : ℕ) → (tried N T left k D v).used i u ≡ and (D k v) (and (eqb i k) (eqb u v))
      unfolding taken nothing or
      last-tried v i u =
          let q = after (narrowed_by N D k v) in
          by_cases (D k v)
          (λ d. rw (tried-taken N T left k D v d, q.1 i u, q.0, d) (and-holds _ _ (lt-ltb 0 1 (omega arith)) ∙ sym (and-holds true _ refl)))
          (λ d. rw (tried-nothing N T left k D v d) (sym (and-fails _ _ d)))

      pub last-used : ((u : ℕ) → D k u ≡ true → u < N.size k) → (i u : ℕ) → (tallied N T (suc left) k D).used i u ≡ and (eqb i k) (D k u)
      last-used within i u =
          tally-used i u
          ∙ bool-ext _ _
          (λ h. some-e (N.size k) _ h (λ v m q.
          let r = sym (last-tried v i u) ∙ q in
          let w = and_r _ _ r in
          let e : u ≡ v = eqb-true u v (and_r _ _ w) in
          and_i _ _ (and_l _ _ w) (rw e (and_l _ _ r))))
          (λ h. some-i (N.size k) _ u (within u (and_r _ _ h)) (last-tried u i u ∙ and_i _ _ (and_r _ _ h) (and_i _ _ (and_l _ _ h) (eq-eqb u u refl))))

-- ---- the count is no more than the product

sum_mono : (n : ℕ) (f g : ℕ → ℕ) → ((k : ℕ) → k < n → f k ≤ g k) → sum n f ≤ sum n g
unfolding sum
sum_mono zero f g h = omega arith
sum_mono (suc n) f g h = omega (arith, h n (omega arith), sum_mono n f g (λ k l. h k (omega arith)))

product-mono : (n : ℕ) (f g : ℕ → ℕ) → ((k : ℕ) → k < n → f k ≤ g k) → product n f ≤ product n g
unfolding product
product-mono zero f g h = omega arith
product-mono (suc n) f g h = mul-le-mul (h n (omega arith)) (product-mono n f g (λ k l. h k (omega arith)))

bit-mono : (a b : Bool) → (a ≡ true → b ≡ true) → bit a ≤ bit b
bit-mono a b h = by_cases a (λ t. omega (arith, bit-true b (h t), bit_le a)) (λ t. omega (arith, bit-false a t))

count-mono : (n : ℕ) (p q : ℕ → Bool) → ((k : ℕ) → k < n → p k ≡ true → q k ≡ true) → count n p ≤ count n q
unfolding count
count-mono n p q h = sum_mono n _ _ (λ k l. bit-mono (p k) (q k) (h k l))

module _ (N : Network) (T : ℕ → Bool) where
  -- How many values are tried at a variable.
  pub tryable : (ℕ → ℕ → Bool) → ℕ → ℕ
  tryable D i = if (T i) (count (N.size i) (D i)) 1

  pub tryable-of : (D : ℕ → ℕ → Bool) (i : ℕ) → T i ≡ true → tryable D i ≡ count (N.size i) (D i)
  unfolding tryable
  tryable-of D i t = if-true _ _ _ t

  pub tryable-not : (D : ℕ → ℕ → Bool) (i : ℕ) → T i ≡ false → tryable D i ≡ 1
  unfolding tryable
  tryable-not D i t = if-false _ _ _ t

  tryable-mono : (D E : ℕ → ℕ → Bool) (i : ℕ) → ((u : ℕ) → D i u ≡ true → E i u ≡ true) → tryable D i ≤ tryable E i
  tryable-mono D E i h =
      by_cases (T i)
      (λ t. rw (tryable-of D i t, tryable-of E i t) (count-mono (N.size i) (D i) (E i) (λ u l. h u)))
      (λ t. omega (arith, tryable-not D i t, tryable-not E i t))

  pub tally-bound : (left k : ℕ) (D : ℕ → ℕ → Bool) → (tallied N T left k D).count ≤ product left (λ (i : ℕ). tryable D (k + i))
  unfolding narrowed_by
  tally-bound zero k D = unfold tallied product in (omega arith)
  tally-bound (suc left) k D =
      let P : ℕ = product left (λ (i : ℕ). tryable D (suc k + i)) in
      rw (product-from left k (tryable D))
      (by_cases (T k)
      (λ t. rw (tryable-of D k t, tally-sum N T left k D t)
      (let bounded : sum (N.size k) (λ (v : ℕ). bit (D k v) * (tallied N T left (suc k) (narrowed_by N D k v)).count)
      ≤ sum (N.size k) (λ (v : ℕ). P * bit (D k v)) =
      sum_mono (N.size k) _ _ (λ v l.
      rw (mul_comm (bit (D k v)) (tallied N T left (suc k) (narrowed_by N D k v)).count)
      (mul-le-mul
      (le_trans (tally-bound left (suc k) (narrowed_by N D k v))
      (product-mono left _ _ (λ i m. tryable-mono (narrowed_by N D k v) D (suc k + i) (λ u q. and_l _ _ q))))
      (omega arith))) in
      let total : sum (N.size k) (λ (v : ℕ). P * bit (D k v)) ≡ count (N.size k) (D k) * P =
      sum-mul (N.size k) P (λ (v : ℕ). bit (D k v)) ∙ ap (λ (x : ℕ). P * x) (count-sum (N.size k) (D k)) ∙ mul_comm P _ in
      omega arith))
      (λ t. rw (tryable-not D k t, tally-skip N T left k D t, one-mul P) (tally-bound left (suc k) D)))

-- So where no free domain is empty the tied choices are no more than the product that refuses.
pub tied-bound : (N : Network) → exhausted N ≡ false → (tallied N (tied N) N.n 0 N.domain).count ≤ tied_product N
unfolding tied_product
tied-bound N h =
    let same : product N.n (λ (i : ℕ). tryable N (tied N) N.domain (0 + i)) ≡ product N.n (tied_values N) =
    product-cong N.n _ _ (λ i l. ap (tryable N (tied N) N.domain) (zero-add i) ∙ value i l) in
    omega (arith, tally-bound N (tied N) N.n 0 N.domain)
  where
    value : (i : ℕ) → i < N.n → tryable N (tied N) N.domain i ≡ tied_values N i
    value i l =
        by_cases (tied N i)
        (λ t. tryable-of N (tied N) N.domain i t ∙ sym (tied-count N i t))
        (λ t. tryable-not N (tied N) N.domain i t
        ∙ by_cases (free N i)
        (λ u. sym (tied-not N i u t ∙ bit-true _ (not-exhausted N h i l u)))
        (λ u. sym (tied-eliminated N i u)))

-- ---- the cap

-- A sum that is cut down to m at every term is in the end what the whole sum is when cut down to m.
pub sum-capped : (m a b : ℕ) → min (min a m + min b m) m ≡ min (a + b) m
sum-capped m a b =
    by_cases (leb a m)
    (λ s. by_cases (leb b m)
    (λ t. rw (min-eq_left (leb-true a m s), min-eq_left (leb-true b m t)))
    (λ t. let l : m ≤ b = omega (arith, leb-false b m t) in
    rw (min-eq_right l) (min-eq_right (omega arith) ∙ sym (min-eq_right (omega arith)))))
    (λ s. let l : m ≤ a = omega (arith, leb-false a m s) in
    rw (min-eq_right l) (min-eq_right (omega arith) ∙ sym (min-eq_right (omega arith))))

-- So is one where a term joins what was cut down before.
pub sum_kept : (m a b : ℕ) → min (min a m + b) m ≡ min (a + b) m
sum_kept m a b =
    by_cases (leb a m)
    (λ s. rw (min-eq_left (leb-true a m s)))
    (λ s. let l : m ≤ a = omega (arith, leb-false a m s) in
    rw (min-eq_right l) (min-eq_right (omega arith) ∙ sym (min-eq_right (omega arith))))

-- What is counted of k's values so far, and the choices of one more and of the rest.
pub counts-join : (m s here c₁ c₂ : ℕ) → here ≡ min (0 + c₁) m → min (min (s + here) m + c₂) m ≡ min (s + (c₁ + c₂)) m
counts-join m s here c₁ c₂ e =
    let a : min (s + here) m ≡ min (s + c₁) m =
    ap (λ (x : ℕ). min (s + x) m) (e ∙ ap (λ (x : ℕ). min x m) (zero-add c₁))
    ∙ ap (λ (x : ℕ). min x m) (add_comm s (min c₁ m))
    ∙ sum_kept m c₁ s
    ∙ ap (λ (x : ℕ). min x m) (add_comm c₁ s) in
    ap (λ (x : ℕ). min (x + c₂) m) a ∙ sum_kept m (s + c₁) c₂ ∙ ap (λ (x : ℕ). min x m) (add_assoc s c₁ c₂)

or-false-is : (b : Bool) → or false b ≡ b
unfolding or
or-false-is b = refl

-- One more factor: there are more than m exactly where there were before, or where the product of what is kept passes m. (A factor 0, a list that is empty
-- or was emptied by a variable of one value, is told apart before: the whole count is then 0.)
pub more-capped : (m p s : ℕ) → 1 ≤ s → ltb m (s * p) ≡ or (ltb m p) (ltb m (s * min p m))
more-capped m p s l =
    by_cases (ltb m p)
    (λ t. let a : m < p = ltb-true m p t in
    let b : 1 * p ≤ s * p = mul-le-mul_right p l in
    lt-ltb m (s * p) (omega (arith, one-mul p)) ∙ sym (or_l _ _ t))
    (λ t. let a : p ≤ m = ltb-false m p t in
    rw (t, min-eq_left a) (sym (or-false-is (ltb m (s * p)))))

-- The tally of what is still tied is no more than the product that refuses, so it is never capped.
module _ (N : Network) where
  settled-tied : (i : ℕ) → tied (settled N) i ≡ true → tied N i ≡ true
  unfolding settled tied free
  settled-tied i t =
      and_i _ _ (and_l _ _ t)
      (some-e N.n _ (and_r _ _ t) (λ j m q. some-i N.n _ j m (and_i _ _ (and_l _ _ q) (and_l _ _ (and_r _ _ q)))))

  settled-within : (i u : ℕ) → settled_domain N i u ≡ true → N.domain i u ≡ true
  unfolding settled_domain
  settled-within i u h = and_l _ _ h

  values-pos : exhausted N ≡ false → (i : ℕ) → i < N.n → 1 ≤ tied_values N i
  values-pos h i l =
      by_cases (free N i)
      (λ t. let s = not-exhausted N h i l t in
      by_cases (tied N i)
      (λ u. some-e (N.size i) (N.domain i) s (λ a m d. omega (arith, tied-count N i u, count-pos (N.size i) (N.domain i) a m d)))
      (λ u. omega (arith, tied-not N i t u, bit-true _ s)))
      (λ t. omega (arith, tied-eliminated N i t))

  pub settled-bound : exhausted N ≡ false
      → (tallied (settled N) (tied (settled N)) N.n 0 (settled_domain N)).count ≤ tied_product N
  unfolding tied_product settled
  settled-bound h =
      le_trans (tally-bound (settled N) (tied (settled N)) N.n 0 (settled_domain N))
      (product-mono N.n _ _ (λ i l. rw (zero-add i) (value i l)))
    where
      value : (i : ℕ) → i < N.n → tryable (settled N) (tied (settled N)) (settled_domain N) i ≤ tied_values N i
      value i l =
          by_cases (tied (settled N) i)
          (λ t. let a = tryable-of (settled N) (tied (settled N)) (settled_domain N) i t in
          let b = tied-count N i (settled-tied i t) in
          let c : count (N.size i) (settled_domain N i) ≤ count (N.size i) (N.domain i) = count-mono (N.size i) _ _ (λ u _. settled-within i u) in
          omega arith)
          (λ t. omega (arith, tryable-not (settled N) (tied (settled N)) (settled_domain N) i t, values-pos h i l))
