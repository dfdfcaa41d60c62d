-- Good orders (document 02, L13): each place takes a permitted variable, one is always there, and the smallest at each place make the first good order.
use mathlib.Core.Bool.{Bool, true, false}
use mathlib.Core.List.{List}
use mathlib.Core.Logic.{◌↔◌}
use mathlib.Core.Path.{◌≡◌, refl, sym, ◌∙◌, ap, ap₂, subst, fun_ext}
use Prim.Native.Nat.{ℕ, zero, suc, pred, ◌≤◌, ◌<◌}
use native.Mathlib.Omega.{arith}
use lib.Dec.{eqb, leb, ltb}
use borrow.Author.Tests.{eq-eqb, ne_eqb, eqb-true, eqb-false, lt-ltb, le-ltb, le-leb, ltb-true, ltb-false, leb-true, leb-false}
use Rattle.bounded.specs.Bool.{and, or, not, bit, if}
use Rattle.bounded.specs.Fold.{every, some, sum, count, first}
use Rattle.bounded.proofs.Bool.{by_cases, clash, bool-ext, not-true→false, and_i, and_l, and_r, and-holds, or_elim, if-true, if-false, implies-i, implies-e, not-i, not-e}
use Rattle.bounded.proofs.Fold.{below_suc, every-i, every-e, some-i, some-e, none_of, sum-cong, sum-swap, count-pos, count-some, count-two, count-unique, count-one, count-split, count-without, first_below, first_some, first_passes, first_cong, count-fewer, count-all, count_room, sum-full}
use Rattle.words.specs.Word.{has, word}
use Rattle.words.proofs.Laws.{has-zero, has_word, word_none}
use Rattle.bounded.proofs.Table.{length-tabulate, get_d_tabulate}
use lib.ListN.{length, get_or}
use Rattle.network.specs.Network.{Network}
use Rattle.network.specs.Sound.{Sound}
use Rattle.network.specs.Reach.{Way, here, along, leads_to, reach}
use Rattle.network.specs.Order.{before, each_comes_once, good, governs, permitted, placed, found, Assembled, good_order, found_order, order_of, order_refusal, find_refusal, test_order, find_order}
use Rattle.network.proofs.Reach.{path_join, reach-path, reach-refl, reach-trans}

-- Orders that hold each variable once, and orders of different variables below n, are the same.
module _ (n : ℕ) (o : ℕ → ℕ) where
  pub once-in : each_comes_once n o ≡ true → (p : ℕ) → p < n → o p < n
  unfolding each_comes_once
  once-in h p l = ltb-true _ _ (every-e n _ (and_l _ _ h) p l)

  once-count : each_comes_once n o ≡ true → (x : ℕ) → x < n → count n (λ (p : ℕ). eqb (o p) x) ≡ 1
  unfolding each_comes_once
  once-count h x l = eqb-true _ _ (every-e n _ (and_r _ _ h) x l)

  pub once-distinct : each_comes_once n o ≡ true → (p q : ℕ) → p < n → q < n → o p ≡ o q → p ≡ q
  once-distinct h p q lp lq e =
      count-two n (λ (r : ℕ). eqb (o r) (o q)) (omega (arith, once-count h (o q) (once-in h q lq))) p q lp lq (eq-eqb _ _ e) (eq-eqb (o q) (o q) refl)

  -- Each variable has its place.
  pub once-place : {A : Type 0} → each_comes_once n o ≡ true → (x : ℕ) → x < n → ((p : ℕ) → p < n → o p ≡ x → A) → A
  once-place h x l f = count-some n _ (omega (arith, once-count h x l)) λ p m t. f p m (eqb-true _ _ t)

  pub once-i : ((p : ℕ) → p < n → o p < n) → ((p q : ℕ) → p < n → q < n → o p ≡ o q → p ≡ q) → each_comes_once n o ≡ true
  unfolding each_comes_once count bit
  once-i within distinct =
      and_i _ _ (every-i n _ λ p l. lt-ltb _ _ (within p l))
      (every-i n _ λ x l. eq-eqb _ _
      (sum-full n (λ (x : ℕ). count n (λ (p : ℕ). eqb (o p) x))
      (λ x m. count-unique n (λ (p : ℕ). eqb (o p) x) λ p q lp lq tp tq. distinct p q lp lq (eqb-true _ _ tp ∙ sym (eqb-true _ _ tq)))
      (sum-swap n n (λ (x p : ℕ). bit (eqb (o p) x))
      ∙ (sum-cong n _ (λ (p : ℕ). bit true) (λ p m. one p m) ∙ count-all n (λ (p : ℕ). true) (λ k m. refl)))
      x l))
    where
      one : (p : ℕ) → p < n → count n (λ (x : ℕ). eqb (o p) x) ≡ bit true
      one p m = count-one n _ (o p) (within p m) (eq-eqb (o p) (o p) refl) (λ x mx t. sym (eqb-true _ _ t))

-- Only the places below n count.
pub once-same : (n : ℕ) (o r : ℕ → ℕ) → ((p : ℕ) → p < n → o p ≡ r p) → each_comes_once n r ≡ true → each_comes_once n o ≡ true
once-same n o r same h =
    once-i n o
    (λ p l. subst (λ (y : ℕ). y < n) (sym (same p l)) (once-in n r h p l))
    (λ p q lp lq e. once-distinct n r h p q lp lq (sym (same p lp) ∙ (e ∙ same q lq)))

pub good-same : (n : ℕ) (R : ℕ → ℕ → Bool) (o r : ℕ → ℕ) → ((p : ℕ) → p < n → o p ≡ r p) → good n R r ≡ true → good n R o ≡ true
unfolding good
good-same n R o r same h = every-i n _ λ q m. every-i q _ λ p l.
    rw (same q m, same p (omega arith)) (every-e q _ (every-e n _ h q m) p l)

-- Who stands before a place.
module _ (o : ℕ → ℕ) where
  pub before-i : (p q x : ℕ) → q < p → o q ≡ x → before o p x ≡ true
  unfolding before
  before-i p q x l e = some-i p _ q l (eq-eqb _ _ e)

  pub before-e : {A : Type 0} (p x : ℕ) → before o p x ≡ true → ((q : ℕ) → q < p → o q ≡ x → A) → A
  unfolding before
  before-e p x h f = some-e p _ h λ q l t. f q l (eqb-true _ _ t)

  -- They are at most p.
  pub before-count : (n p : ℕ) → count n (before o p) ≤ p
  unfolding before some
  before-count n zero =
      by_cases (leb (count n (λ (x : ℕ). false)) 0) (λ t. leb-true _ _ t)
      (λ t. count-some n _ (leb-false _ _ t) λ k l e. clash e refl)
  before-count n (suc p) =
      let one : count n (λ (x : ℕ). and (before o (suc p) x) (not (before o p x))) ≤ 1 =
      count-unique n _ λ x y lx ly tx ty. newest x tx ∙ sym (newest y ty) in
      let old : count n (λ (x : ℕ). and (before o (suc p) x) (before o p x)) ≤ count n (before o p) =
      count-fewer n _ _ λ x l t. and_r _ _ t in
      omega (arith, count-split n (before o (suc p)) (before o p), before-count n p)
    where
      newest : (x : ℕ) → and (before o (suc p) x) (not (before o p x)) ≡ true → x ≡ o p
      newest x t = or_elim _ _ (and_l _ _ t) (λ e. sym (eqb-true _ _ e)) (λ e. clash e (not-e _ (and_r _ _ t)))

-- The test of a list in one pass: each number is below n and was not there before.
pub once-pass : (n : ℕ) (o : ℕ → ℕ) → each_comes_once n o ≡ every n (λ (p : ℕ). and (ltb (o p) n) (not (before o p (o p))))
once-pass n o = bool-ext _ _
    (λ h. every-i n _ λ p l. and_i _ _ (lt-ltb _ _ (once-in n o h p l))
    (not-i _ (not-true→false _ λ b. before-e o p (o p) b λ q k e.
    let x : ⊥ = omega (arith, once-distinct n o h q p (omega arith) l e) in x)))
    (λ h. let new : (p q : ℕ) → p < q → q < n → o p ≡ o q → ⊥ = λ p q k m e.
    clash (before-i o q p (o q) k e) (not-e _ (and_r _ _ (every-e n _ h q m))) in
    once-i n o (λ p l. ltb-true _ _ (and_l _ _ (every-e n _ h p l)))
    (λ p q lp lq e. by_cases (ltb p q)
    (λ t. absurd (new p q (ltb-true p q t) lq e))
    (λ t. by_cases (ltb q p)
    (λ u. absurd (new q p (ltb-true q p u) lp (sym e)))
    (λ u. omega (arith, ltb-false p q t, ltb-false q p u)))))

-- R is a preorder: paths.
module _ (n : ℕ) (R : ℕ → ℕ → Bool) (self : (x : ℕ) → R x x ≡ true) (join : (x y z : ℕ) → R x y ≡ true → R y z ≡ true → R x z ≡ true) where
  pub permitted-e : (T : ℕ → Bool) (i : ℕ) → permitted n R T i ≡ true
      → (T i ≡ false) × ((j : ℕ) → j < n → T j ≡ false → R j i ≡ true → R i j ≡ true)
  unfolding permitted
  permitted-e T i h = (
    not-e _ (and_l _ _ h),
    λ j l u r. implies-e _ _ (every-e n _ (and_r _ _ h) j l) (and_i _ _ (not-i _ u) r),
  )

  pub permitted-i : (T : ℕ → Bool) (i : ℕ) → T i ≡ false
      → ((j : ℕ) → j < n → T j ≡ false → R j i ≡ true → R i j ≡ true)
      → permitted n R T i ≡ true
  unfolding permitted
  permitted-i T i u h = and_i _ _ (not-i _ u) (every-i n _ λ j l. implies-i _ _ λ t. h j l (not-e _ (and_l _ _ t)) (and_r _ _ t))

  -- y is not placed and governs x. As words: the bits that are not placed, and of them those in the column of x and not in its row.
  pub bars : (ℕ → Bool) → ℕ → ℕ → Bool
  bars T x y = and (not (T y)) (governs n R y x)

  -- Who bars one that bars x bars x, and does not bar itself: so there are fewer of them.
  bars-fewer : (T : ℕ → Bool) (x y : ℕ) → y < n → bars T x y ≡ true → suc (count n (bars T y)) ≤ count n (bars T x)
  unfolding bars governs
  bars-fewer T x y l b =
      let yx : R y x ≡ true = and_l _ _ (and_r _ _ b) in
      let no : R x y ≡ false = not-e _ (and_r _ _ (and_r _ _ b)) in
      let within : count n (bars T y) ≤ count n (λ (z : ℕ). and (bars T x z) (not (eqb z y))) =
      count-fewer n _ _ λ z m c.
      let zy : R z y ≡ true = and_l _ _ (and_r _ _ c) in
      let yz : R y z ≡ false = not-e _ (and_r _ _ (and_r _ _ c)) in
      and_i _ _
      (and_i _ _ (and_l _ _ c) (and_i _ _ (join z y x zy yx) (not-i _ (not-true→false _ λ r. clash (join x z y r zy) no))))
      (not-i _ (not-true→false _ λ e. clash (self y) (ap (R y) (sym (eqb-true z y e)) ∙ yz))) in
      omega (arith, count-without n (bars T x) y l b)

  unbarred : (T : ℕ → Bool) (x : ℕ) → T x ≡ false → some n (bars T x) ≡ false → permitted n R T x ≡ true
  unfolding bars governs
  unbarred T x u h = permitted-i T x u λ j l v r.
      by_cases (R x j) (λ e. e) (λ e. clash (and_i _ _ (not-i _ v) (and_i _ _ r (not-i _ e))) (none_of n (bars T x) h j l))

  not-placed : (T : ℕ → Bool) (x y : ℕ) → bars T x y ≡ true → T y ≡ false
  unfolding bars governs
  not-placed T x y b = not-e _ (and_l _ _ b)

  -- Permitted is: not placed, and barred by none.
  pub permitted-bars : (T : ℕ → Bool) (x : ℕ) → permitted n R T x ≡ and (not (T x)) (not (some n (bars T x)))
  unfolding bars governs
  permitted-bars T x = bool-ext _ _
      (λ h. let e = permitted-e T x h in
      and_i _ _ (not-i _ e.0) (not-i _ (not-true→false _ λ t. some-e n _ t λ y l b.
      clash (e.1 y l (not-e _ (and_l _ _ b)) (and_l _ _ (and_r _ _ b))) (not-e _ (and_r _ _ (and_r _ _ b))))))
      (λ h. unbarred T x (not-e _ (and_l _ _ h)) (not-e _ (and_r _ _ h)))

  permitted-below : {A : Type 0} (T : ℕ → Bool) (m x : ℕ) → count n (bars T x) ≤ m → x < n → T x ≡ false
      → ((y : ℕ) → y < n → permitted n R T y ≡ true → A)
      → A
  permitted-below T zero x c l u f =
      by_cases (some n (bars T x))
      (λ t. some-e n _ t λ y k b. absurd (let z : ⊥ = omega (arith, count-pos n (bars T x) y k b) in z))
      (λ t. f x l (unbarred T x u t))
  permitted-below T (suc m) x c l u f =
      by_cases (some n (bars T x))
      (λ t. some-e n _ t λ y k b. permitted-below T m y (omega (arith, bars-fewer T x y k b)) k (not-placed T x y b) f)
      (λ t. f x l (unbarred T x u t))

  -- While one is not placed, one is permitted.
  pub permitted-some : (T : ℕ → Bool) (x : ℕ) → x < n → T x ≡ false → some n (permitted n R T) ≡ true
  permitted-some T x l u = permitted-below T (count n (bars T x)) x (omega arith) l u λ y k h. some-i n _ y k h

  -- So the smallest that is permitted is one, as long as fewer than n are placed.
  pub smallest-permitted : (T : ℕ → Bool) → count n T < n
      → (first n (permitted n R T) < n) × (permitted n R T (first n (permitted n R T)) ≡ true)
  smallest-permitted T l =
      count_room n T l λ x m u.
      let s = first_some n (permitted n R T) (permitted-some T x m u) in
      (s, first_passes n (permitted n R T) s)

  -- An order each place of which takes a permitted variable holds each once and is good,
  module _ (o : ℕ → ℕ) (within : (p : ℕ) → p < n → o p < n) (each : (p : ℕ) → p < n → permitted n R (before o p) (o p) ≡ true) where
    later : (p q : ℕ) → p < q → q < n → o p ≡ o q → ⊥
    later p q l m e = clash (before-i o q p (o q) l e) (permitted-e (before o q) (o q) (each q m)).0

    pub each_once : each_comes_once n o ≡ true
    each_once = once-i n o within λ p q lp lq e.
        by_cases (ltb p q)
        (λ t. absurd (later p q (ltb-true _ _ t) lq e))
        (λ t. by_cases (ltb q p)
        (λ r. absurd (later q p (ltb-true _ _ r) lp (sym e)))
        (λ r. omega (arith, ltb-false p q t, ltb-false q p r)))

    pub each-good : good n R o ≡ true
    unfolding good
    each-good = every-i n _ λ q m. every-i q _ λ p l. implies-i _ _ λ r.
        (permitted-e (before o p) (o p) (each p (omega arith))).1 (o q) (within q m)
        (not-true→false _ λ b. before-e o p (o q) b λ s k e. later s q (omega arith) m e) r

  pub good-e : (o : ℕ → ℕ) → good n R o ≡ true → (p q : ℕ) → p < q → q < n → R (o q) (o p) ≡ true → R (o p) (o q) ≡ true
  unfolding good
  good-e o h p q l m r = implies-e _ _ (every-e q _ (every-e n _ h q m) p l) r

  -- and each place of a good order that holds each once takes a permitted one.
  pub good-each : (o : ℕ → ℕ) → each_comes_once n o ≡ true → good n R o ≡ true → (p : ℕ) → p < n → permitted n R (before o p) (o p) ≡ true
  good-each o once h p l =
      permitted-i (before o p) (o p)
      (not-true→false _ λ b. before-e o p (o p) b λ q k e. absurd (let x : ⊥ = omega (arith, once-distinct n o once q p (omega arith) l e) in x))
      (λ j m u r. once-place n o once j m λ q k e.
      by_cases (ltb q p)
      (λ t. clash (before-i o p q j (ltb-true _ _ t) e) u)
      (λ t. by_cases (ltb p q)
      (λ s. subst (λ (y : ℕ). R (o p) y ≡ true) e (good-e o h p q (ltb-true _ _ s) k (subst (λ (y : ℕ). R y (o p) ≡ true) (sym e) r)))
      (λ s. let same : q ≡ p = omega (arith, ltb-false q p t, ltb-false p q s) in
      subst (λ (y : ℕ). R (o p) y ≡ true) (ap o (sym same) ∙ e) (self (o p)))))

  -- So the test of an order is one pass, a permitted variable at each place.
  pub good-pass : (o : ℕ → ℕ) → each_comes_once n o ≡ true → good n R o ≡ every n (λ (p : ℕ). permitted n R (before o p) (o p))
  good-pass o once = bool-ext _ _
      (λ h. every-i n _ (good-each o once h))
      (λ h. each-good o (once-in n o once) (every-e n _ h))

  -- As words of w bits, `left` those that are not placed and `over` those that govern x: x is permitted where it is left and none that is left governs it.
  pub permitted-words : (w : ℕ) → n ≤ w → (T : ℕ → Bool) (x left over : ℕ) → x < n
      → ((v : ℕ) → v < w → has left v ≡ and (ltb v n) (not (T v)))
      → ((v : ℕ) → v < w → has over v ≡ governs n R v x)
      → permitted n R T x ≡ and (has left x) (eqb (word w (λ (v : ℕ). and (has left v) (has over v))) 0)
  unfolding bars
  permitted-words w b T x left over l is-left is-over =
      let here-left : has left x ≡ not (T x) = is-left x (omega arith) ∙ and-holds _ _ (lt-ltb x n l) in
      permitted-bars T x
      ∙ ap₂ and (sym here-left)
      (bool-ext _ _
      (λ h. eq-eqb _ _ (word_none w _ λ v m. not-true→false _ λ t.
      let a = sym (is-left v m) ∙ and_l _ _ t in
      clash (and_i _ _ (and_r _ _ a) (sym (is-over v m) ∙ and_r _ _ t)) (none_of n (bars T x) (not-e _ h) v (ltb-true v n (and_l _ _ a)))))
      (λ h. not-i _ (not-true→false _ λ t. some-e n (bars T x) t λ v m c.
      let k : v < w = omega arith in
      clash
      (has_word w _ v k ∙ and_i _ _ (is-left v k ∙ and_i _ _ (lt-ltb v n m) (and_l _ _ c)) (is-over v k ∙ and_r _ _ c))
      (ap (λ (z : ℕ). has z v) (eqb-true _ 0 h) ∙ has-zero v))))

  -- The order that is found.
  placed-before : (p : ℕ) → placed n R p ≡ before (found n R) p
  unfolding before found placed some
  placed-before zero = refl
  placed-before (suc p) = fun_ext λ x. ap (or _) (ap (λ (T : ℕ → Bool). T x) (placed-before p))

  found-next : (p : ℕ) → found n R p ≡ first n (permitted n R (before (found n R) p))
  unfolding found
  found-next p = ap (λ (T : ℕ → Bool). first n (permitted n R T)) (placed-before p)

  found-both : (p : ℕ) → p < n → (found n R p < n) × (permitted n R (before (found n R) p) (found n R p) ≡ true)
  found-both p l =
      subst (λ (y : ℕ). (y < n) × (permitted n R (before (found n R) p) y ≡ true)) (sym (found-next p))
      (smallest-permitted (before (found n R) p) (omega (arith, before-count (found n R) n p)))

  pub found_in : (p : ℕ) → p < n → found n R p < n
  found_in p l = (found-both p l).0

  pub found-permitted : (p : ℕ) → p < n → permitted n R (before (found n R) p) (found n R p) ≡ true
  found-permitted p l = (found-both p l).1

  -- "the smallest permitted number at each place"
  pub found-smallest : (p i : ℕ) → i < found n R p → permitted n R (before (found n R) p) i ≡ false
  found-smallest p i l = first_below n _ i (subst (λ (y : ℕ). i < y) (found-next p) l)

  -- It holds each variable once and is good.
  pub found-once : each_comes_once n (found n R) ≡ true
  found-once = each_once (found n R) found_in found-permitted

  pub found_good : good n R (found n R) ≡ true
  found_good = each-good (found n R) found_in found-permitted

  before_same : (o r : ℕ → ℕ) (p : ℕ) → ((q : ℕ) → q < p → o q ≡ r q) → before o p ≡ before r p
  before_same o r p same = fun_ext λ x. bool-ext _ _
      (λ t. before-e o p x t λ q l e. before-i r p q x l (sym (same q l) ∙ e))
      (λ t. before-e r p x t λ q l e. before-i o p q x l (same q l ∙ e))

  -- No good order that is the same up to a place has a smaller variable there: it is the first of the good orders.
  pub found_first : (o : ℕ → ℕ) → each_comes_once n o ≡ true → good n R o ≡ true → (p : ℕ) → p < n
      → ((q : ℕ) → q < p → o q ≡ found n R q)
      → found n R p ≤ o p
  found_first o once h p l same =
      by_cases (ltb (o p) (found n R p))
      (λ t. clash
      (subst (λ (T : ℕ → Bool). permitted n R T (o p) ≡ true) (before_same o (found n R) p same) (good-each o once h p l))
      (found-smallest p (o p) (ltb-true _ _ t)))
      (λ t. ltb-false _ _ t)

  -- What "permitted" says: a variable is permitted after the first p places of an order, each of them permitted, exactly when some good order goes on with it.
  -- Such an order goes on with the smallest that are permitted.
  module _ (c : ℕ → ℕ) (m : ℕ) where
    going : ℕ → ℕ → Bool
    going zero x = false
    going (suc p) x = or (eqb (if (ltb p m) (c p) (first n (permitted n R (going p)))) x) (going p x)

    goes : ℕ → ℕ
    goes p = if (ltb p m) (c p) (first n (permitted n R (going p)))

    going_before : (p : ℕ) → going p ≡ before goes p
    unfolding before going goes some
    going_before zero = refl
    going_before (suc p) = fun_ext λ x. ap (or _) (ap (λ (T : ℕ → Bool). T x) (going_before p))

    goes_given : (p : ℕ) → p < m → goes p ≡ c p
    unfolding goes
    goes_given p l = if-true _ _ _ (lt-ltb p m l)

    goes-found : (p : ℕ) → m ≤ p → goes p ≡ first n (permitted n R (before goes p))
    unfolding goes
    goes-found p l = if-false _ _ _ (le-ltb p m l) ∙ ap (λ (T : ℕ → Bool). first n (permitted n R T)) (going_before p)

    module _ (within : (p : ℕ) → p < m → c p < n) (each : (p : ℕ) → p < m → permitted n R (before c p) (c p) ≡ true) where
      goes-both : (p : ℕ) → p < n → (goes p < n) × (permitted n R (before goes p) (goes p) ≡ true)
      goes-both p l =
          by_cases (ltb p m)
          (λ t. let k : p < m = ltb-true _ _ t in
          subst (λ (y : ℕ). (y < n) × (permitted n R (before goes p) y ≡ true)) (sym (goes_given p k)) (
            within p k,
            subst (λ (T : ℕ → Bool). permitted n R T (c p) ≡ true)
                (before_same c goes p (λ q r. sym (goes_given q (omega arith)))) (each p k),
          ))
          (λ t. subst (λ (y : ℕ). (y < n) × (permitted n R (before goes p) y ≡ true)) (sym (goes-found p (ltb-false _ _ t)))
          (smallest-permitted (before goes p) (omega (arith, before-count goes n p))))

      -- There is a good order that begins so.
      pub continued : (o : ℕ → ℕ) × (each_comes_once n o ≡ true) × (good n R o ≡ true) × ((p : ℕ) → p < m → o p ≡ c p)
      continued = (
        goes,
        each_once goes (λ p l. (goes-both p l).0) (λ p l. (goes-both p l).1),
        each-good goes (λ p l. (goes-both p l).0) (λ p l. (goes-both p l).1),
        goes_given,
      )

  -- So "permitted" is exact: the variables that are permitted after m places, each of which took a permitted one, are those with which a good order goes on.
  module _ (c : ℕ → ℕ) (m : ℕ) (l : m < n) (within : (p : ℕ) → p < m → c p < n) (each : (p : ℕ) → p < m → permitted n R (before c p) (c p) ≡ true) where
    abbrev with-next : ℕ → ℕ → ℕ
    with-next i p = if (ltb p m) (c p) i

    given : (i p : ℕ) → p < m → with-next i p ≡ c p
    given i p k = if-true _ _ _ (lt-ltb p m k)

    last : (i : ℕ) → with-next i m ≡ i
    last i = if-false _ _ _ (le-ltb m m (omega arith))

    goes_on : (i : ℕ) → ((o : ℕ → ℕ) × (each_comes_once n o ≡ true) × (good n R o ≡ true) × ((p : ℕ) → p < suc m → o p ≡ with-next i p))
        → ((o : ℕ → ℕ) × (each_comes_once n o ≡ true) × (good n R o ≡ true) × ((p : ℕ) → p < m → o p ≡ c p) × (o m ≡ i))
    goes_on i g = (g.0, g.1, g.2, λ p k. g.3 p (omega arith) ∙ given i p k, g.3 m (omega arith) ∙ last i)

    pub permitted_exactly : (i : ℕ)
        → ((i < n) × (permitted n R (before c m) i ≡ true))
        ↔ ((o : ℕ → ℕ) × (each_comes_once n o ≡ true) × (good n R o ≡ true) × ((p : ℕ) → p < m → o p ≡ c p) × (o m ≡ i))
    permitted_exactly i = (
      λ h. let at_each : (p : ℕ) → p < suc m → (with-next i p < n) × (permitted n R (before (with-next i) p) (with-next i p) ≡ true) = λ p k.
          below_suc m p k
          (λ e. subst (λ (q : ℕ). (with-next i q < n) × (permitted n R (before (with-next i) q) (with-next i q) ≡ true)) (sym e)
          (rw (last i, before_same (with-next i) c m (given i)) h))
          (λ k. rw (given i p k, before_same (with-next i) c p (λ q r. given i q (omega arith))) (within p k, each p k)) in
          goes_on i (continued (with-next i) (suc m) (λ p k. (at_each p k).0) (λ p k. (at_each p k).1)),
      λ g. let o = g.0 in (
        subst (λ (y : ℕ). y < n) g.4 (once-in n o g.1 m l),
        subst (λ (y : ℕ). permitted n R (before c m) y ≡ true) g.4
            (subst (λ (T : ℕ → Bool). permitted n R T (o m) ≡ true) (before_same o c m g.3) (good-each o g.1 g.2 m l)),
      ),
    )

-- Orders as source document 000 builds them are good.
module _ (n : ℕ) (E : ℕ → ℕ → Bool) (inside : (x y : ℕ) → E x y ≡ true → (x < n) × (y < n)) where
  path-later : (o part : ℕ → ℕ) → Assembled n E o part → {x y : ℕ} → Way E x y → part x ≤ part y
  path-later o part A here = omega arith
  path-later o part A (along {i = x} {j = y} e p) =
      let b = inside x y e in
      let rest = path-later o part A p in
      by_cases (eqb (part x) (part y))
      (λ t. omega (arith, eqb-true (part x) (part y) t))
      (λ t. omega (arith, A.topological x y b.0 b.1 e (eqb-false (part x) (part y) t)))

  pub assembled-good : (R : ℕ → ℕ → Bool) → ((x y : ℕ) → (R x y ≡ true) ↔ Way E x y)
      → (o part : ℕ → ℕ) → each_comes_once n o ≡ true → Assembled n E o part
      → good n R o ≡ true
  unfolding good
  assembled-good R paths o part once A = every-i n _ λ q m. every-i q _ λ p l. implies-i _ _ λ r.
      let lp : p < n = omega arith in
      let back = path-later o part A ((paths (o q) (o p)).0 r) in
      let same : part (o p) ≡ part (o q) = omega (arith, A.in_parts p q l m) in
      (paths (o p) (o q)).1 (A.same_part (o p) (o q) (once-in n o once p lp) (once-in n o once q m) same)

-- There is always such an order: its components stand as the first of each stands in a good order.
module _ (n : ℕ) (E R : ℕ → ℕ → Bool) (inside : (x y : ℕ) → E x y ≡ true → (x < n) × (y < n)) (paths : (x y : ℕ) → (R x y ≡ true) ↔ Way E x y) where
  self : (x : ℕ) → R x x ≡ true
  self x = (paths x x).1 here

  join : (x y z : ℕ) → R x y ≡ true → R y z ≡ true → R x z ≡ true
  join x y z p q = (paths x z).1 (path_join E ((paths x y).0 p) ((paths y z).0 q))

  mutual-with : ℕ → ℕ → Bool
  mutual-with x p = and (R (found n R p) x) (R x (found n R p))

  part : ℕ → ℕ
  part x = first n (mutual-with x)

  part_in : (x : ℕ) → x < n → (part x < n) × (R (found n R (part x)) x ≡ true) × (R x (found n R (part x)) ≡ true)
  unfolding part mutual-with
  part_in x l =
      once-place n (found n R) (found-once n R self join) x l λ p m e.
      let s = first_some n (mutual-with x)
      (some-i n (mutual-with x) p m (and_i _ _ (subst (λ (y : ℕ). R y x ≡ true) (sym e) (self x)) (subst (λ (y : ℕ). R x y ≡ true) (sym e) (self x)))) in
      let t = first_passes n (mutual-with x) s in
      (s, and_l _ _ t, and_r _ _ t)

  part_same : (x y : ℕ) → R x y ≡ true → R y x ≡ true → part x ≡ part y
  unfolding part mutual-with
  part_same x y p q = first_cong n _ _ λ k l. bool-ext _ _
      (λ h. and_i _ _ (join _ x y (and_l _ _ h) p) (join y x _ q (and_r _ _ h)))
      (λ h. and_i _ _ (join _ y x (and_l _ _ h) q) (join x y _ p (and_r _ _ h)))

  by_part : ℕ → ℕ → Bool
  by_part x y = leb (part x) (part y)

  part-self : (x : ℕ) → by_part x x ≡ true
  unfolding by_part
  part-self x = le-leb (part x) (part x) (omega arith)

  part_join : (x y z : ℕ) → by_part x y ≡ true → by_part y z ≡ true → by_part x z ≡ true
  unfolding by_part
  part_join x y z p q = le-leb (part x) (part z) (omega (arith, leb-true (part x) (part y) p, leb-true (part y) (part z) q))

  pub assembled-some : (o : ℕ → ℕ) × (part : ℕ → ℕ) × (each_comes_once n o ≡ true) × Assembled n E o part
  unfolding by_part
  assembled-some = (
    found n by_part,
    part,
    found-once n by_part part-self part_join,
    record {
      same_part = λ x y lx ly e.
          let a = part_in x lx in
          let b = part_in y ly in
          (paths x y).0 (join x _ y a.2 (subst (λ (p : ℕ). R (found n R p) y ≡ true) (sym e) b.1));
      one_part = λ x y lx ly p q. part_same x y ((paths x y).1 p) ((paths y x).1 q);
      topological = λ x y lx ly e d. by_cases (ltb (part x) (part y)) (λ t. ltb-true _ _ t) (λ t.
          let a = part_in x lx in
          let b = part_in y ly in
          let xy : R x y ≡ true = (paths x y).1 (along e here) in
          let l : part y < part x = below (part x) (part y) d (ltb-false (part x) (part y) t) in
          let back = good-e n R self join (found n R) (found_good n R self join) (part y) (part x) l a.0
          (join _ x _ a.1 (join x y _ xy b.2)) in
          absurd (d (part_same x y xy (join y _ x b.2 (join _ _ x back a.1)))));
      in_parts = λ p q l m.
          by_cases (leb (part (found n by_part p)) (part (found n by_part q)))
          (λ t. leb-true _ _ t)
          (λ t. let gt = leb-false (part (found n by_part p)) (part (found n by_part q)) t in
          leb-true _ _ (good-e n by_part part-self part_join (found n by_part) (found_good n by_part part-self part_join) p q l m
          (le-leb (part (found n by_part q)) (part (found n by_part p)) (omega (arith, gt)))));
    },
  )
    where
      below : (a b : ℕ) → (a ≡ b → ⊥) → b ≤ a → b < a
      below a b d l = omega arith

-- Of a sound network.
module _ (N : Network) (S : Sound N) where
  edge_in : (x y : ℕ) → leads_to N x y ≡ true → (x < N.n) × (y < N.n)
  unfolding leads_to
  edge_in x y h = S.stated_in x y (and_l _ _ h)

  -- "Every order that source document 000 builds from strongly connected parts is good".
  pub built-order-good : (o part : ℕ → ℕ) → each_comes_once N.n o ≡ true → Assembled N.n (leads_to N) o part → good_order N o ≡ true
  unfolding good_order
  built-order-good = assembled-good N.n (leads_to N) edge_in (reach N) (reach-path N S)

  -- There is one.
  pub built-order-some : (o : ℕ → ℕ) × (part : ℕ → ℕ) × (each_comes_once N.n o ≡ true) × Assembled N.n (leads_to N) o part
  built-order-some = assembled-some N.n (leads_to N) (reach N) edge_in (reach-path N S)

  pub order-once : each_comes_once N.n (found_order N) ≡ true
  unfolding found_order
  order-once = found-once N.n (reach N) (reach-refl N S) (reach-trans N S)

  pub order-good : good_order N (found_order N) ≡ true
  unfolding found_order good_order
  order-good = found_good N.n (reach N) (reach-refl N S) (reach-trans N S)

  pub order-first : (o : ℕ → ℕ) → each_comes_once N.n o ≡ true → good_order N o ≡ true → (p : ℕ) → p < N.n
      → ((q : ℕ) → q < p → o q ≡ found_order N q)
      → found_order N p ≤ o p
  unfolding found_order good_order
  order-first = found_first N.n (reach N) (reach-refl N S) (reach-trans N S)

  -- The paper's sentence, with paths.
  pub good-paths : (o : ℕ → ℕ)
      → (good_order N o ≡ true) ↔ ((p q : ℕ) → p < q → q < N.n → Way (leads_to N) (o q) (o p) → Way (leads_to N) (o p) (o q))
  unfolding good_order good
  good-paths o = (
    λ h p q l m r. (reach-path N S (o p) (o q)).0 (good-e N.n (reach N) (reach-refl N S) (reach-trans N S) o h p q l m ((reach-path N S (o q) (o p)).1 r)),
    λ h. every-i N.n _ λ q m. every-i q _ λ p l. implies-i _ _ λ r.
        (reach-path N S (o p) (o q)).1 (h p q l m ((reach-path N S (o q) (o p)).0 r)),
  )

  -- The list that is found is not refused when it is tested, and passes.
  found-byte : (p : ℕ) → p < N.n → get_or (find_order N) p 0 ≡ suc (found_order N p)
  unfolding find_order
  found-byte p l = get_d_tabulate N.n _ p 0 l

  found-order : (p : ℕ) → p < N.n → order_of (find_order N) p ≡ found_order N p
  unfolding order_of
  found-order p l = let e : pred (get_or (find_order N) p 0) ≡ found_order N p = omega (arith, found-byte p l) in e

  pub find-tested : (order_refusal N (find_order N) ≡ 0) × (test_order N (find_order N) ≡ true)
  unfolding order_refusal test_order good_order
  find-tested = (
    if-true _ _ _ (and_i _ _ (eq-eqb _ _ (find-length)) (and_i _ _
        (every-i N.n _ λ p l. le-leb 1 (get_or (find_order N) p 0) (omega (arith, found-byte p l)))
        (once-same N.n _ _ found-order order-once))),
    good-same N.n (reach N) _ _ found-order order-good,
  )
    where
      find-length : length (find_order N) ≡ N.n
      find-length = unfold find_order in length-tabulate N.n _

  -- 0 exactly for a list of n numbers, each of 1 to n once.
  pub order-taken : (l : List ℕ) → (order_refusal N l ≡ 0)
      ↔ ((length l ≡ N.n) × ((p : ℕ) → p < N.n → 1 ≤ get_or l p 0) × (each_comes_once N.n (order_of l) ≡ true))
  unfolding order_refusal
  order-taken l = (
    λ h. by_cases _
        (λ t. (eqb-true _ _ (and_l _ _ t), λ p k. leb-true _ _ (every-e N.n _ (and_l _ _ (and_r _ _ t)) p k), and_r _ _ (and_r _ _ t)))
        (λ t. let e : 30 ≡ 0 = sym (if-false _ 0 30 t) ∙ h in absurd (let x : ⊥ = omega (arith, e) in x)),
    λ h. if-true _ _ _ (and_i _ _ (eq-eqb _ _ h.0) (and_i _ _ (every-i N.n _ λ p k. le-leb _ _ (h.1 p k)) h.2)),
  )

  -- The test of a list, in the paper's words.
  pub test-paths : (l : List ℕ)
      → (test_order N l ≡ true)
      ↔ ((p q : ℕ) → p < q → q < N.n → Way (leads_to N) (order_of l q) (order_of l p) → Way (leads_to N) (order_of l p) (order_of l q))
  unfolding test_order
  test-paths l = good-paths (order_of l)

  -- 30 and 14, each exactly where 0 is not.
  pub order-30 : (l : List ℕ) → (order_refusal N l ≡ 0 → ⊥) → order_refusal N l ≡ 30
  unfolding order_refusal
  order-30 l d = by_cases _ (λ t. absurd (d (if-true _ 0 30 t))) (λ t. if-false _ 0 30 t)

  pub find-0 : (bytes : ℕ) → (find_refusal N bytes ≡ 0) ↔ (bytes ≡ N.n)
  unfolding find_refusal
  find-0 bytes = (
    λ h. by_cases (eqb bytes N.n) (λ t. eqb-true _ _ t) (λ t. let e : 14 ≡ 0 = sym (if-false _ 0 14 t) ∙ h in absurd (let x : ⊥ = omega (arith, e) in x)),
    λ e. if-true _ _ _ (eq-eqb _ _ e),
  )

  pub find-14 : (bytes : ℕ) → (bytes ≡ N.n → ⊥) → find_refusal N bytes ≡ 14
  unfolding find_refusal
  find-14 bytes d = if-false _ 0 14 (ne_eqb bytes N.n d)

  -- "a list of options in which none precedes one that governs it"
  pub good-governs : (o : ℕ → ℕ)
      → (good_order N o ≡ true) ↔ ((p q : ℕ) → p < q → q < N.n → governs N.n (reach N) (o q) (o p) ≡ true → ⊥)
  unfolding good_order good governs
  good-governs o = (
    λ h p q l m g. clash (good-e N.n (reach N) (reach-refl N S) (reach-trans N S) o h p q l m (and_l _ _ g)) (not-e _ (and_r _ _ g)),
    λ h. every-i N.n _ λ q m. every-i q _ λ p l. implies-i _ _ λ r.
        by_cases (reach N (o p) (o q)) (λ t. t) (λ t. absurd (h p q l m (and_i _ _ r (not-i _ t)))),
  )
