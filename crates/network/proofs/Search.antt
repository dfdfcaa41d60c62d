-- The search: the order on choices, and that what is found is the first allowed one, so the first solution where there is one.
use mathlib.Core.Bool.{Bool, true, false}
use mathlib.Core.Logic.Iff
use mathlib.Core.Logic.{◌↔◌}
use mathlib.Core.Path.{◌≡◌, refl, sym, ◌∙◌}
use Prim.Native.Nat.{ℕ, zero, suc, ◌+◌, ◌*◌, ◌≤◌, ◌<◌}
use native.Mathlib.Nat.{mul_comm}
use native.Mathlib.Omega.{arith}
use lib.Dec.{eqb, ltb}
use borrow.Author.Tests.{eq-eqb, eqb-true, eqb-false, lt-ltb, le-ltb, ltb-true, ltb-false}
use Rattle.bounded.specs.Bool.{and, implies, not, bit}
use Rattle.bounded.specs.Fold.{every, some, product, count, first}
use Rattle.bounded.proofs.Bool.{by_cases, clash, not-true→false, and_i, and_l, and_r, and-true, implies-i, implies-e, implies_true, implies-false, not-i, not-e}
use Rattle.bounded.proofs.Bool.{if-true, if-false, bit-true, bit_and}
use Rattle.bounded.proofs.Fold.{below_suc, every-i, every-e, some-i, some-e, none_of, sum-cong, sum-mul, product-cong, product-zero, product-some}
use Rattle.bounded.proofs.Fold.{count_none, count-pos, count-cong, count-one, first_some, first_passes, first_below}
use Rattle.network.specs.Network.{Network, free, solves}
use Rattle.network.specs.Sound.{Sound}
use Rattle.network.specs.Completion.{NONE, BUILT, completed, choice_in_domains, allowed_choice, lowest, exhausted, lowest_solution}
use Rattle.network.specs.Count.{put, sum_tuples, count_tuples, choice_size}
use Rattle.network.specs.Promise.{Keeps}
use Rattle.network.specs.Search.{same_below, precedes, IsFirst, Sought, none, found, or_else, first_found_in, search_from, searched}
use Rattle.network.specs.Search.{returned, said_of, sought, open_values, choice_product, search_refusal, Settles, Settled, AsVerdict}
use Rattle.network.proofs.Sound.{free-or-led, leader-n, leader-is-free}
use Rattle.network.proofs.Step.{here, past}
use Rattle.network.proofs.Completion.{allowed-domain, allowed_choice-cong, solves-allowed, solves-cong, completed-keeps, completed-led, completed-solves}
use Rattle.network.proofs.Completion.{none-verdict, verdict-none, verdict-built, shown-built, shown-past, exhausted-e, not-exhausted, lowest-below, lowest-allowed, exhausted-none}
use Rattle.network.proofs.Reduction.{keeps-refl}
use Rattle.network.proofs.Count.{put-at, put_other, sum_tuples-cong, sum_tuples-mul, choice_size-free, choice_size-eliminated}

-- ---- the order on choices

-- Two choices agree at the free variables below x.
abbrev pub Same : Network → ℕ → (ℕ → ℕ) → (ℕ → ℕ) → Type 0
Same N x f g = (i : ℕ) → i < x → free N i ≡ true → f i ≡ g i

module _ (N : Network) where
  pub same-i : (x : ℕ) (f g : ℕ → ℕ) → Same N x f g → same_below N x f g ≡ true
  unfolding same_below
  same-i x f g h = every-i x _ (λ i l. implies-i _ _ (λ t. eq-eqb _ _ (h i l t)))

  pub same-e : (x : ℕ) (f g : ℕ → ℕ) → same_below N x f g ≡ true → Same N x f g
  unfolding same_below
  same-e x f g h i l t = eqb-true _ _ (implies-e _ _ (every-e x _ h i l) t)

  pub precedes-i : (f g : ℕ → ℕ) (x : ℕ) → x < N.n → free N x ≡ true → f x < g x → Same N x f g → precedes N f g ≡ true
  unfolding precedes
  precedes-i f g x l t h s = some-i N.n _ x l (and_i _ _ t (and_i _ _ (lt-ltb _ _ h) (same-i x f g s)))

  pub precedes-e : {A : Type 0} (f g : ℕ → ℕ) → precedes N f g ≡ true
      → ((x : ℕ) → x < N.n → free N x ≡ true → f x < g x → Same N x f g → A)
      → A
  unfolding precedes
  precedes-e f g h u =
      some-e N.n _ h (λ x l t. u x l (and_l _ _ t) (ltb-true _ _ (and_l _ _ (and_r _ _ t))) (same-e x f g (and_r _ _ (and_r _ _ t))))

  -- f does not come before g exactly when it is not lower where they first differ.
  pub not-before-i : (f g : ℕ → ℕ) → ((x : ℕ) → x < N.n → free N x ≡ true → Same N x f g → g x ≤ f x) → precedes N f g ≡ false
  not-before-i f g h = not-true→false _ (λ t. precedes-e f g t (λ x l u d s. let z : ⊥ = omega (arith, h x l u s) in z))

  pub not-before-e : (f g : ℕ → ℕ) → precedes N f g ≡ false → (x : ℕ) → x < N.n → free N x ≡ true → Same N x f g → g x ≤ f x
  not-before-e f g h x l u s =
      by_cases (ltb (f x) (g x)) (λ t. clash (precedes-i f g x l u (ltb-true _ _ t) s) h) (λ t. ltb-false _ _ t)

  -- An order: no choice comes before itself,
  pub precedes-irrefl : (f : ℕ → ℕ) → precedes N f f ≡ false
  precedes-irrefl f = not-before-i f f (λ x l u s. omega arith)

  -- what comes before what comes before h comes before h,
  pub precedes-trans : (f g h : ℕ → ℕ) → precedes N f g ≡ true → precedes N g h ≡ true → precedes N f h ≡ true
  precedes-trans f g h p q =
      precedes-e f g p (λ x lx ux dx sx.
      precedes-e g h q (λ y ly uy dy sy.
      by_cases (ltb x y)
      (λ t. let l = ltb-true x y t in
      precedes-i f h x lx ux (rw (sy x l ux) at dx) (λ i m u. sx i m u ∙ sy i (omega arith) u))
      (λ t. let l = ltb-false x y t in
      by_cases (ltb y x)
      (λ r. let m = ltb-true y x r in
      precedes-i f h y ly uy (rw (sx y m uy) dy) (λ i k u. sx i (omega arith) u ∙ sy i k u))
      (λ r. let e : y ≡ x = omega (arith, ltb-false y x r) in
      let dz : g x < h x = rw e at dy in
      precedes-i f h x lx ux (omega arith) (λ i k u. sx i k u ∙ sy i (omega arith) u)))))

  -- and of two choices one comes before the other, or they agree at the free variables.
  pub precedes-total : {A : Type 0} (f g : ℕ → ℕ) → (precedes N f g ≡ true → A) → (precedes N g f ≡ true → A) → (Same N N.n f g → A) → A
  precedes-total f g before after same =
      let differs : ℕ → Bool = λ i. and (free N i) (not (eqb (f i) (g i))) in
      let alike : (i : ℕ) → differs i ≡ false → free N i ≡ true → f i ≡ g i =
      λ i h u. by_cases (eqb (f i) (g i)) (λ t. eqb-true _ _ t) (λ t. clash (and_i _ _ u (not-i _ t)) h) in
      by_cases (some N.n differs)
      (λ h. let x = first N.n differs in
      let l = first_some N.n differs h in
      let t = first_passes N.n differs l in
      let s : Same N x f g = λ i m. alike i (first_below N.n differs i m) in
      let d : f x ≡ g x → ⊥ = eqb-false _ _ (not-e _ (and_r _ _ t)) in
      by_cases (ltb (f x) (g x))
      (λ r. before (precedes-i f g x l (and_l _ _ t) (ltb-true _ _ r) s))
      (λ r. after (precedes-i g f x l (and_l _ _ t) (omega (arith, ltb-false (f x) (g x) r)) (λ i m u. sym (s i m u)))))
      (λ h. same (λ i l. alike i (none_of N.n differs h i l)))

  -- Only values at free variables count.
  pub precedes-same : (f g h : ℕ → ℕ) → Same N N.n g h → precedes N f g ≡ false → precedes N f h ≡ false
  precedes-same f g h s p =
      not-before-i f h (λ x l u q. rw (← s x l u) (not-before-e f g p x l u (λ i m v. q i m v ∙ sym (s i (omega arith) v))))

  -- Two first choices agree at the free variables.
  pub first-same : (f g : ℕ → ℕ) → IsFirst N f → IsFirst N g → Same N N.n f g
  first-same f g F G =
      precedes-total f g
      (λ t. clash t (G.none_before f F.is_allowed))
      (λ t. clash t (F.none_before g G.is_allowed))
      (λ s. s)

-- ---- the search

-- None is found, or a choice is.
pub sought-case : {A : Type 0} (r : Sought) → (r ≡ none → A) → ((f : ℕ → ℕ) → r ≡ found f → A) → A
sought-case none x y = x refl
sought-case (found f) x y = y f refl

pub found-is-not-none : {A : Type 0} (r : Sought) (f : ℕ → ℕ) → r ≡ found f → r ≡ none → A
found-is-not-none r f e h = absurd (let z : ◌≡◌ {A = ℕ} 0 1 = cc in let x : ⊥ = omega arith in x)

-- What is below n + 1 is 0 or one more than what is below n.
from_zero : (P : ℕ → Type 0) (n : ℕ) → P zero → ((v : ℕ) → v < n → P (suc v)) → (v : ℕ) → v < suc n → P v
from_zero P n z s zero l = z
from_zero P n z s (suc v) l = s v (omega arith)

-- The first that is found: those before it are none,
first_found : {A : Type 0} (n : ℕ) (s : ℕ → Sought) (f : ℕ → ℕ) → first_found_in n s ≡ found f
    → ((v : ℕ) → v < n → s v ≡ found f → ((u : ℕ) → u < v → s u ≡ none) → A)
    → A
unfolding first_found_in or_else
first_found zero s f h g = found-is-not-none _ f h refl
first_found (suc n) s f h g =
    sought-case (s zero)
    (λ e. first_found n (λ (v : ℕ). s (suc v)) f (rw e at h)
    (λ v l t b. g (suc v) (omega arith) t (from_zero (λ (u : ℕ). s u ≡ none) v e b)))
    (λ k e. g zero (omega arith) (e ∙ (rw e at h)) (λ u l. absurd (let x : ⊥ = omega arith in x)))

-- and where there is none all are.
none_found : (n : ℕ) (s : ℕ → Sought) → first_found_in n s ≡ none → (v : ℕ) → v < n → s v ≡ none
unfolding first_found_in or_else
none_found zero s h v l = absurd (let x : ⊥ = omega arith in x)
none_found (suc n) s h v l =
    sought-case (s zero)
    (λ e. from_zero (λ (v : ℕ). s v ≡ none) n e (none_found n (λ (u : ℕ). s (suc u)) (rw e at h)) v l)
    (λ f e. found-is-not-none _ f refl (rw e at h))

-- The search, case by case.
module _ (N : Network) (k : ℕ) (f : ℕ → ℕ) where
  search-found : allowed_choice N f ≡ true → search_from N zero k f ≡ found f
  unfolding search_from
  search-found t = if-true _ _ _ t

  search_none : allowed_choice N f ≡ false → search_from N zero k f ≡ none
  unfolding search_from
  search_none t = if-false _ _ _ t

  search-free : (left : ℕ) → free N k ≡ true
      → search_from N (suc left) k f ≡ first_found_in (N.size k) (λ (v : ℕ). search_from N left (suc k) (put f k v))
  unfolding search_from
  search-free left t = if-true _ _ _ t

  search-skip : (left : ℕ) → free N k ≡ false → search_from N (suc left) k f ≡ search_from N left (suc k) f
  unfolding search_from
  search-skip left t = if-false _ _ _ t

-- What is found from k on, f being chosen below k: the first of the allowed choices that agree with f there.
pub record FoundFrom (N : Network) (k : ℕ) (f g : ℕ → ℕ) : Type 0 where
  pub is_allowed : allowed_choice N g ≡ true
  pub below : (i : ℕ) → i < k → g i ≡ f i
  pub eliminated : (i : ℕ) → free N i ≡ false → g i ≡ f i
  pub past : (i : ℕ) → N.n ≤ i → g i ≡ f i
  pub none_before : (h : ℕ → ℕ) → allowed_choice N h ≡ true → Same N k h f → precedes N h g ≡ false

record Reached (N : Network) (k : ℕ) (f : ℕ → ℕ) (r : Sought) : Type 0 where
  pub found_is : (g : ℕ → ℕ) → r ≡ found g → FoundFrom N k f g
  pub none_is : r ≡ none → (h : ℕ → ℕ) → allowed_choice N h ≡ true → Same N k h f → ⊥

module _ (N : Network) (f : ℕ → ℕ) where
  -- All variables are chosen.
  reached-end : (k : ℕ) → k ≡ N.n → Reached N k f (search_from N zero k f)
  reached-end k e =
      by_cases (allowed_choice N f)
      (λ t. rw (search-found N k f t)
      (record {
        found_is = λ g h. let same : f ≡ g = cc in rw (← same) (itself t);
        none_is = λ h. found-is-not-none (found f) f refl h;
      }))
      (λ t. rw (search_none N k f t)
      (record {
        found_is = λ g h. found-is-not-none none g h refl;
        none_is = λ _ h a s. clash (sym (allowed_choice-cong N h f (λ i l u. s i (rw e l) u)) ∙ a) t;
      }))
    where
      itself : allowed_choice N f ≡ true → FoundFrom N k f f
      itself t =
          record {
            is_allowed = t;
            below = λ i l. refl;
            eliminated = λ i u. refl;
            past = λ i l. refl;
            none_before = λ h a s. not-before-i N h f (λ x l u q. omega (arith, s x (rw e l) u));
          }

  -- The next variable is eliminated: there is nothing to choose.
  reached-skip : (k : ℕ) (r : Sought) → free N k ≡ false → Reached N (suc k) f r → Reached N k f r
  reached-skip k r t R =
      record {
        found_is = λ g e. let F = R.found_is g e in
            record {
              is_allowed = F.is_allowed;
              below = λ i l. F.below i (omega arith);
              eliminated = F.eliminated;
              past = F.past;
              none_before = λ h a s. F.none_before h a (more h s);
            };
        none_is = λ e h a s. R.none_is e h a (more h s);
      }
    where
      more : (h : ℕ → ℕ) → Same N k h f → Same N (suc k) h f
      more h s i l u = below_suc k i l (λ e. clash (rw e at u) t) (λ m. s i m u)

  -- The next variable is free: its values are tried.
  module _ (k : ℕ) (s : ℕ → Sought) (S : Sound N) (k_in : k < N.n) (k_free : free N k ≡ true)
      (R : (v : ℕ) → Reached N (suc k) (put f k v) (s v)) where
    -- A choice that agrees with f below k agrees with f and its own value of k up to k.
    more : (h : ℕ → ℕ) (v : ℕ) → h k ≡ v → Same N k h f → Same N (suc k) h (put f k v)
    more h v e a i l u =
        below_suc k i l
        (λ q. rw q (e ∙ sym (put-at f k v)))
        (λ m. a i m u ∙ sym (put_other f k v i (λ q. let x : ⊥ = omega arith in x)))

    -- No choice has a value of k for which nothing is found.
    none-with : (h : ℕ → ℕ) → allowed_choice N h ≡ true → Same N k h f → s (h k) ≡ none → ⊥
    none-with h a b e = (R (h k)).none_is e h a (more h (h k) refl b)

    found-value : (v : ℕ) (g : ℕ → ℕ) → s v ≡ found g → ((u : ℕ) → u < v → s u ≡ none) → FoundFrom N k f g
    found-value v g e lower =
        let F = (R v).found_is g e in
        let at-k : g k ≡ v = F.below k (omega arith) ∙ put-at f k v in
        record {
          is_allowed = F.is_allowed;
          below = λ i l. F.below i (omega arith) ∙ put_other f k v i (λ q. let x : ⊥ = omega arith in x);
          eliminated = λ i t. F.eliminated i t ∙ put_other f k v i (λ q. clash k_free (rw q at t));
          past = λ i l. F.past i l ∙ put_other f k v i (λ q. let x : ⊥ = omega arith in x);
          none_before = λ h a b.
              by_cases (ltb (h k) v)
              (λ t. absurd (none-with h a b (lower (h k) (ltb-true _ _ t))))
              (λ t. by_cases (eqb (h k) v)
              (λ q. F.none_before h a (more h v (eqb-true _ _ q) b))
              (λ q. let d : h k ≡ v → ⊥ = eqb-false _ _ q in
              not-before-i N h g (λ x l u w. higher h x v d (ltb-false _ _ t) at-k w b F u)));
        }
      where
        -- h is higher than g at k, and agrees with it below.
        higher : (h : ℕ → ℕ) (x v : ℕ) → (h k ≡ v → ⊥) → v ≤ h k → g k ≡ v → Same N x h g → Same N k h f → FoundFrom N (suc k) (put f k v) g
            → free N x ≡ true → g x ≤ h x
        higher h x v d l e w b F u =
            by_cases (ltb x k)
            (λ t. let m = ltb-true x k t in
            let q : g x ≡ h x = F.below x (omega arith) ∙ put_other f k v x (λ q. let z : ⊥ = omega arith in z) ∙ sym (b x m u) in
            omega arith)
            (λ t. by_cases (ltb k x)
            (λ r. absurd (d (w k (ltb-true k x r) k_free ∙ e)))
            (λ r. let q : x ≡ k = omega (arith, ltb-false x k t, ltb-false k x r) in
            rw q (omega arith)))

    reached-try : Reached N k f (first_found_in (N.size k) s)
    reached-try =
        record {
          found_is = λ g e. first_found (N.size k) s g e (λ v l t b. found-value v g t b);
          none_is = λ e h a b.
              none-with h a b (none_found (N.size k) s e (h k) (S.domain_in k (h k) (allowed-domain N h a k k_in k_free)));
        }

-- Down all the variables.
reached : (N : Network) → Sound N → (left k : ℕ) (f : ℕ → ℕ) → k + left ≡ N.n → Reached N k f (search_from N left k f)
reached N S zero k f e = reached-end N f k (omega arith)
reached N S (suc left) k f e =
    by_cases (free N k)
    (λ t. rw (search-free N k f left t)
    (reached-try N f k _ S (omega arith) t (λ v. reached N S left (suc k) (put f k v) (omega arith))))
    (λ t. rw (search-skip N k f left t) (reached-skip N f k _ t (reached N S left (suc k) f (omega arith))))

-- ---- what the search says

module _ (N : Network) (S : Sound N) where
  start : Reached N 0 (λ (i : ℕ). 0) (searched N)
  unfolding searched
  start = reached N S N.n 0 (λ (i : ℕ). 0) (omega arith)

  nothing-below : (h : ℕ → ℕ) → Same N 0 h (λ (i : ℕ). 0)
  nothing-below h i l = absurd (let x : ⊥ = omega arith in x)

  pub searched-first : (f : ℕ → ℕ) → searched N ≡ found f → IsFirst N f
  searched-first f e =
      let F = start.found_is f e in
      record { is_allowed = F.is_allowed; none_before = λ g a. F.none_before g a (nothing-below g) }

  pub searched-settles : Settles N (searched N)
  searched-settles =
      record {
        found_first = searched-first;
        none_exactly = (
          λ e f. not-true→false _ (λ a. start.none_is e f a (nothing-below f)),
          λ h. sought-case (searched N) (λ e. e) (λ f e. clash (searched-first f e).is_allowed (h f)),
        );
      }

  -- A first choice is what is found, at the free variables,
  pub first-searched : {A : Type 0} (f : ℕ → ℕ) → IsFirst N f → ((g : ℕ → ℕ) → searched N ≡ found g → Same N N.n g f → A) → A
  first-searched f F u =
      sought-case (searched N)
      (λ e. clash F.is_allowed (searched-settles.none_exactly.0 e f))
      (λ g e. u g e (first-same N g f (searched-first g e) F))

-- What is said of it.
pub said-none : (r : Sought) → r ≡ none → said_of r ≡ NONE
unfolding said_of
said-none r e = rw e

pub said-found : (r : Sought) → (r ≡ none → ⊥) → said_of r ≡ BUILT
unfolding said_of
said-found r d = sought-case r (λ e. absurd (d e)) (λ f e. rw e)

-- "A build is returned as the verdict's is, zero past n, and all zero with none."
module _ (N : Network) where
  pub sought-none : searched N ≡ none → (i : ℕ) → sought N i ≡ 0
  unfolding sought returned
  sought-none e i = rw e

  pub sought-found : (f : ℕ → ℕ) → searched N ≡ found f → (i : ℕ) → i < N.n → sought N i ≡ completed N f i
  unfolding sought returned
  sought-found f e i l = rw e (if-true _ _ _ (lt-ltb i N.n l))

  pub sought-past : (i : ℕ) → N.n ≤ i → sought N i ≡ 0
  unfolding sought returned
  sought-past i l = sought-case (searched N) (λ e. rw e) (λ f e. rw e (if-false _ _ _ (le-ltb i N.n l)))

-- What is completed goes by the values at the free variables.
pub completed-same : (N : Network) → Sound N → (f g : ℕ → ℕ) → Same N N.n f g → (i : ℕ) → i < N.n → completed N f i ≡ completed N g i
completed-same N S f g s i l =
    free-or-led N i
    (λ t. completed-keeps N f i t ∙ s i l t ∙ sym (completed-keeps N g i t))
    (λ k e. completed-led N f i k e
    ∙ rw (s k (leader-n N S i k e) (leader-is-free N S i k e)) (sym (completed-led N g i k e)))

-- An allowed choice is there exactly when a solution is.
module _ (N : Network) (S : Sound N) where
  pub no-choice-no-solution : ((f : ℕ → ℕ) → allowed_choice N f ≡ false) ↔ ((f : ℕ → ℕ) → solves N f ≡ false)
  no-choice-no-solution = (
    λ h f. not-true→false _ (λ s. clash (solves-allowed N f s) (h f)),
    λ h f. not-true→false _ (λ a. clash (completed-solves N S f a) (h (completed N f))),
  )

  -- What is returned is the completed choice, and a solution,
  pub sought-solves : (f : ℕ → ℕ) → searched N ≡ found f → solves N (sought N) ≡ true
  sought-solves f e =
      solves-cong N (sought N) (completed N f) (sought-found N f e) ∙ completed-solves N S f (searched-first N S f e).is_allowed

  -- with the values of the choice at the free variables.
  sought-keeps : (f : ℕ → ℕ) → searched N ≡ found f → Same N N.n f (sought N)
  sought-keeps f e i l t = sym (sought-found N f e i l ∙ completed-keeps N f i t)

  -- It is the first solution.
  pub sought-first : (g : ℕ → ℕ) → solves N g ≡ true → precedes N g (sought N) ≡ false
  sought-first g s =
      let a = solves-allowed N g s in
      sought-case (searched N)
      (λ e. clash a ((searched-settles N S).none_exactly.0 e g))
      (λ f e. precedes-same N g f (sought N) (sought-keeps f e) ((searched-first N S f e).none_before g a))

-- "and so, for a state that demand 3's list of calls hands back, the sheet with its added tables has none"
pub keeps-settled : (N M : Network) (p : (ℕ → ℕ) → Bool) → Keeps N M p → Settled N M p
keeps-settled N M p K =
    let S = K.still_sound in
    let none-there = Iff.trans (searched-settles M S).none_exactly (no-choice-no-solution M S) in
    record {
      none_exactly = (
        λ e f. sym (K.same_solutions f) ∙ none-there.0 e f,
        λ h. none-there.1 (λ f. K.same_solutions f ∙ h f),
      );
      returns_solution =
          λ d. sought-case (searched M) (λ e. absurd (d e)) (λ f e. sym (K.same_solutions (sought M)) ∙ sought-solves M S f e);
      returns_first = λ g h. sought-first M S g (K.same_solutions g ∙ h);
    }

-- ---- the product and the verdict

module _ (N : Network) where
  open_free : (i : ℕ) → free N i ≡ true → open_values N i ≡ count (N.size i) (N.domain i)
  unfolding open_values
  open_free i t = if-true _ _ _ t

  open-eliminated : (i : ℕ) → free N i ≡ false → open_values N i ≡ 1
  unfolding open_values
  open-eliminated i t = if-false _ _ _ t

  -- "an empty list makes that product 0", and nothing else does.
  pub exhausted-product : (exhausted N ≡ true) ↔ (choice_product N ≡ 0)
  unfolding choice_product
  exhausted-product = (
    λ h. exhausted-e N h (λ i l t e. product-zero N.n (open_values N) i l (open_free i t ∙ count_none (N.size i) (N.domain i) e)),
    λ h. product-some N.n (open_values N) h (λ i l e. emptied i l e),
  )
    where
      emptied : (i : ℕ) → i < N.n → open_values N i ≡ 0 → exhausted N ≡ true
      emptied i l e =
          by_cases (exhausted N)
          (λ t. t)
          (λ t. by_cases (free N i)
          (λ u. some-e (N.size i) (N.domain i) (not-exhausted N t i l u)
          (λ a m d. absurd (let x : ⊥ = omega (arith, open_free i u, count-pos (N.size i) (N.domain i) a m d) in x)))
          (λ u. absurd (let x : ⊥ = omega (arith, open-eliminated i u) in x)))

  pub search-refused : (search_refusal N ≡ 23) ↔ (1000000 < choice_product N)
  unfolding search_refusal
  search-refused = Iff.trans (here _ 23 _ (omega arith)) (ltb-true _ _, lt-ltb _ _)

  pub search-accepted : (search_refusal N ≡ 0) ↔ (choice_product N ≤ 1000000)
  unfolding search_refusal
  search-accepted = (
    λ h. ltb-false _ _ ((past _ 23 _ 0 (omega arith) Iff.rfl).0 h).0,
    λ h. (past _ 23 _ 0 (omega arith) Iff.rfl).1 (le-ltb _ _ h, refl),
  )

  -- The lowest values, where they are an allowed choice, are the first.
  pub lowest-first : allowed_choice N (lowest N) ≡ true → IsFirst N (lowest N)
  lowest-first a =
      record {
        is_allowed = a;
        none_before = λ g b. not-before-i N g (lowest N) (λ x l t s.
            by_cases (ltb (g x) (lowest N x))
            (λ h. clash (allowed-domain N g b x l t) (lowest-below N x (g x) (ltb-true _ _ h)))
            (λ h. ltb-false _ _ h));
      }

  pub as-verdict : Sound N → AsVerdict N
  unfolding lowest_solution
  as-verdict S =
      record {
        none_exactly = (
          λ v. exhausted-product.0 (verdict-none N v),
          λ h. none-verdict N (exhausted-product.1 h),
        );
        none_alike = λ v.
            let h = verdict-none N v in (
              (keeps-settled N N _ (keeps-refl N S)).none_exactly.1 (λ f. and-true _ ∙ exhausted-none N S h f),
              search-accepted.1 (omega (arith, exhausted-product.0 h)),
            );
        built_alike = λ v.
            let b = verdict-built N v in
            let F = lowest-first (lowest-allowed N b.0 b.1) in
            first-searched N S (lowest N) F (λ g e s. (
              found-is-not-none (searched N) g e,
              λ i. by_cases (ltb i N.n)
                  (λ t. let l = ltb-true i N.n t in
                  sought-found N g e i l ∙ completed-same N S g (lowest N) s i l ∙ sym (shown-built N v i l))
                  (λ t. let l = ltb-false i N.n t in sought-past N i l ∙ sym (shown-past N i l)),
            ));
      }

-- "an empty list makes that product 0": then there is nothing to try.
pub product-none : (N : Network) → Sound N → choice_product N ≡ 0 → searched N ≡ none
product-none N S h = ((as-verdict N S).none_alike ((as-verdict N S).none_exactly.1 h)).0

-- As many tuples have each number in its own set as the product of the counts of these sets says.
count-apart : (n : ℕ) (s : ℕ → ℕ) (q : ℕ → ℕ → Bool) (base : ℕ → ℕ)
    → sum_tuples n s (λ (g : ℕ → ℕ). bit (every n (λ (i : ℕ). q i (g i)))) base ≡ product n (λ (i : ℕ). count (s i) (q i))
unfolding sum_tuples every product count
count-apart zero s q base = bit-true true refl
count-apart (suc n) s q base =
    let rest : (ℕ → ℕ) → ℕ = λ g. bit (every n (λ (i : ℕ). q i (g i))) in
    let counts : ℕ = product n (λ (i : ℕ). count (s i) (q i)) in
    sum-cong (s n) _ (λ (v : ℕ). counts * bit (q n v))
    (λ v l. sum_tuples-cong n s _ (λ (g : ℕ → ℕ). bit (q n v) * rest g) (put base n v)
    (λ g t. rw (t.past n (omega arith), put-at base n v) (bit_and (q n v) _))
    ∙ sum_tuples-mul n s (bit (q n v)) rest (put base n v)
    ∙ rw (count-apart n s q (put base n v)) (mul_comm (bit (q n v)) counts))
    ∙ sum-mul (s n) counts (λ (v : ℕ). bit (q n v))
    ∙ mul_comm counts _

-- So "the product of the live list sizes" is the number of choices whose values are in their domains.
pub product-choices : (N : Network) → count_tuples N.n (choice_size N) (choice_in_domains N) ≡ choice_product N
unfolding choice_product count_tuples choice_in_domains
product-choices N =
    count-apart N.n (choice_size N) (λ (i v : ℕ). implies (free N i) (N.domain i v)) (λ (i : ℕ). 0)
    ∙ product-cong N.n _ _ (λ i _. one i)
  where
    one : (i : ℕ) → count (choice_size N i) (λ (v : ℕ). implies (free N i) (N.domain i v)) ≡ open_values N i
    one i =
        by_cases (free N i)
        (λ t. rw (choice_size-free N i t) (count-cong (N.size i) _ _ (λ v _. implies_true _ _ t) ∙ sym (open_free N i t)))
        (λ t. rw (choice_size-eliminated N i t)
        (count-one 1 _ 0 (omega arith) (implies-false _ _ t) (λ v l _. omega arith) ∙ sym (open-eliminated N i t)))
