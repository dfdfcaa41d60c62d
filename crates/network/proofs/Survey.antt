-- The survey: its tally counts the allowed choices, and has exactly the values of solutions.
use mathlib.Core.Bool.{Bool, true, false, false≢true}
use mathlib.Core.List.{List}
use mathlib.Core.Logic.Iff
use mathlib.Core.Logic.{◌↔◌}
use mathlib.Core.Path.{◌≡◌, refl, sym, ◌∙◌, ap, subst, fun_ext}
use Prim.Native.Nat.{ℕ, zero, suc, pred, ◌+◌, ◌*◌, ◌≤◌, ◌<◌}
use native.Mathlib.Nat.{mul-one, one-mul, zero-mul, mul-zero, mul_comm, mul_assoc, mul_left_comm, add-zero}
use native.Mathlib.Omega.{arith}
use lib.Dec.{eqb, leb, ltb}
use borrow.Author.Tests.{eq-eqb, ne_eqb, eqb-true, eqb-false, lt-ltb, ltb-true, ltb-false, le-ltb, le-leb, leb-true}
use Rattle.bounded.specs.Bool.{and, or, implies, not, bit, if}
use Rattle.bounded.specs.Fold.{every, some, sum, product, count, first}
use Rattle.bounded.proofs.Bool.{by_cases, clash, bool-ext, not-true→false, and_i, and_l, and_r, if-true, if-false, bit-true, bit-false, bit_and, bit_le}
use Rattle.bounded.proofs.Bool.{or_l, or_r, or_elim, implies-i, implies-e, not-i, not-e, and-true, and_comm, and-holds, and-fails}
use Rattle.bounded.proofs.Fold.{below_suc, every-i, every-e, pairs-i, some-i, some-e, sum-cong, sum-mul, product-cong, product-zero, product-some, count_none, count-pos, count-two, first_some, first_passes}
use Rattle.network.specs.Network.{Network, free, partner, solves}
use Rattle.network.specs.Sound.{Sound}
use Rattle.network.specs.Completion.{choice_in_domains, choice_pairs_allow, allowed_choice, completed, lowest, exhausted, decided, verdict, NONE, BUILT}
use Rattle.network.specs.Count.{put, sum_tuples, count_tuples, choice_size, choice_count}
use Rattle.network.specs.Search.{choice_product}
use Rattle.network.specs.Calls.{Call, after, added_by, keeps_to}
use Rattle.network.specs.Promise.{Keeps}
use Rattle.network.specs.Turns.{ChoiceFrom, Narrows}
use Rattle.network.specs.Survey.{Tally, nothing, joined, taken, narrowed_by, tallied, besides, tied, Picks, Tallies}
use Rattle.network.specs.Survey.{single, settled_domain, settled, all_count, free_used, any_used, spread, surveyed, Surveys, Surveyed, SurveyVerdict}
use Rattle.network.specs.Survey.{some_tuple, used_value, tied_values, tied_product, survey_refusal}
use Rattle.network.proofs.Step.{here}
use Rattle.network.proofs.Completion.{allowed-domain, allowed-pair, allowed-i, solves-domain, solves-pair, solves-cong, solves-allowed}
use Rattle.network.proofs.Completion.{completed-keeps, completed-partner, completed-solves, exhausted-e, not-exhausted, exhausted-none, lowest-domain, decided-apart, verdict-built, verdict-none}
use Rattle.network.proofs.Sound.{free-i, led-not-free, led-pred, free-or-led, domain-n, follower-n, leader-n, leader-is-free, leader-stated, partner-only, follower-exactly}
use Rattle.network.proofs.Search.{no-choice-no-solution, product-choices}
use Rattle.network.proofs.Calls.{after-keeps}
use Rattle.network.proofs.Count.{Tuple, tuple-suc, put-at, put_other, sum_tuples-sum, sum_tuples-cong, sum_tuples-sizes, sum_tuples-zero, keeps-count, choice_size-free, choice_size-eliminated}
use Rattle.network.proofs.Turns.{from-here, skip-down, skip-up, chosen, given}

-- ---- sums over tuples, the lowest variable first

pub put_is : (f : ℕ → ℕ) (i v k : ℕ) → k ≡ i → put f i v k ≡ v
put_is f i v k e = rw e (put-at f i v)

-- Two values that are put at two places: the order does not count.
put-swap : (f : ℕ → ℕ) (m n v u : ℕ) → (m ≡ n → ⊥) → put (put f m v) n u ≡ put (put f n u) m v
put-swap f m n v u d = fun_ext (λ i.
    by_cases (eqb i n)
    (λ t. let e = eqb-true i n t in
    put_is (put f m v) n u i e ∙ sym (put_other (put f n u) m v i (λ q. d (sym q ∙ e)) ∙ put_is f n u i e))
    (λ t. let a = eqb-false i n t in
    by_cases (eqb i m)
    (λ r. let e = eqb-true i m r in
    put_other (put f m v) n u i a ∙ put_is f m v i e ∙ sym (put_is (put f n u) m v i e))
    (λ r. let b = eqb-false i m r in
    put_other (put f m v) n u i a ∙ put_other f m v i b ∙ sym (put_other (put f n u) m v i b ∙ put_other f n u i a))))

-- The sum of w over all tuples of values below the sizes s at k, k + 1, .., `left` in all; elsewhere a tuple is as f.
pub sum_from : ℕ → ℕ → (ℕ → ℕ) → ((ℕ → ℕ) → ℕ) → (ℕ → ℕ) → ℕ
sum_from zero k s w f = w f
sum_from (suc left) k s w f = sum (s k) (λ (v : ℕ). sum_from left (suc k) s w (put f k v))

-- The last variable, m, is chosen innermost.
from_last : (left k m : ℕ) (s : ℕ → ℕ) (w : (ℕ → ℕ) → ℕ) (f : ℕ → ℕ) → k + left ≡ m
    → sum_from (suc left) k s w f ≡ sum_from left k s (λ (g : ℕ → ℕ). sum (s m) (λ (v : ℕ). w (put g m v))) f
unfolding sum_from
from_last zero k m s w f e = let q : k ≡ m = omega arith in rw q
from_last (suc left) k m s w f e = sum-cong (s k) _ _ (λ v l. from_last left (suc k) m s w (put f k v) (omega arith))

-- What is put at a place past n stays there.
tuples-put : (n m v : ℕ) (s : ℕ → ℕ) (w : (ℕ → ℕ) → ℕ) (f : ℕ → ℕ) → n ≤ m
    → sum_tuples n s w (put f m v) ≡ sum_tuples n s (λ (g : ℕ → ℕ). w (put g m v)) f
unfolding sum_tuples
tuples-put zero m v s w f l = refl
tuples-put (suc n) m v s w f l =
    sum-cong (s n) _ _ (λ u b.
    ap (sum_tuples n s w) (put-swap f m n v u (λ e. let x : ⊥ = omega arith in x))
    ∙ tuples-put n m v s w (put f n u) (omega arith))

-- So it is the same sum, whichever variable is first.
pub from_first : (n : ℕ) (s : ℕ → ℕ) (w : (ℕ → ℕ) → ℕ) (f : ℕ → ℕ) → sum_from n 0 s w f ≡ sum_tuples n s w f
from_first zero s w f = unfold sum_from sum_tuples in refl
from_first (suc n) s w f =
    from_last n 0 n s w f (omega arith)
    ∙ from_first n s (λ (g : ℕ → ℕ). sum (s n) (λ (v : ℕ). w (put g n v))) f
    ∙ sum_tuples-sum n s (s n) (λ (v : ℕ) (g : ℕ → ℕ). w (put g n v)) f
    ∙ sum-cong (s n) _ _ (λ v l. sym (tuples-put n n v s w f (omega arith)))
    ∙ (unfold sum_tuples in refl)

-- Functions that agree on every tuple have the same sum: a tuple is as f below k.
from-cong : (left k : ℕ) (s : ℕ → ℕ) (w u : (ℕ → ℕ) → ℕ) (f : ℕ → ℕ)
    → ((g : ℕ → ℕ) → ((i : ℕ) → i < k → g i ≡ f i) → w g ≡ u g)
    → sum_from left k s w f ≡ sum_from left k s u f
unfolding sum_from
from-cong zero k s w u f h = h f (λ i l. refl)
from-cong (suc left) k s w u f h =
    sum-cong (s k) _ _ (λ v l. from-cong left (suc k) s w u (put f k v)
    (λ g t. h g (λ i b. t i (omega arith) ∙ put_other f k v i (λ e. let x : ⊥ = omega arith in x))))

from-mul : (left k : ℕ) (s : ℕ → ℕ) (c : ℕ) (w : (ℕ → ℕ) → ℕ) (f : ℕ → ℕ)
    → sum_from left k s (λ (g : ℕ → ℕ). c * w g) f ≡ c * sum_from left k s w f
unfolding sum_from
from-mul zero k s c w f = refl
from-mul (suc left) k s c w f = sum-cong (s k) _ _ (λ v l. from-mul left (suc k) s c w (put f k v)) ∙ sum-mul (s k) c _

pub sum-single : (f : ℕ → ℕ) → sum 1 f ≡ f 0
unfolding sum
sum-single f = add-zero (f 0)

pub count-sum : (n : ℕ) (p : ℕ → Bool) → sum n (λ (v : ℕ). bit (p v)) ≡ count n p
unfolding count
count-sum n p = refl

-- A product, its first factor first.
product-first : (n : ℕ) (f : ℕ → ℕ) → product (suc n) f ≡ f 0 * product n (λ (i : ℕ). f (suc i))
unfolding product
product-first zero f = refl
product-first (suc n) f =
    ap (λ (x : ℕ). f (suc n) * x) (product-first n f) ∙ mul_left_comm (f (suc n)) (f 0) (product n (λ (i : ℕ). f (suc i)))

product-empty : (f : ℕ → ℕ) → product 0 f ≤ 1
unfolding product
product-empty f = omega arith

product-more : (n : ℕ) (f : ℕ → ℕ) → f n ≤ 1 → product n f ≤ 1 → product (suc n) f ≤ 1
unfolding product
product-more n f h k =
    by_cases (eqb (f n) 0)
    (λ t. rw (eqb-true (f n) 0 t, zero-mul (product n f)) (omega arith))
    (λ t. let d : f n ≡ 0 → ⊥ = eqb-false (f n) 0 t in
    let e : f n ≡ 1 = omega arith in
    rw (e, one-mul (product n f)) k)

pub product-one : (n : ℕ) (f : ℕ → ℕ) → ((i : ℕ) → i < n → f i ≡ 1) → product n f ≡ 1
unfolding product
product-one zero f h = refl
product-one (suc n) f h = rw (h n (omega arith), product-one n f (λ i l. h i (omega arith)))

-- Where all free variables are searched, there are none besides.
besides-all : (N : Network) (i : ℕ) → besides N (free N) i ≡ 1
unfolding besides
besides-all N i = if-false _ _ _ (not-true→false _ (λ t. clash (and_l _ _ t) (not-e _ (and_r _ _ t))))

pub product-from : (left k : ℕ) (f : ℕ → ℕ)
    → product (suc left) (λ (i : ℕ). f (k + i)) ≡ f k * product left (λ (i : ℕ). f (suc k + i))
product-from left k f =
    product-first left (λ (i : ℕ). f (k + i))
    ∙ ap (λ (x : ℕ). f x * product left (λ (i : ℕ). f (k + suc i))) (add-zero k)
    ∙ ap (λ (x : ℕ). f k * x) (product-cong left _ _ (λ i l. ap f (omega arith)))

-- ---- a choice from k on, as a test

module _ (N : Network) where
  -- `ChoiceFrom`, computed.
  pub fits : (ℕ → ℕ → Bool) → ℕ → (ℕ → ℕ) → Bool
  fits D k g =
      and
      (every N.n (λ (i : ℕ). implies (and (leb k i) (free N i)) (D i (g i))))
      (every N.n (λ (i : ℕ).
      every N.n (λ (j : ℕ).
      implies (and (and (leb k i) (ltb i j)) (and (and (free N i) (free N j)) (N.stated i j))) (N.allows i j (g i) (g j)))))

  fits-i : (D : ℕ → ℕ → Bool) (k : ℕ) (g : ℕ → ℕ) → ChoiceFrom N D k g → fits D k g ≡ true
  unfolding fits
  fits-i D k g c =
      and_i _ _
      (every-i N.n _ (λ i l. implies-i _ _ (λ t. c.listed i (leb-true k i (and_l _ _ t)) l (and_r _ _ t))))
      (every-i N.n _ (λ i l. every-i N.n _ (λ j m. implies-i _ _ (λ t.
      let a = and_l _ _ t in
      let b = and_r _ _ t in
      let q = and_l _ _ b in
      c.allowed i j (leb-true k i (and_l _ _ a)) (ltb-true i j (and_r _ _ a)) m (and_l _ _ q) (and_r _ _ q) (and_r _ _ b)))))

  fits-e : (D : ℕ → ℕ → Bool) (k : ℕ) (g : ℕ → ℕ) → fits D k g ≡ true → ChoiceFrom N D k g
  unfolding fits
  fits-e D k g h =
      record {
        listed = λ i a l t. implies-e _ _ (every-e N.n _ (and_l _ _ h) i l) (and_i _ _ (le-leb k i a) t);
        allowed = λ i j a l m t u s.
            implies-e _ _ (every-e N.n _ (every-e N.n _ (and_r _ _ h) i (omega arith)) j m)
            (and_i _ _ (and_i _ _ (le-leb k i a) (lt-ltb i j l)) (and_i _ _ (and_i _ _ t u) s));
      }

  -- At the end every choice fits.
  fits-end : (D : ℕ → ℕ → Bool) (k : ℕ) (g : ℕ → ℕ) → k ≡ N.n → fits D k g ≡ true
  fits-end D k g e =
      fits-i D k g
      (record {
        listed = λ i a l. absurd (let x : ⊥ = omega arith in x);
        allowed = λ i j a l m. absurd (let x : ⊥ = omega arith in x);
      })

  -- An eliminated variable makes no difference,
  fits-skip : (D : ℕ → ℕ → Bool) (k : ℕ) (g : ℕ → ℕ) → free N k ≡ false → fits D k g ≡ fits D (k + 1) g
  fits-skip D k g led =
      bool-ext _ _
      (λ h. fits-i D (k + 1) g (skip-down N D k led g (fits-e D k g h)))
      (λ h. fits-i D k g (skip-up N D k led g (fits-e D (k + 1) g h)))

  -- and a free one narrows the domains of those after it.
  narrows-by : (D : ℕ → ℕ → Bool) (k v : ℕ) → Narrows N D k v (narrowed_by N D k v)
  unfolding narrowed_by
  narrows-by D k v = record { later = λ j u l m t. refl }

  fits-take : (D : ℕ → ℕ → Bool) (k v : ℕ) (g : ℕ → ℕ) → k < N.n → free N k ≡ true → g k ≡ v
      → fits D k g ≡ and (D k v) (fits (narrowed_by N D k v) (k + 1) g)
  fits-take D k v g l t e =
      let W = narrows-by D k v in
      bool-ext _ _
      (λ h. let c = fits-e D k g h in
      and_i _ _ (rw e at (c.listed k (omega arith) l t)) (fits-i _ (k + 1) g (chosen N k l t v W g e c)))
      (λ h. fits-i D k g (given N k l t v W g e (and_l _ _ h) (fits-e _ (k + 1) g (and_r _ _ h))))

  -- Domains that agree at the free variables from k on.
  fits-same : (D E : ℕ → ℕ → Bool) (k : ℕ) (g : ℕ → ℕ) → ((j u : ℕ) → k ≤ j → j < N.n → free N j ≡ true → D j u ≡ E j u)
      → fits D k g ≡ fits E k g
  fits-same D E k g same =
      bool-ext _ _
      (λ h. let c = fits-e D k g h in
      fits-i E k g (record { listed = λ i a l t. sym (same i (g i) a l t) ∙ c.listed i a l t; allowed = c.allowed }))
      (λ h. let c = fits-e E k g h in
      fits-i D k g (record { listed = λ i a l t. same i (g i) a l t ∙ c.listed i a l t; allowed = c.allowed }))

-- ---- the tally, case by case

module _ (N : Network) (T : ℕ → Bool) (left k : ℕ) (D : ℕ → ℕ → Bool) where
  pub tally-skip : T k ≡ false → tallied N T (suc left) k D ≡ tallied N T left (suc k) D
  unfolding tallied
  tally-skip t = if-false _ _ _ t

  -- What each value of k gives.
  pub tried : ℕ → Tally
  tried v = if (D k v) (taken k v (tallied N T left (suc k) (narrowed_by N D k v))) nothing

  pub tally-try : T k ≡ true → tallied N T (suc left) k D ≡ joined (N.size k) tried
  unfolding tallied tried
  tally-try t = if-true _ _ _ t

  pub tried-taken : (v : ℕ) → D k v ≡ true → tried v ≡ taken k v (tallied N T left (suc k) (narrowed_by N D k v))
  unfolding tried
  tried-taken v t = if-true _ _ _ t

  pub tried-nothing : (v : ℕ) → D k v ≡ false → tried v ≡ nothing
  unfolding tried
  tried-nothing v t = if-false _ _ _ t

  pub tried-count : (v : ℕ) → (tried v).count ≡ bit (D k v) * (tallied N T left (suc k) (narrowed_by N D k v)).count
  unfolding taken nothing
  tried-count v =
      by_cases (D k v)
      (λ t. rw (tried-taken v t, bit-true _ t) (sym (one-mul _)))
      (λ t. rw (tried-nothing v t, bit-false _ t) (sym (zero-mul _)))

  pub tally-sum : T k ≡ true
      → (tallied N T (suc left) k D).count ≡ sum (N.size k) (λ (v : ℕ). bit (D k v) * (tallied N T left (suc k) (narrowed_by N D k v)).count)
  unfolding joined
  tally-sum t = rw (tally-try t) (sum-cong (N.size k) _ _ (λ v l. tried-count v))

-- ---- the tally counts the choices

-- T are free variables, and among them all that are stated with a free one: nothing but a domain ties the others down.
pub record Covers (N : Network) (T : ℕ → Bool) : Type 0 where
  pub only_free : (i : ℕ) → T i ≡ true → free N i ≡ true
  pub all_stated : (i j : ℕ) → i < N.n → j < N.n → free N i ≡ true → free N j ≡ true → N.stated i j ≡ true → T i ≡ true

-- What the tally asks of a network: less than `Sound`.
pub record Even (N : Network) : Type 0 where
  pub stated_sym : (i j : ℕ) → N.stated i j ≡ N.stated j i
  pub no_self : (i : ℕ) → N.stated i i ≡ false
  pub allows_sym : (i j a b : ℕ) → N.allows i j a b ≡ N.allows j i b a

pub sound-even : (N : Network) → Sound N → Even N
sound-even N S = record { stated_sym = S.stated_sym; no_self = S.no_self; allows_sym = S.allows_sym }

module _ (N : Network) (S : Even N) (T : ℕ → Bool) (C : Covers N T) where
  besides-count : (i : ℕ) → free N i ≡ true → T i ≡ false → besides N T i ≡ count (N.size i) (N.domain i)
  unfolding besides
  besides-count i t u = if-true _ _ _ (and_i _ _ t (not-i _ u))

  besides-one : (i : ℕ) → T i ≡ true → besides N T i ≡ 1
  unfolding besides
  besides-one i u = if-false _ _ _ (not-true→false _ (λ t. clash u (not-e _ (and_r _ _ t))))

  besides-eliminated : (i : ℕ) → free N i ≡ false → besides N T i ≡ 1
  unfolding besides
  besides-eliminated i u = if-false _ _ _ (and-fails _ _ u)

  not-eliminated : (i : ℕ) → free N i ≡ false → T i ≡ false
  not-eliminated i u = not-true→false _ (λ t. clash (C.only_free i t) u)

  -- A free variable that is not of T is stated with no free one, from either side,
  apart-l : (i j : ℕ) → i < N.n → j < N.n → free N i ≡ true → free N j ≡ true → T i ≡ false → N.stated i j ≡ false
  apart-l i j l m t u a = not-true→false _ (λ s. clash (C.all_stated i j l m t u s) a)

  apart-r : (i j : ℕ) → i < N.n → j < N.n → free N i ≡ true → free N j ≡ true → T j ≡ false → N.stated i j ≡ false
  apart-r i j l m t u a = S.stated_sym i j ∙ apart-l j i m l u t a

  -- so nothing is narrowed.
  narrowed-not : (D : ℕ → ℕ → Bool) (k v j u : ℕ) → N.stated k j ≡ false → narrowed_by N D k v j u ≡ D j u
  unfolding narrowed_by implies
  narrowed-not D k v j u s = rw s (and-true (D j u))

  abbrev Own : (ℕ → ℕ → Bool) → ℕ → Type 0
  Own D k = (i u : ℕ) → k ≤ i → i < N.n → free N i ≡ true → T i ≡ false → D i u ≡ N.domain i u

  Counts : ℕ → ℕ → (ℕ → ℕ → Bool) → Type 0
  Counts left k D = (f : ℕ → ℕ) →
      sum_from left k (choice_size N) (λ (g : ℕ → ℕ). bit (fits N D k g)) f
      ≡ (tallied N T left k D).count * product left (λ (i : ℕ). besides N T (k + i))

  counts_end : (k : ℕ) (D : ℕ → ℕ → Bool) → k ≡ N.n → Counts zero k D
  unfolding Counts sum_from tallied product
  counts_end k D e f = bit-true _ (fits-end N D k f e)

  counts-skip : (left k : ℕ) (D : ℕ → ℕ → Bool) → free N k ≡ false → Counts left (suc k) D → Counts (suc left) k D
  unfolding Counts sum_from
  counts-skip left k D t ih f =
      rw (choice_size-eliminated N k t, tally-skip N T left k D (not-eliminated k t))
      (sum-single _
      ∙ from-cong left (suc k) (choice_size N) _ _ (put f k 0) (λ g _. ap bit (fits-skip N D k g t ∙ ap (λ (m : ℕ). fits N D m g) (omega arith)))
      ∙ ih (put f k 0)
      ∙ ap (λ (x : ℕ). (tallied N T left (suc k) D).count * x)
      (sym (product-from left k (besides N T) ∙ rw (besides-eliminated k t) (one-mul _))))

  -- One value of a free variable.
  one_value : (left k v : ℕ) (D E : ℕ → ℕ → Bool) (f : ℕ → ℕ) → k < N.n → free N k ≡ true
      → ((j u : ℕ) → k + 1 ≤ j → j < N.n → free N j ≡ true → narrowed_by N D k v j u ≡ E j u)
      → Counts left (suc k) E
      → sum_from left (suc k) (choice_size N) (λ (g : ℕ → ℕ). bit (fits N D k g)) (put f k v)
      ≡ bit (D k v) * ((tallied N T left (suc k) E).count * product left (λ (i : ℕ). besides N T (suc k + i)))
  unfolding Counts
  one_value left k v D E f l t same ih =
      from-cong left (suc k) (choice_size N) _ (λ (g : ℕ → ℕ). bit (D k v) * bit (fits N E (suc k) g)) (put f k v)
      (λ g q.
      ap bit (fits-take N D k v g l t (q k (omega arith) ∙ put-at f k v))
      ∙ bit_and (D k v) _
      ∙ ap (λ (x : Bool). bit (D k v) * bit x)
      (fits-same N _ E (k + 1) g same ∙ ap (λ (m : ℕ). fits N E m g) (omega arith)))
      ∙ from-mul left (suc k) (choice_size N) (bit (D k v)) (λ (g : ℕ → ℕ). bit (fits N E (suc k) g)) (put f k v)
      ∙ ap (λ (x : ℕ). bit (D k v) * x) (ih (put f k v))

  counts-try : (left k : ℕ) (D : ℕ → ℕ → Bool) → k < N.n → T k ≡ true
      → ((v : ℕ) → Counts left (suc k) (narrowed_by N D k v))
      → Counts (suc left) k D
  unfolding Counts sum_from
  counts-try left k D l t ih f =
      let u = C.only_free k t in
      let P : ℕ = product left (λ (i : ℕ). besides N T (suc k + i)) in
      let c : ℕ → ℕ = λ v. (tallied N T left (suc k) (narrowed_by N D k v)).count in
      rw (choice_size-free N k u)
      (sum-cong (N.size k) _ (λ (v : ℕ). P * (bit (D k v) * c v))
      (λ v _. one_value left k v D (narrowed_by N D k v) f l u (λ j w a m r. refl) (ih v)
      ∙ sym (mul_assoc (bit (D k v)) (c v) P) ∙ mul_comm (bit (D k v) * c v) P)
      ∙ sum-mul (N.size k) P (λ (v : ℕ). bit (D k v) * c v)
      ∙ mul_comm P _
      ∙ rw (sym (tally-sum N T left k D t))
      (ap (λ (x : ℕ). (tallied N T (suc left) k D).count * x)
      (sym (product-from left k (besides N T) ∙ rw (besides-one k t) (one-mul _)))))

  counts-besides : (left k : ℕ) (D : ℕ → ℕ → Bool) → k < N.n → free N k ≡ true → T k ≡ false
      → ((u : ℕ) → D k u ≡ N.domain k u)
      → Counts left (suc k) D
      → Counts (suc left) k D
  unfolding Counts sum_from
  counts-besides left k D l t a own ih f =
      let P : ℕ = product left (λ (i : ℕ). besides N T (suc k + i)) in
      let X : ℕ = (tallied N T left (suc k) D).count * P in
      rw (choice_size-free N k t, tally-skip N T left k D a)
      (sum-cong (N.size k) _ (λ (v : ℕ). X * bit (N.domain k v))
      (λ v _. one_value left k v D D f l t (λ j w b m r. narrowed-not D k v j w (apart-l k j l m t r a)) ih
      ∙ rw (own v) (mul_comm _ X))
      ∙ sum-mul (N.size k) X (λ (v : ℕ). bit (N.domain k v))
      ∙ (let e : sum (N.size k) (λ (v : ℕ). bit (N.domain k v)) ≡ besides N T k = count-sum (N.size k) (N.domain k) ∙ sym (besides-count k t a) in
      rw e (mul_assoc _ P _))
      ∙ ap (λ (x : ℕ). (tallied N T left (suc k) D).count * x) (mul_comm P _ ∙ sym (product-from left k (besides N T))))

  -- Down all the variables: the choices from k on, within domains that are the network's own at the variables that are not of T.
  counts : (left k : ℕ) (D : ℕ → ℕ → Bool) → k + left ≡ N.n → Own D k → Counts left k D
  counts zero k D e own = counts_end k D (omega arith)
  counts (suc left) k D e own =
      let l : k < N.n = omega arith in
      by_cases (free N k)
      (λ t. by_cases (T k)
      (λ u. counts-try left k D l u (λ v.
      counts left (suc k) (narrowed_by N D k v) (omega arith) (λ i w a m r q.
      narrowed-not D k v i w (apart-r k i l m t r q) ∙ own i w (omega arith) m r q)))
      (λ u. counts-besides left k D l t u (λ w. own k w (omega arith) l t u)
      (counts left (suc k) D (omega arith) (λ i w a. own i w (omega arith)))))
      (λ t. counts-skip left k D t (counts left (suc k) D (omega arith) (λ i w a. own i w (omega arith))))

  fits-allowed : (g : ℕ → ℕ) → fits N N.domain 0 g ≡ allowed_choice N g
  fits-allowed g =
      bool-ext _ _
      (λ h. let c = fits-e N N.domain 0 g h in
      allowed-i N g (λ i l t. c.listed i (omega arith) l t) (λ i j l m t u s. pair c i j l m t u s))
      (λ h. fits-i N N.domain 0 g
      (record { listed = λ i _ l t. allowed-domain N g h i l t; allowed = λ i j _ l m t u s. allowed-pair N g h i j (omega arith) m t u s }))
    where
      pair : ChoiceFrom N N.domain 0 g → (i j : ℕ) → i < N.n → j < N.n → free N i ≡ true → free N j ≡ true → N.stated i j ≡ true
          → N.allows i j (g i) (g j) ≡ true
      pair c i j li lj ti tj s =
          by_cases (ltb i j)
          (λ t. c.allowed i j (omega arith) (ltb-true i j t) lj ti tj s)
          (λ t. by_cases (ltb j i)
          (λ r. S.allows_sym i j (g i) (g j) ∙ c.allowed j i (omega arith) (ltb-true j i r) li tj ti (S.stated_sym j i ∙ s))
          (λ r. let e : i ≡ j = omega (arith, ltb-false i j t, ltb-false j i r) in clash s (rw e (S.no_self j))))

  -- "how many builds the state has": the choices of T, times the domains of the other free variables.
  pub tally-counts : (tallied N T N.n 0 N.domain).count * product N.n (besides N T) ≡ choice_count N
  unfolding choice_count count_tuples Counts
  tally-counts =
      let c : Counts N.n 0 N.domain = counts N.n 0 N.domain (omega arith) (λ i u a m t q. refl) in
      let base : ℕ → ℕ = λ i. 0 in
      ap (λ (x : ℕ). (tallied N T N.n 0 N.domain).count * x) (product-cong N.n _ _ (λ i l. ap (besides N T) (omega arith)))
      ∙ sym (c base)
      ∙ from_first N.n (choice_size N) (λ (g : ℕ → ℕ). bit (fits N N.domain 0 g)) base
      ∙ sum_tuples-cong N.n (choice_size N) _ _ base (λ g t. ap bit (fits-allowed g))

-- ---- the tally has exactly the values of choices

sum-pos : (n : ℕ) (f : ℕ → ℕ) (k : ℕ) → k < n → 1 ≤ f k → 1 ≤ sum n f
unfolding sum
sum-pos zero f k l h = absurd (let x : ⊥ = omega arith in x)
sum-pos (suc n) f k l h =
    below_suc n k l
    (λ e. let q : f k ≡ f n = ap f e in omega arith)
    (λ b. omega (arith, sum-pos n f k b h))

sum-some : {A : Type 0} (n : ℕ) (f : ℕ → ℕ) → 1 ≤ sum n f → ((k : ℕ) → k < n → 1 ≤ f k → A) → A
unfolding sum
sum-some zero f h g = absurd (let x : ⊥ = omega arith in x)
sum-some (suc n) f h g =
    by_cases (eqb (f n) 0)
    (λ t. let e : f n ≡ 0 = eqb-true _ _ t in sum-some n f (omega arith) (λ k l. g k (omega arith)))
    (λ t. let d : f n ≡ 0 → ⊥ = eqb-false _ _ t in g n (omega arith) (omega arith))

module _ (N : Network) (T : ℕ → Bool) where
  -- The values in the domains D of T from k on are below the sizes.
  abbrev pub Within : (ℕ → ℕ → Bool) → ℕ → Type 0
  Within D k = (i v : ℕ) → k ≤ i → i < N.n → T i ≡ true → D i v ≡ true → v < N.size i

  -- ---- choices of T, variable by variable

  pub picks-end : (D : ℕ → ℕ → Bool) (k : ℕ) (f : ℕ → ℕ) → k ≡ N.n → Picks N T D k f
  picks-end D k f e =
      record {
        listed = λ i a l. absurd (let x : ⊥ = omega arith in x);
        allowed = λ i j a l m. absurd (let x : ⊥ = omega arith in x);
      }

  pub picks-later : (D : ℕ → ℕ → Bool) (k : ℕ) (f : ℕ → ℕ) → Picks N T D k f → Picks N T D (suc k) f
  picks-later D k f c = record { listed = λ i a. c.listed i (omega arith); allowed = λ i j a. c.allowed i j (omega arith) }

  pub picks-skip : (D : ℕ → ℕ → Bool) (k : ℕ) (f : ℕ → ℕ) → T k ≡ false → Picks N T D (suc k) f → Picks N T D k f
  picks-skip D k f u c =
      record {
        listed = λ i a l t. from-here k i a (λ e. clash (rw e at t) u) (λ m. c.listed i (omega arith) l t);
        allowed = λ i j a l m t w s. from-here k i a (λ e. clash (rw e at t) u) (λ r. c.allowed i j (omega arith) l m t w s);
      }

  module _ (D : ℕ → ℕ → Bool) (k v : ℕ) (l : k < N.n) (t : T k ≡ true) where
    pub picks-down : (f : ℕ → ℕ) → f k ≡ v → Picks N T D k f → Picks N T (narrowed_by N D k v) (suc k) f
    unfolding narrowed_by
    picks-down f e c =
        record {
          listed = λ j a m u.
              and_i _ _ (c.listed j (omega arith) m u)
              (implies-i _ _ (λ s. rw e at (c.allowed k j (omega arith) (omega arith) m t u s)));
          allowed = λ i j a. c.allowed i j (omega arith);
        }

    pub picks_up : (f : ℕ → ℕ) → f k ≡ v → D k v ≡ true → Picks N T (narrowed_by N D k v) (suc k) f → Picks N T D k f
    unfolding narrowed_by
    picks_up f e d c =
        record {
          listed = λ i a m u. from-here k i a (λ q. rw (q, e) d) (λ b. and_l _ _ (c.listed i (omega arith) m u));
          allowed = λ i j a b m u w s. from-here k i a
              (λ q. rw (q, e) (implies-e _ _ (and_r _ _ (c.listed j (omega arith) m w)) (rw q at s)))
              (λ r. c.allowed i j (omega arith) b m u w s);
        }

  pub picks-put : (E : ℕ → ℕ → Bool) (k v : ℕ) (f : ℕ → ℕ) → Picks N T E (suc k) f → Picks N T E (suc k) (put f k v)
  picks-put E k v f c =
      record {
        listed = λ i a m u. rw (same i a) (c.listed i a m u);
        allowed = λ i j a b m u w s. rw (same i a, same j (omega arith)) (c.allowed i j a b m u w s);
      }
    where
      same : (i : ℕ) → suc k ≤ i → put f k v i ≡ f i
      same i a = put_other f k v i (λ e. let x : ⊥ = omega arith in x)

  -- ---- the tally, variable by variable

  tallies-end : (D : ℕ → ℕ → Bool) (k : ℕ) → k ≡ N.n → Tallies N T D k (tallied N T zero k D)
  unfolding tallied
  tallies-end D k e =
      record {
        some_exactly = (λ _. ((λ (i : ℕ). 0), picks-end D k _ e), λ _. omega arith);
        used_exactly = λ i v. (λ h. absurd (false≢true h), λ h. absurd (let a = h.1 in let b = h.2 in let x : ⊥ = omega arith in x));
      }

  tallies-skip : (left k : ℕ) (D : ℕ → ℕ → Bool) → T k ≡ false → Tallies N T D (suc k) (tallied N T left (suc k) D)
      → Tallies N T D k (tallied N T (suc left) k D)
  tallies-skip left k D t R =
      rw (tally-skip N T left k D t)
      (record {
        some_exactly = (
          λ h. let p = R.some_exactly.0 h in (p.0, picks-skip D k p.0 t p.1),
          λ h. R.some_exactly.1 (h.0, picks-later D k h.0 h.1),
        );
        used_exactly = λ i v. (
          λ h. let p = (R.used_exactly i v).0 h in
              let a = p.1 in
              (p.0, omega arith, p.2, p.3, p.4, picks-skip D k p.0 t p.5),
          λ h. (R.used_exactly i v).1
              (h.0, from-here k i h.1 (λ e. clash (rw e at h.3) t) (λ b. omega arith), h.2, h.3, h.4, picks-later D k h.0 h.5),
        );
      })

  module _ (left k : ℕ) (D : ℕ → ℕ → Bool) (l : k < N.n) (t : T k ≡ true) (B : Within D k)
      (R : (v : ℕ) → Tallies N T (narrowed_by N D k v) (suc k) (tallied N T left (suc k) (narrowed_by N D k v))) where
    abbrev rest : ℕ → Tally
    rest v = tallied N T left (suc k) (narrowed_by N D k v)

    -- A choice of the rest, with v at k.
    with_value : (v : ℕ) (f : ℕ → ℕ) → D k v ≡ true → Picks N T (narrowed_by N D k v) (suc k) f → Picks N T D k (put f k v)
    with_value v f d c = picks_up D k v l t (put f k v) (put-at f k v) d (picks-put _ k v f c)

    count-e : 1 ≤ (tallied N T (suc left) k D).count → (f : ℕ → ℕ) × Picks N T D k f
    count-e h =
        sum-some (N.size k) _ (rw (tally-sum N T left k D t) at h) (λ v b p.
        by_cases (D k v)
        (λ d. let q = (R v).some_exactly.0 (rw (bit-true _ d, one-mul (rest v).count) at p) in
        (put q.0 k v, with_value v q.0 d q.1))
        (λ d. absurd (let z : bit (D k v) * (rest v).count ≡ 0 = rw (bit-false _ d) (zero-mul _) in let x : ⊥ = omega arith in x)))

    count-i : (f : ℕ → ℕ) → Picks N T D k f → 1 ≤ (tallied N T (suc left) k D).count
    count-i f c =
        let d = c.listed k (omega arith) l t in
        rw (tally-sum N T left k D t)
        (sum-pos (N.size k) _ (f k) (B k (f k) (omega arith) l t d)
        (rw (bit-true _ d, one-mul (rest (f k)).count) ((R (f k)).some_exactly.1 (f, picks-down D k (f k) l t f refl c))))

    abbrev Shown : ℕ → ℕ → Type 0
    Shown i u = (f : ℕ → ℕ) × (k ≤ i) × (i < N.n) × (T i ≡ true) × (f i ≡ u) × Picks N T D k f

    -- What one value of k gives.
    tried-e : (v i u : ℕ) → (tried N T left k D v).used i u ≡ true → Shown i u
    unfolding taken nothing
    tried-e v i u h =
        by_cases (D k v)
        (λ d. or_elim ((rest v).used i u) _ (rw (tried-taken N T left k D v d) at h)
        (λ a. let q = ((R v).used_exactly i u).0 a in
        let b = q.1 in (
          put q.0 k v,
          omega arith,
          q.2,
          q.3,
          put_other q.0 k v i (λ e. let x : ⊥ = omega arith in x) ∙ q.4,
          with_value v q.0 d q.5,
        ))
        (λ a. let w = and_r _ _ a in
        let at-k = eqb-true i k (and_l _ _ w) in
        let is-v = eqb-true u v (and_r _ _ w) in
        let q = (R v).some_exactly.0 (ltb-true 0 _ (and_l _ _ a)) in
        (put q.0 k v, omega arith, rw at-k l, rw at-k t, put_is q.0 k v i at-k ∙ sym is-v, with_value v q.0 d q.1)))
        (λ d. absurd (false≢true (rw (tried-nothing N T left k D v d) at h)))

    tried-i : (f : ℕ → ℕ) (i : ℕ) → k ≤ i → i < N.n → T i ≡ true → Picks N T D k f → (tried N T left k D (f k)).used i (f i) ≡ true
    unfolding taken
    tried-i f i a m u c =
        let down = picks-down D k (f k) l t f refl c in
        rw (tried-taken N T left k D (f k) (c.listed k (omega arith) l t))
        (from-here k i a
        (λ e. or_r _ _ (and_i _ _ (lt-ltb 0 _ ((R (f k)).some_exactly.1 (f, down))) (and_i _ _ (eq-eqb i k e) (eq-eqb _ _ (ap f e)))))
        (λ b. or_l _ _ (((R (f k)).used_exactly i (f i)).1 (f, omega arith, m, u, refl, down))))

    tallies-try : Tallies N T D k (tallied N T (suc left) k D)
    unfolding joined
    tallies-try =
        record {
          some_exactly = (count-e, λ h. count-i h.0 h.1);
          used_exactly = λ i u. (
            λ h. some-e (N.size k) _ (rw (tally-try N T left k D t) at h) (λ v b q. tried-e v i u q),
            λ h. let f = h.0 in
                let c = h.5 in
                rw (tally-try N T left k D t)
                (some-i (N.size k) _ (f k) (B k (f k) (omega arith) l t (c.listed k (omega arith) l t))
                (rw h.4 at (tried-i f i h.1 h.2 h.3 c))),
          );
        }

  -- Down all the variables.
  pub tallies : (left k : ℕ) (D : ℕ → ℕ → Bool) → k + left ≡ N.n → Within D k → Tallies N T D k (tallied N T left k D)
  unfolding narrowed_by
  tallies zero k D e B = tallies-end D k (omega arith)
  tallies (suc left) k D e B =
      by_cases (T k)
      (λ t. tallies-try left k D (omega arith) t B (λ v.
      tallies left (suc k) (narrowed_by N D k v) (omega arith) (λ i u a m q d. B i u (omega arith) m q (and_l _ _ d))))
      (λ t. tallies-skip left k D t (tallies left (suc k) D (omega arith) (λ i u a. B i u (omega arith))))

-- ---- the values of solutions

-- Some tuple passes p exactly when there is one.
pub tuple-i : (n : ℕ) (s : ℕ → ℕ) (p : (ℕ → ℕ) → Bool) (f g : ℕ → ℕ) → Tuple n s f g → p g ≡ true → some_tuple n s p f ≡ true
unfolding some_tuple
tuple-i zero s p f g t h = ap p (fun_ext (λ i. sym (t.past i (omega arith)))) ∙ h
tuple-i (suc n) s p f g t h =
    some-i (s n) _ (g n) (t.below n (omega arith))
    (tuple-i n s p (put f n (g n)) g
    (record {
      below = λ i l. t.below i (omega arith);
      past = λ i l. from-here n i l
          (λ e. ap g e ∙ sym (put_is f n (g n) i e))
          (λ m. t.past i (omega arith) ∙ sym (put_other f n (g n) i (λ e. let x : ⊥ = omega arith in x)));
    })
    h)

pub tuple-e : {A : Type 0} (n : ℕ) (s : ℕ → ℕ) (p : (ℕ → ℕ) → Bool) (f : ℕ → ℕ) → some_tuple n s p f ≡ true
    → ((g : ℕ → ℕ) → Tuple n s f g → p g ≡ true → A)
    → A
unfolding some_tuple
tuple-e zero s p f h u = u f (record { below = λ i l. absurd (let x : ⊥ = omega arith in x); past = λ i l. refl }) h
tuple-e (suc n) s p f h u =
    some-e (s n) _ h (λ v l q. tuple-e n s p (put f n v) q (λ g t. u g (tuple-suc n s f g v l t)))

-- Some solution that passes p has v at i.
abbrev pub HasValue : Network → ((ℕ → ℕ) → Bool) → ℕ → ℕ → Type 0
HasValue N p i v = (f : ℕ → ℕ) × (i < N.n) × (and (solves N f) (p f) ≡ true) × (f i ≡ v)

pub value-e : (N : Network) (p : (ℕ → ℕ) → Bool) (i v : ℕ) → used_value N p i v ≡ true → HasValue N p i v
unfolding used_value
value-e N p i v h =
    tuple-e N.n N.size _ _ (and_r _ _ h)
    (λ g t q. (g, ltb-true _ _ (and_l _ _ h), and_l _ _ q, eqb-true _ _ (and_r _ _ q)))

-- Only values below n count for a solution, so it is one of the tuples.
pub value-i : (N : Network) → Sound N → (i v : ℕ) (f : ℕ → ℕ) → i < N.n → solves N f ≡ true → f i ≡ v
    → used_value N (λ (g : ℕ → ℕ). true) i v ≡ true
unfolding used_value
value-i N S i v f l h e =
    let g : ℕ → ℕ = λ x. if (ltb x N.n) (f x) 0 in
    let same : (x : ℕ) → x < N.n → g x ≡ f x = λ x m. if-true _ _ _ (lt-ltb x N.n m) in
    and_i _ _ (lt-ltb i N.n l)
    (tuple-i N.n N.size _ _ g
    (record {
      below = λ x m. rw (same x m) (S.domain_in x (f x) (solves-domain N f h x m));
      past = λ x m. if-false _ _ _ (le-ltb x N.n m);
    })
    (and_i _ _ (and-true _ ∙ solves-cong N g f same ∙ h) (eq-eqb _ _ (same i l ∙ e))))

pub value_exactly : (N : Network) → Sound N → (i v : ℕ)
    → (used_value N (λ (g : ℕ → ℕ). true) i v ≡ true) ↔ ((f : ℕ → ℕ) × (i < N.n) × (solves N f ≡ true) × (f i ≡ v))
value_exactly N S i v = (
  λ h. let p = value-e N _ i v h in (p.0, p.1, and_l _ _ p.2, p.3),
  λ h. value-i N S i v h.0 h.1 h.2 h.3,
)

-- With `Keeps` they are those of N's solutions that pass p.
pub value_keeps : (N M : Network) (p : (ℕ → ℕ) → Bool) → Keeps N M p → (i v : ℕ) → used_value M (λ (g : ℕ → ℕ). true) i v ≡ used_value N p i v
unfolding used_value
value_keeps N M p K i v =
    let tests : ◌≡◌ {A = (ℕ → ℕ) → Bool} (λ f. and (and (solves M f) true) (eqb (f i) v)) (λ f. and (and (solves N f) (p f)) (eqb (f i) v)) =
    fun_ext (λ f. ap (λ (b : Bool). and b (eqb (f i) v)) (and-true (solves M f) ∙ K.same_solutions f)) in
    let sizes : M.size ≡ N.size = fun_ext K.same_size in
    rw (tests, sizes, K.same_n)

-- ---- the tied variables

module _ (N : Network) where
  pub tied-free : (i : ℕ) → tied N i ≡ true → free N i ≡ true
  unfolding tied
  tied-free i t = and_l _ _ t

  pub tied-i : (i j : ℕ) → i < N.n → j < N.n → free N i ≡ true → free N j ≡ true → N.stated i j ≡ true → tied N i ≡ true
  unfolding tied
  tied-i i j l m t u s = and_i _ _ t (some-i N.n _ j m (and_i _ _ u s))

  pub tied-covers : Covers N (tied N)
  tied-covers = record { only_free = tied-free; all_stated = tied-i }

  -- No variable is tied exactly where no two free ones are stated together.
  pub decided-tied : decided N ≡ true → (i : ℕ) → i < N.n → tied N i ≡ false
  unfolding tied
  decided-tied d i l = not-true→false _ (λ t.
      some-e N.n _ (and_r _ _ t) (λ j m q. clash (and_r _ _ q) ((decided-apart N).0 d i j l m (and_l _ _ t) (and_l _ _ q))))

  pub tied-decided : ((i : ℕ) → i < N.n → tied N i ≡ false) → decided N ≡ true
  tied-decided h = (decided-apart N).1 (λ i j l m t u. not-true→false _ (λ s. clash (tied-i i j l m t u s) (h i l)))

  pub tied-count : (i : ℕ) → tied N i ≡ true → tied_values N i ≡ count (N.size i) (N.domain i)
  unfolding tied_values
  tied-count i t = if-true _ _ _ (tied-free i t) ∙ if-true _ _ _ t

  pub tied-not : (i : ℕ) → free N i ≡ true → tied N i ≡ false → tied_values N i ≡ bit (some (N.size i) (N.domain i))
  unfolding tied_values
  tied-not i t u = if-true _ _ _ t ∙ if-false _ _ _ u

  pub tied-eliminated : (i : ℕ) → free N i ≡ false → tied_values N i ≡ 1
  unfolding tied_values
  tied-eliminated i t = if-false _ _ _ t

  -- "an empty list of any live option, tied or not, makes the product 0", and nothing else does.
  pub exhausted-tied : (exhausted N ≡ true) ↔ (tied_product N ≡ 0)
  unfolding tied_product
  exhausted-tied = (
    λ h. exhausted-e N h (λ i l t e. product-zero N.n (tied_values N) i l (emptied i t e)),
    λ h. product-some N.n (tied_values N) h (λ i l e. by_cases (exhausted N) (λ t. t) (λ t. absurd (filled i l t e))),
  )
    where
      emptied : (i : ℕ) → free N i ≡ true → some (N.size i) (N.domain i) ≡ false → tied_values N i ≡ 0
      emptied i t e =
          by_cases (tied N i)
          (λ u. tied-count i u ∙ count_none (N.size i) (N.domain i) e)
          (λ u. tied-not i t u ∙ bit-false _ e)

      filled : (i : ℕ) → i < N.n → exhausted N ≡ false → tied_values N i ≡ 0 → ⊥
      filled i l h e =
          by_cases (free N i)
          (λ t. let s = not-exhausted N h i l t in
          by_cases (tied N i)
          (λ u. some-e (N.size i) (N.domain i) s (λ a m d.
          let x : ⊥ = omega (arith, tied-count i u, count-pos (N.size i) (N.domain i) a m d) in x))
          (λ u. let x : ⊥ = omega (arith, tied-not i t u, bit-true _ s) in x))
          (λ t. let x : ⊥ = omega (arith, tied-eliminated i t) in x)

  -- Nothing is searched where no two free variables are stated together.
  pub decided-product : decided N ≡ true → tied_product N ≤ 1
  unfolding tied_product
  decided-product d = product-ones N.n (tied_values N) (λ i l. by_cases (free N i)
      (λ t. omega (arith, tied-not i t (decided-tied d i l), bit_le (some (N.size i) (N.domain i))))
      (λ t. omega (arith, tied-eliminated i t)))
    where
      product-ones : (n : ℕ) (f : ℕ → ℕ) → ((i : ℕ) → i < n → f i ≤ 1) → product n f ≤ 1
      product-ones zero f h = product-empty f
      product-ones (suc n) f h = product-more n f (h n (omega arith)) (product-ones n f (λ i l. h i (omega arith)))

  pub survey-refused : (survey_refusal N ≡ 23) ↔ (1000000 < tied_product N)
  unfolding survey_refusal
  survey-refused = Iff.trans (here _ 23 _ (omega arith)) (ltb-true _ _, lt-ltb _ _)

  pub survey-accepted : tied_product N ≤ 1000000 → survey_refusal N ≡ 0
  unfolding survey_refusal
  survey-accepted l = if-false _ _ _ (le-ltb 1000000 (tied_product N) l)

-- ---- small facts

pairs-apart : (N : Network) (f : ℕ → ℕ)
    → ((i j : ℕ) → i < N.n → j < N.n → free N i ≡ true → free N j ≡ true → N.stated i j ≡ false)
    → choice_pairs_allow N f ≡ true
unfolding choice_pairs_allow
pairs-apart N f h =
    pairs-i N.n _ (λ i j l m. implies-i _ _ (λ t.
    clash (and_r _ _ (and_r _ _ t)) (h i j l m (and_l _ _ t) (and_l _ _ (and_r _ _ t)))))

-- Where there is a solution there is a choice: some value is used.
choices-pos : (N : Network) → Sound N → (f : ℕ → ℕ) → solves N f ≡ true → 1 ≤ choice_count N
choices-pos N S f h =
    rw (sym (tally-counts N (sound-even N S) (free N) (record { only_free = λ i t. t; all_stated = λ i j l m t u s. t })))
    (product-pos _ _
    ((tallies N (free N) N.n 0 N.domain (omega arith) (λ i v _ _ _ d. S.domain_in i v d)).some_exactly.1 (
      f,
      record {
        listed = λ i _ l t. solves-domain N f h i l;
        allowed = λ i j _ l m t u s. solves-pair N f h i j (omega arith) m s;
      },
    ))
    (product-besides N))
  where
    product-pos : (a b : ℕ) → 1 ≤ a → b ≡ 1 → 1 ≤ a * b
    product-pos a b l e = rw (e, mul-one a) l

    product-besides : (N : Network) → product N.n (besides N (free N)) ≡ 1
    product-besides N = product-one N.n _ (λ i l. besides-all N i)

settled-size : (N : Network) (i : ℕ) → choice_size (settled N) i ≡ choice_size N i
unfolding choice_size settled free
settled-size N i = refl

settled-own : (N : Network)
    → (tallied (settled N) (tied (settled N)) (settled N).n 0 (settled N).domain).count * product (settled N).n (besides (settled N) (tied (settled N)))
    ≡ choice_count (settled N)
    → (tallied (settled N) (tied (settled N)) N.n 0 (settled_domain N)).count * product N.n (besides (settled N) (tied (settled N)))
    ≡ choice_count (settled N)
unfolding settled
settled-own N h = h

-- ---- variables of one value come first

module _ (N : Network) (S : Sound N) where
  single-tied : (i : ℕ) → single N i ≡ true → tied N i ≡ true
  unfolding single
  single-tied i t = and_l _ _ t

  -- It has its lowest value, and no other.
  single-value : (i v : ℕ) → single N i ≡ true → N.domain i v ≡ true → v ≡ lowest N i
  unfolding single lowest
  single-value i v t d =
      let one : count (N.size i) (N.domain i) ≡ 1 = eqb-true _ _ (and_r _ _ t) in
      let l = S.domain_in i v d in
      let m = first_some (N.size i) (N.domain i) (some-i (N.size i) (N.domain i) v l d) in
      count-two (N.size i) (N.domain i) (omega arith) v (first (N.size i) (N.domain i)) l m d (first_passes (N.size i) (N.domain i) m)

  settled-domain-e : (j u : ℕ) → settled_domain N j u ≡ true
      → (N.domain j u ≡ true) × ((i : ℕ) → i < N.n → single N i ≡ true → N.stated i j ≡ true → N.allows i j (lowest N i) u ≡ true)
  unfolding settled_domain
  settled-domain-e j u h = (and_l _ _ h, λ i l t s. implies-e _ _ (every-e N.n _ (and_r _ _ h) i l) (and_i _ _ t s))

  settled-domain-i : (j u : ℕ) → N.domain j u ≡ true
      → ((i : ℕ) → i < N.n → single N i ≡ true → N.stated i j ≡ true → N.allows i j (lowest N i) u ≡ true)
      → settled_domain N j u ≡ true
  unfolding settled_domain
  settled-domain-i j u d h = and_i _ _ d (every-i N.n _ (λ i l. implies-i _ _ (λ t. h i l (and_l _ _ t) (and_r _ _ t))))

  -- No choice is lost or gained,
  pub settled-allowed : (f : ℕ → ℕ) → allowed_choice (settled N) f ≡ allowed_choice N f
  unfolding settled free
  settled-allowed f =
      bool-ext _ _
      (λ h. allowed-i N f
      (λ i l t. (settled-domain-e i (f i) (allowed-domain (settled N) f h i l t)).0)
      (λ i j l m t u s. by_cases (single N i)
      (λ q. from-single h i j l m t u s q)
      (λ q. by_cases (single N j)
      (λ r. S.allows_sym i j (f i) (f j) ∙ from-single h j i m l u t (S.stated_sym j i ∙ s) r)
      (λ r. allowed-pair (settled N) f h i j l m t u (and_i _ _ s (and_i _ _ (not-i _ q) (not-i _ r)))))))
      (λ h. allowed-i (settled N) f
      (λ j m u. settled-domain-i j (f j) (allowed-domain N f h j m u) (λ i l q s.
      let t = tied-free N i (single-tied i q) in
      let e = single-value i (f i) q (allowed-domain N f h i l t) in
      rw e at (allowed-pair N f h i j l m t u s)))
      (λ i j l m t u s. allowed-pair N f h i j l m t u (and_l _ _ s)))
    where
      from-single : allowed_choice (settled N) f ≡ true → (i j : ℕ) → i < N.n → j < N.n → free N i ≡ true → free N j ≡ true
          → N.stated i j ≡ true → single N i ≡ true → N.allows i j (f i) (f j) ≡ true
      from-single h i j l m t u s q =
          let e = single-value i (f i) q (settled-domain-e i (f i) (allowed-domain (settled N) f h i l t)).0 in
          rw e ((settled-domain-e j (f j) (allowed-domain (settled N) f h j m u)).1 i l q s)

  settled-even : Even (settled N)
  unfolding settled
  settled-even =
      record {
        stated_sym = λ i j. rw (S.stated_sym i j) (ap (and (N.stated j i)) (and_comm (not (single N i)) (not (single N j))));
        no_self = λ i. and-fails _ _ (S.no_self i);
        allows_sym = S.allows_sym;
      }

  same_count : choice_count (settled N) ≡ choice_count N
  unfolding choice_count count_tuples settled
  same_count =
      sum_tuples-sizes N.n (choice_size (settled N)) (choice_size N) _ _ (λ i l. sizes i)
      ∙ sum_tuples-cong N.n (choice_size N) _ _ _ (λ f t. ap bit (settled-allowed f))
    where
      sizes : (i : ℕ) → choice_size (settled N) i ≡ choice_size N i
      sizes i = settled-size N i

  -- and so the tally of what is still tied, times the domains besides, is the number of choices.
  pub settled-counts : (tallied (settled N) (tied (settled N)) N.n 0 (settled_domain N)).count * product N.n (besides (settled N) (tied (settled N)))
      ≡ choice_count N
  settled-counts = settled-own N (tally-counts (settled N) settled-even (tied (settled N)) (tied-covers (settled N))) ∙ same_count

-- ---- the survey

module _ (N : Network) where
  pub survey-exhausted : tied_product N ≡ 0 → surveyed N ≡ nothing
  unfolding surveyed
  survey-exhausted e = if-true _ _ _ (eq-eqb _ _ e)

  -- The choices of the tied variables.
  abbrev pub tied_tally : Tally
  tied_tally = tallied (settled N) (tied (settled N)) N.n 0 (settled_domain N)

  pub survey-spread : (tied_product N ≡ 0 → ⊥) → surveyed N ≡ spread N tied_tally
  unfolding surveyed
  survey-spread d = if-false _ _ _ (ne_eqb _ _ d)

  pub spread-nothing : (t : Tally) → all_count N t ≡ 0 → spread N t ≡ nothing
  unfolding spread
  spread-nothing t e = if-true _ _ _ (eq-eqb _ _ e)

  pub spread-some : (t : Tally) → 1 ≤ all_count N t → spread N t ≡ record { count = all_count N t; used = any_used N t }
  unfolding spread
  spread-some t l = if-false _ _ _ (ne_eqb (all_count N t) 0 (λ e. let x : ⊥ = omega arith in x))

  pub used-tied : (t : Tally) (i v : ℕ) → tied N i ≡ true → free_used N t i v ≡ t.used i v
  unfolding free_used
  used-tied t i v h = if-true _ _ _ h

  pub used-apart : (t : Tally) (i v : ℕ) → tied N i ≡ false → free_used N t i v ≡ N.domain i v
  unfolding free_used
  used-apart t i v h = if-false _ _ _ h

  pub used-free : (t : Tally) (i v : ℕ) → free N i ≡ true → any_used N t i v ≡ free_used (settled N) t i v
  unfolding any_used
  used-free t i v h = if-true _ _ _ h

  pub used-led : (t : Tally) (i l v : ℕ) → N.leader i ≡ suc l
      → any_used N t i v ≡ some (N.size l) (λ (a : ℕ). and (free_used (settled N) t l a) (partner N l i a v))
  unfolding any_used
  used-led t i l v e = if-false _ _ _ (led-not-free N i l e) ∙ rw (led-pred N i l e)

-- The choices of a network, by the tally of its tied variables.
module _ (M : Network) (S : Even M) (B : (i v : ℕ) → M.domain i v ≡ true → v < M.size i) where
  abbrev own_tally : Tally
  own_tally = tallied M (tied M) M.n 0 M.domain

  -- An allowed choice chooses the tied variables.
  choice-picks : (f : ℕ → ℕ) → allowed_choice M f ≡ true → Picks M (tied M) M.domain 0 f
  choice-picks f h =
      record {
        listed = λ i _ l t. allowed-domain M f h i l (tied-free M i t);
        allowed = λ i j _ l m t u s. allowed-pair M f h i j (omega arith) m (tied-free M i t) (tied-free M j u) s;
      }

  tied-tallies : Tallies M (tied M) M.domain 0 own_tally
  tied-tallies = tallies M (tied M) M.n 0 M.domain (omega arith) (λ i v _ _ _ d. B i v d)

  -- A choice of the tied variables, with any values of their domains at the other free ones, is an allowed choice.
  merged : (f g : ℕ → ℕ) → ℕ → ℕ
  merged f g i = if (tied M i) (f i) (g i)

  merged-tied : (f g : ℕ → ℕ) (i : ℕ) → tied M i ≡ true → merged f g i ≡ f i
  unfolding merged
  merged-tied f g i t = if-true _ _ _ t

  merged-apart : (f g : ℕ → ℕ) (i : ℕ) → tied M i ≡ false → merged f g i ≡ g i
  unfolding merged
  merged-apart f g i t = if-false _ _ _ t

  merged-allowed : (f g : ℕ → ℕ) → Picks M (tied M) M.domain 0 f
      → ((i : ℕ) → i < M.n → free M i ≡ true → tied M i ≡ false → M.domain i (g i) ≡ true)
      → allowed_choice M (merged f g) ≡ true
  merged-allowed f g c h =
      allowed-i M (merged f g)
      (λ i l t. by_cases (tied M i)
      (λ u. rw (merged-tied f g i u) (c.listed i (omega arith) l u))
      (λ u. rw (merged-apart f g i u) (h i l t u)))
      (λ i j l m t u s.
      let a = tied-i M i j l m t u s in
      let b = tied-i M j i m l u t (S.stated_sym j i ∙ s) in
      rw (merged-tied f g i a, merged-tied f g j b) (pair i j l m a b s))
    where
      pair : (i j : ℕ) → i < M.n → j < M.n → tied M i ≡ true → tied M j ≡ true → M.stated i j ≡ true → M.allows i j (f i) (f j) ≡ true
      pair i j l m a b s =
          by_cases (ltb i j)
          (λ t. c.allowed i j (omega arith) (ltb-true i j t) m a b s)
          (λ t. by_cases (ltb j i)
          (λ r. S.allows_sym i j (f i) (f j) ∙ c.allowed j i (omega arith) (ltb-true j i r) l b a (S.stated_sym j i ∙ s))
          (λ r. let e : i ≡ j = omega (arith, ltb-false i j t, ltb-false j i r) in clash s (rw e (S.no_self j))))

  -- Some allowed choice has v at i.
  abbrev pub Chooses : ℕ → ℕ → Type 0
  Chooses i v = (f : ℕ → ℕ) × (allowed_choice M f ≡ true) × (f i ≡ v)

  -- Where there is a choice, no domain besides is empty,
  filled : 1 ≤ own_tally.count * product M.n (besides M (tied M)) → (i : ℕ) → i < M.n → free M i ≡ true → tied M i ≡ false
      → M.domain i (lowest M i) ≡ true
  unfolding lowest
  filled c i l t u =
      by_cases (some (M.size i) (M.domain i))
      (λ s. first_passes (M.size i) (M.domain i) (first_some (M.size i) (M.domain i) s))
      (λ s. absurd (let z : product M.n (besides M (tied M)) ≡ 0 =
      product-zero M.n (besides M (tied M)) i l (besides-count M S (tied M) (tied-covers M) i t u ∙ count_none (M.size i) (M.domain i) s) in
      let q : own_tally.count * product M.n (besides M (tied M)) ≡ 0 = rw z (mul-zero own_tally.count) in
      let x : ⊥ = omega arith in x))

  -- and the tied variables have one.
  chosen-some : 1 ≤ own_tally.count * product M.n (besides M (tied M)) → 1 ≤ own_tally.count
  chosen-some c =
      by_cases (eqb own_tally.count 0)
      (λ t. absurd (let q : own_tally.count * product M.n (besides M (tied M)) ≡ 0 = rw (eqb-true own_tally.count 0 t) (zero-mul _) in
      let x : ⊥ = omega arith in x))
      (λ t. let d : own_tally.count ≡ 0 → ⊥ = eqb-false _ _ t in omega arith)

  -- The values of a free variable are exactly those that allowed choices have.
  pub free-chooses : 1 ≤ own_tally.count * product M.n (besides M (tied M)) → (i v : ℕ) → i < M.n → free M i ≡ true
      → (free_used M own_tally i v ≡ true) ↔ Chooses i v
  free-chooses c i v l t =
      by_cases (tied M i)
      (λ u. (
        λ q. let p = (tied-tallies.used_exactly i v).0 (sym (used-tied M _ i v u) ∙ q) in
            (merged p.0 (lowest M), merged-allowed p.0 (lowest M) p.5 (filled c), merged-tied p.0 (lowest M) i u ∙ p.4),
        λ q. used-tied M _ i v u ∙ (tied-tallies.used_exactly i v).1 (q.0, omega arith, l, u, q.2, choice-picks q.0 q.1),
      ))
      (λ u. (
        λ q. let d = sym (used-apart M _ i v u) ∙ q in
            let p = tied-tallies.some_exactly.0 (chosen-some c) in
            let g = put (lowest M) i v in (
              merged p.0 g,
              merged-allowed p.0 g p.1 (λ x m r w. by_cases (eqb x i)
                  (λ z. let e = eqb-true x i z in rw (put_is (lowest M) i v x e, e) d)
                  (λ z. rw (put_other (lowest M) i v x (eqb-false x i z)) (filled c x m r w))),
              merged-apart p.0 g i u ∙ put-at (lowest M) i v,
            ),
        λ q. used-apart M _ i v u ∙ (rw q.2 at (allowed-domain M q.0 q.1 i l t)),
      ))

module _ (N : Network) (S : Sound N) where
  -- Where there is no solution, the count is 0 and nothing is used.
  pub nothing-surveys : ((f : ℕ → ℕ) → solves N f ≡ false) → Surveys N nothing
  unfolding nothing choice_count count_tuples
  nothing-surveys h =
      record {
        count_is = sym (sum_tuples-zero N.n (choice_size N) _ _ (λ g t. bit-false _ ((no-choice-no-solution N S).1 h g)));
        used_is = λ i v. sym (not-true→false _ (λ t. clash ((value_exactly N S i v).0 t).2 (h _)));
        used_exactly = λ i v. (λ t. absurd (false≢true t), λ t. clash t.2 (h t.0));
      }

  all-counts : all_count N (tied_tally N) ≡ choice_count N
  unfolding all_count
  all-counts = settled-counts N S

  settled-sizes : (i v : ℕ) → (settled N).domain i v ≡ true → v < N.size i
  unfolding settled
  settled-sizes i v d = S.domain_in i v (settled-domain-e N S i v d).0

  abbrev Shows : ℕ → ℕ → Type 0
  Shows i v = (f : ℕ → ℕ) × (i < N.n) × (solves N f ≡ true) × (f i ≡ v)

  module _ (c : 1 ≤ all_count N (tied_tally N)) where
    free-settled : (i v : ℕ) → i < N.n → free N i ≡ true
        → (free_used (settled N) (tied_tally N) i v ≡ true) ↔ ((f : ℕ → ℕ) × (allowed_choice (settled N) f ≡ true) × (f i ≡ v))
    unfolding settled free all_count
    free-settled i v l t = free-chooses (settled N) (settled-even N S) settled-sizes c i v l t

    free-shows : (i v : ℕ) → i < N.n → free N i ≡ true → (free_used (settled N) (tied_tally N) i v ≡ true) ↔ Shows i v
    free-shows i v l t = (
      λ q. let p = (free-settled i v l t).0 q in
          (completed N p.0, l, completed-solves N S p.0 (sym (settled-allowed N S p.0) ∙ p.1), completed-keeps N p.0 i t ∙ p.2),
      λ q. (free-settled i v l t).1 (q.0, settled-allowed N S q.0 ∙ solves-allowed N q.0 q.2, q.3),
    )

    -- A follower has the partners of its leader's values.
    led-shows : (i l v : ℕ) → N.leader i ≡ suc l → (any_used N (tied_tally N) i v ≡ true) ↔ Shows i v
    unfolding partner
    led-shows i l v e =
        let lf = leader-is-free N S i l e in
        let ln = leader-n N S i l e in
        let in_n = follower-n N S i l e in
        let st = leader-stated N S i l e in (
          λ q. some-e (N.size l) _ (sym (used-led N _ i l v e) ∙ q) (λ a m r.
              let p = (free-shows l a ln lf).0 (and_l _ _ r) in
              let s = p.2 in
              let d : N.domain l a ≡ true = rw p.3 at (solves-domain N p.0 s l ln) in
              let own : partner N l i a (p.0 i) ≡ true = and_i _ _ (solves-domain N p.0 s i in_n) (rw p.3 at (solves-pair N p.0 s l i ln in_n st)) in
              (p.0, in_n, s, partner-only N S i l a (p.0 i) v e d own (and_r _ _ r))),
          λ q. let f = q.0 in
              let s = q.2 in
              used-led N _ i l v e
              ∙ some-i (N.size l) _ (f l) (S.domain_in l (f l) (solves-domain N f s l ln))
              (and_i _ _ ((free-shows l (f l) ln lf).1 (f, ln, s, refl))
              (rw q.3 at (and_i _ _ (solves-domain N f s i in_n) (solves-pair N f s l i ln in_n st)))),
        )

    -- Past n nothing is used.
    past-unused : (i v : ℕ) → N.n ≤ i → any_used N (tied_tally N) i v ≡ true → ⊥
    unfolding settled
    past-unused i v a q =
        let t = free-i N i (S.leader_past i a) in
        let r = sym (used-free N (tied_tally N) i v t) ∙ q in
        by_cases (tied (settled N) i)
        (λ u. let p = ((tied-tallies (settled N) (settled-even N S) settled-sizes).used_exactly i v).0 (sym (used-tied (settled N) (tied_tally N) i v u) ∙ r) in
        let b = p.2 in
        let x : ⊥ = omega arith in x)
        (λ u. let d = (settled-domain-e N S i v (sym (used-apart (settled N) (tied_tally N) i v u) ∙ r)).0 in
        let x : ⊥ = omega (arith, domain-n N S i v d) in x)

    any-shows : (i v : ℕ) → (any_used N (tied_tally N) i v ≡ true) ↔ Shows i v
    any-shows i v =
        by_cases (ltb i N.n)
        (λ b. let l = ltb-true i N.n b in
        free-or-led N i (λ t. rw (used-free N (tied_tally N) i v t) (free-shows i v l t)) (λ m e. led-shows i m v e))
        (λ b. let a = ltb-false i N.n b in
        (λ q. absurd (past-unused i v a q), λ q. absurd (let m = q.1 in let x : ⊥ = omega arith in x)))

    spread-surveys : Surveys N (spread N (tied_tally N))
    spread-surveys =
        rw (spread-some N (tied_tally N) c)
        (record {
          count_is = all-counts;
          used_is = λ i v. bool-ext _ _
              (λ t. (value_exactly N S i v).1 ((any-shows i v).0 t))
              (λ t. (any-shows i v).1 ((value_exactly N S i v).0 t));
          used_exactly = any-shows;
        })

  -- What is surveyed is right.
  pub surveyed-surveys : Surveys N (surveyed N)
  surveyed-surveys =
      by_cases (exhausted N)
      (λ h. rw (survey-exhausted N ((exhausted-tied N).0 h)) (nothing-surveys (exhausted-none N S h)))
      (λ h. rw (survey-spread N (λ e. clash ((exhausted-tied N).1 e) h))
      (by_cases (eqb (all_count N (tied_tally N)) 0)
      (λ t. let e = eqb-true _ _ t in
      rw (spread-nothing N (tied_tally N) e)
      (nothing-surveys (λ f. not-true→false _ (λ s. let x : ⊥ = omega (arith, all-counts, choices-pos N S f s) in x))))
      (λ t. let d : all_count N (tied_tally N) ≡ 0 → ⊥ = eqb-false _ _ t in spread-surveys (omega arith))))

-- ---- the survey and the verdict

module _ (N : Network) (S : Sound N) where
  -- Where no two free variables are stated together a choice is allowed by its domains alone,
  decided-allowed : decided N ≡ true → (f : ℕ → ℕ) → allowed_choice N f ≡ choice_in_domains N f
  unfolding allowed_choice
  decided-allowed k f =
      bool-ext _ _
      (λ h. and_l _ _ h)
      (λ h. and_i _ _ h (pairs f))
    where
      pairs : (f : ℕ → ℕ) → choice_pairs_allow N f ≡ true
      pairs f = pairs-apart N f ((decided-apart N).0 k)

  -- so there are as many as "the product of the live list sizes".
  pub decided-count : decided N ≡ true → choice_count N ≡ choice_product N
  unfolding choice_count count_tuples
  decided-count k =
      sum_tuples-cong N.n (choice_size N) _ _ _ (λ g t. ap bit (decided-allowed k g))
      ∙ product-choices N

  -- Each value of a domain is then in a solution: of a free variable,
  decided-free : exhausted N ≡ false → decided N ≡ true → (i v : ℕ) → free N i ≡ true → N.domain i v ≡ true
      → solves N (completed N (put (lowest N) i v)) ≡ true
  decided-free h k i v t d =
      completed-solves N S (put (lowest N) i v)
      (allowed-i N (put (lowest N) i v)
      (λ x l u. by_cases (eqb x i)
      (λ z. let e = eqb-true x i z in rw (put_is (lowest N) i v x e, e) d)
      (λ z. rw (put_other (lowest N) i v x (eqb-false x i z)) (lowest-domain N h x l u)))
      (λ x y l m u w s. clash s ((decided-apart N).0 k x y l m u w)))

  -- and of a follower, for it "is the partner of a value in the leader's list".
  decided-shows : exhausted N ≡ false → decided N ≡ true → (i v : ℕ) → N.domain i v ≡ true
      → (f : ℕ → ℕ) × (i < N.n) × (solves N f ≡ true) × (f i ≡ v)
  decided-shows h k i v d =
      free-or-led N i
      (λ t. let g = put (lowest N) i v in
      (completed N g, domain-n N S i v d, decided-free h k i v t d, completed-keeps N g i t ∙ put-at (lowest N) i v))
      (λ l e. let p = (follower-exactly N S i l v e).0 d in
      let a = p.0 in
      let g = put (lowest N) l a in
      let t = leader-is-free N S i l e in
      let q = (completed-partner N S g i l e (rw (put-at (lowest N) l a) p.1)).0 in (
        completed N g,
        follower-n N S i l e,
        decided-free h k l a t p.1,
        partner-only N S i l a (completed N g i) v e p.1 (rw (put-at (lowest N) l a) at q) p.2,
      ))

  -- "the words are the live lists and .. the followers' lists"
  pub decided-used : exhausted N ≡ false → decided N ≡ true → (i v : ℕ) → (surveyed N).used i v ≡ N.domain i v
  decided-used h k i v =
      let U = (surveyed-surveys N S).used_exactly i v in
      bool-ext _ _
      (λ t. let p = U.0 t in rw p.3 at (solves-domain N p.0 p.2 i p.1))
      (λ d. U.1 (decided-shows h k i v d))

  -- "NONE, or no build: 0 and empty words."
  pub survey-none : ((f : ℕ → ℕ) → solves N f ≡ false) → ((surveyed N).count ≡ 0) × ((i v : ℕ) → (surveyed N).used i v ≡ false)
  unfolding nothing
  survey-none h =
      let R = surveyed-surveys N S in
      let Z = nothing-surveys N S h in
      (R.count_is ∙ sym Z.count_is, λ i v. R.used_is i v ∙ sym (Z.used_is i v))

  -- and only then is it 0.
  pub survey-some : (surveyed N).count ≡ 0 → (f : ℕ → ℕ) → solves N f ≡ false
  survey-some e f =
      not-true→false _ (λ s. let x : ⊥ =
      omega (arith, (surveyed-surveys N S).count_is, choices-pos N S f s) in x)

  pub survey-verdict : SurveyVerdict N
  survey-verdict =
      record {
        built_count = λ v. (surveyed-surveys N S).count_is ∙ decided-count (verdict-built N v).1;
        built_used = λ v i u. decided-used (verdict-built N v).0 (verdict-built N v).1 i u;
        none_count = λ v. (survey-none (exhausted-none N S (verdict-none N v))).0;
        none_used = λ v. (survey-none (exhausted-none N S (verdict-none N v))).1;
        settled_accepted = (
          λ v. survey-accepted N (omega (arith, decided-product N (verdict-built N v).1)),
          λ v. survey-accepted N (omega (arith, (exhausted-tied N).0 (verdict-none N v))),
        );
      }

-- ---- of the network that a list of calls hands back

pub keeps-surveyed : (N M : Network) (p : (ℕ → ℕ) → Bool) → Keeps N M p → Surveyed N M p
keeps-surveyed N M p K =
    let R = surveyed-surveys M K.still_sound in
    record {
      count_is = R.count_is ∙ keeps-count N M p K;
      used_is = λ i v. R.used_is i v ∙ value_keeps N M p K i v;
      outside_in_none = λ i v t f l s e.
          clash ((R.used_exactly i v).1 (f, subst (λ (n : ℕ). i < n) (sym K.same_n) l, K.same_solutions f ∙ s, e)) t;
      inside_in_one = λ i v t.
          let q = (R.used_exactly i v).0 t in
          (q.0, subst (λ (n : ℕ). i < n) K.same_n q.1, sym (K.same_solutions q.0) ∙ q.2, q.3);
    }

-- For every sound network and every list of calls, with the tables that they added.
pub after-surveyed : (N : Network) → Sound N → (cs : List Call) → Surveyed N (after N cs) (keeps_to (added_by N cs))
after-surveyed N S cs = keeps-surveyed N (after N cs) _ (after-keeps N S cs)
