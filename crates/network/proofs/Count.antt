-- Sums over tuples, and the two counts of demand 3: there are as many allowed choices as solutions.
use mathlib.Core.Bool.{Bool, true, false}
use mathlib.Core.Path.{◌≡◌, refl, sym, ◌∙◌, ap}
use Prim.Native.Nat.{ℕ, zero, suc, ◌*◌, ◌≤◌, ◌<◌}
use native.Mathlib.Nat.{mul-one, zero-mul}
use native.Mathlib.Omega.{arith}
use lib.Dec.{eqb}
use borrow.Author.Tests.{eq-eqb, ne_eqb, eqb-true}
use Rattle.bounded.specs.Bool.{and, bit, if}
use Rattle.bounded.specs.Fold.{every, sum}
use Rattle.bounded.proofs.Bool.{by_cases, clash, bool-ext, not-true→false, and_i, and_l, and_r, and-true, if-true, if-false, bit-true, bit-false, bit_and}
use Rattle.bounded.proofs.Fold.{below_suc, every-i, every-e, sum-cong, sum-mul, sum-swap, sum_one}
use Rattle.network.specs.Network.{Network, free, in_domains, solves}
use Rattle.network.specs.Sound.{Sound}
use Rattle.network.specs.Completion.{completed, allowed_choice}
use Rattle.network.specs.Count.{put, sum_tuples, count_tuples, solution_count, choice_size, choice_count}
use Rattle.network.specs.Promise.{Keeps}
use Rattle.network.proofs.Completion.{completed-keeps, completed-solves, completed-only, solves-allowed, solves-cong, allowed_choice-cong}

pub put-at : (f : ℕ → ℕ) (i v : ℕ) → put f i v i ≡ v
unfolding put
put-at f i v = if-true _ _ _ (eq-eqb i i refl)

pub put_other : (f : ℕ → ℕ) (i v k : ℕ) → (k ≡ i → ⊥) → put f i v k ≡ f k
unfolding put
put_other f i v k d = if-false _ _ _ (ne_eqb k i d)

-- g is one of the tuples that are summed over: below the sizes s at 0 to n - 1, and as f past them.
pub record Tuple (n : ℕ) (s f g : ℕ → ℕ) : Type 0 where
  pub below : (i : ℕ) → i < n → g i < s i
  pub past : (i : ℕ) → n ≤ i → g i ≡ f i

-- A tuple of n numbers with v after them is one of n + 1 numbers.
pub tuple-suc : (n : ℕ) (s f g : ℕ → ℕ) (v : ℕ) → v < s n → Tuple n s (put f n v) g → Tuple (suc n) s f g
tuple-suc n s f g v l t =
    record {
      below = λ i b. below_suc n i b
          (λ e. rw e (rw (t.past n (omega arith), put-at f n v) l))
          (λ b. t.below i b);
      past = λ i b. t.past i (omega arith) ∙ put_other f n v i (λ e. let x : ⊥ = omega arith in x);
    }

-- Sums of functions that agree on every tuple are equal.
pub sum_tuples-cong : (n : ℕ) (s : ℕ → ℕ) (w u : (ℕ → ℕ) → ℕ) (f : ℕ → ℕ)
    → ((g : ℕ → ℕ) → Tuple n s f g → w g ≡ u g)
    → sum_tuples n s w f ≡ sum_tuples n s u f
unfolding sum_tuples
sum_tuples-cong zero s w u f h = h f (record { below = λ i l. absurd (let x : ⊥ = omega arith in x); past = λ i l. refl })
sum_tuples-cong (suc n) s w u f h =
    sum-cong (s n) _ _ (λ v l. sum_tuples-cong n s w u (put f n v) (λ g t. h g (tuple-suc n s f g v l t)))

-- Sizes that agree below n give the same sum.
pub sum_tuples-sizes : (n : ℕ) (s t : ℕ → ℕ) (w : (ℕ → ℕ) → ℕ) (f : ℕ → ℕ)
    → ((i : ℕ) → i < n → s i ≡ t i)
    → sum_tuples n s w f ≡ sum_tuples n t w f
unfolding sum_tuples
sum_tuples-sizes zero s t w f h = refl
sum_tuples-sizes (suc n) s t w f h =
    rw (h n (omega arith)) (sum-cong (t n) _ _ (λ v l. sum_tuples-sizes n s t w (put f n v) (λ i b. h i (omega arith))))

pub sum_tuples-mul : (n : ℕ) (s : ℕ → ℕ) (c : ℕ) (w : (ℕ → ℕ) → ℕ) (f : ℕ → ℕ)
    → sum_tuples n s (λ (g : ℕ → ℕ). c * w g) f ≡ c * sum_tuples n s w f
unfolding sum_tuples
sum_tuples-mul zero s c w f = refl
sum_tuples-mul (suc n) s c w f =
    sum-cong (s n) _ _ (λ v l. sum_tuples-mul n s c w (put f n v)) ∙ sum-mul (s n) c _

pub sum_tuples-zero : (n : ℕ) (s : ℕ → ℕ) (w : (ℕ → ℕ) → ℕ) (f : ℕ → ℕ)
    → ((g : ℕ → ℕ) → Tuple n s f g → w g ≡ 0)
    → sum_tuples n s w f ≡ 0
sum_tuples-zero n s w f h =
    sum_tuples-cong n s w (λ (g : ℕ → ℕ). 0 * w g) f (λ g t. h g t ∙ sym (zero-mul (w g))) ∙ sum_tuples-mul n s 0 w f ∙ zero-mul _

-- A sum over tuples and a sum change places,
pub sum_tuples-sum : (n : ℕ) (s : ℕ → ℕ) (m : ℕ) (w : ℕ → (ℕ → ℕ) → ℕ) (f : ℕ → ℕ)
    → sum_tuples n s (λ (g : ℕ → ℕ). sum m (λ (k : ℕ). w k g)) f ≡ sum m (λ (k : ℕ). sum_tuples n s (w k) f)
unfolding sum_tuples
sum_tuples-sum zero s m w f = refl
sum_tuples-sum (suc n) s m w f =
    sum-cong (s n) _ _ (λ v l. sum_tuples-sum n s m w (put f n v)) ∙ sum-swap (s n) m _

-- and so do two sums over tuples.
pub sum_tuples-swap : (n m : ℕ) (s t : ℕ → ℕ) (w : (ℕ → ℕ) → (ℕ → ℕ) → ℕ) (f g : ℕ → ℕ)
    → sum_tuples n s (λ (a : ℕ → ℕ). sum_tuples m t (w a) g) f ≡ sum_tuples m t (λ (b : ℕ → ℕ). sum_tuples n s (λ (a : ℕ → ℕ). w a b) f) g
unfolding sum_tuples
sum_tuples-swap n zero s t w f g = refl
sum_tuples-swap n (suc m) s t w f g =
    sum_tuples-sum n s (t m) (λ (v : ℕ) (a : ℕ → ℕ). sum_tuples m t (w a) (put g m v)) f
    ∙ sum-cong (t m) _ _ (λ v l. sum_tuples-swap n m s t w f (put g m v))

-- f and g are the same below n.
pub agrees : ℕ → (ℕ → ℕ) → (ℕ → ℕ) → Bool
agrees n f g = every n (λ (i : ℕ). eqb (f i) (g i))

pub agrees-i : (n : ℕ) (f g : ℕ → ℕ) → ((i : ℕ) → i < n → f i ≡ g i) → agrees n f g ≡ true
unfolding agrees
agrees-i n f g h = every-i n _ (λ i l. eq-eqb (f i) (g i) (h i l))

pub agrees-e : (n : ℕ) (f g : ℕ → ℕ) → agrees n f g ≡ true → (i : ℕ) → i < n → f i ≡ g i
unfolding agrees
agrees-e n f g h i l = eqb-true (f i) (g i) (every-e n _ h i l)

-- Of the tuples with v at n, one agrees with h up to n if v is h n, and none else.
sum-agrees-at : (n : ℕ) (s h f : ℕ → ℕ) (v : ℕ)
    → sum_tuples n s (λ (g : ℕ → ℕ). bit (agrees n g h)) (put f n v) ≡ 1
    → sum_tuples n s (λ (g : ℕ → ℕ). bit (agrees (suc n) g h)) (put f n v) ≡ bit (eqb v (h n))
unfolding agrees every
sum-agrees-at n s h f v one =
    sum_tuples-cong n s _ (λ (g : ℕ → ℕ). bit (eqb v (h n)) * bit (agrees n g h)) (put f n v)
    (λ g t. rw (t.past n (omega arith), put-at f n v) (bit_and (eqb v (h n)) (agrees n g h)))
    ∙ sum_tuples-mul n s (bit (eqb v (h n))) _ (put f n v)
    ∙ rw one (mul-one (bit (eqb v (h n))))

-- Of the tuples just one agrees with h.
pub sum_agrees : (n : ℕ) (s h f : ℕ → ℕ) → ((i : ℕ) → i < n → h i < s i) → sum_tuples n s (λ (g : ℕ → ℕ). bit (agrees n g h)) f ≡ 1
unfolding sum_tuples
sum_agrees zero s h f b = bit-true _ (agrees-i zero f h (λ i l. absurd (let x : ⊥ = omega arith in x)))
sum_agrees (suc n) s h f b =
    sum-cong (s n) _ (λ (v : ℕ). bit (eqb v (h n)))
    (λ v l. sum-agrees-at n s h f v (sum_agrees n s h (put f n v) (λ i m. b i (omega arith))))
    ∙ sum_one (s n) (λ (v : ℕ). bit (eqb v (h n))) (h n) (b n (omega arith)) (λ v l d. bit-false _ (ne_eqb v (h n) d))
    ∙ bit-true _ (eq-eqb (h n) (h n) refl)

-- The choice that a solution makes: its values at free variables, and 0 elsewhere.
pub choice_of : Network → (ℕ → ℕ) → ℕ → ℕ
choice_of M g i = if (free M i) (g i) 0

-- The choice f is made by the solution g.
pub made_by : Network → (ℕ → ℕ) → (ℕ → ℕ) → Bool
made_by M f g = and (solves M g) (agrees M.n f (choice_of M g))

choice-free : (M : Network) (g : ℕ → ℕ) (i : ℕ) → free M i ≡ true → choice_of M g i ≡ g i
unfolding choice_of
choice-free M g i h = if-true _ _ _ h

choice-eliminated : (M : Network) (g : ℕ → ℕ) (i : ℕ) → free M i ≡ false → choice_of M g i ≡ 0
unfolding choice_of
choice-eliminated M g i h = if-false _ _ _ h

pub choice_size-free : (M : Network) (i : ℕ) → free M i ≡ true → choice_size M i ≡ M.size i
unfolding choice_size
choice_size-free M i h = if-true _ _ _ h

pub choice_size-eliminated : (M : Network) (i : ℕ) → free M i ≡ false → choice_size M i ≡ 1
unfolding choice_size
choice_size-eliminated M i h = if-false _ _ _ h

-- A tuple of values makes a tuple of choices.
choice-below : (M : Network) (g : ℕ → ℕ) (i : ℕ) → g i < M.size i → choice_of M g i < choice_size M i
choice-below M g i l =
    by_cases (free M i)
    (λ t. rw (choice-free M g i t, choice_size-free M i t) l)
    (λ t. rw (choice-eliminated M g i t, choice_size-eliminated M i t) (omega arith))

-- A solution lies within the sizes.
solution-below : (M : Network) → Sound M → (g : ℕ → ℕ) → solves M g ≡ true → (i : ℕ) → i < M.n → g i < M.size i
unfolding solves in_domains
solution-below M sound g h i l = sound.domain_in i (g i) (every-e M.n _ (and_l _ _ h) i l)

-- A choice has the free values of a solution that makes it,
made-free : (M : Network) (f g : ℕ → ℕ) → made_by M f g ≡ true → (i : ℕ) → i < M.n → free M i ≡ true → f i ≡ g i
unfolding made_by
made-free M f g h i l t = agrees-e M.n f (choice_of M g) (and_r _ _ h) i l ∙ choice-free M g i t

made-solves : (M : Network) (f g : ℕ → ℕ) → made_by M f g ≡ true → solves M g ≡ true
unfolding made_by
made-solves M f g h = and_l _ _ h

-- so it is allowed.
made-allowed : (M : Network) (f g : ℕ → ℕ) → made_by M f g ≡ true → allowed_choice M f ≡ true
made-allowed M f g h = allowed_choice-cong M f g (made-free M f g h) ∙ solves-allowed M g (made-solves M f g h)

-- A choice that agrees with g at free variables is what g makes, for there is only 0 elsewhere.
choice-is : (M : Network) (f g : ℕ → ℕ) → ((i : ℕ) → i < M.n → f i < choice_size M i)
    → ((i : ℕ) → i < M.n → free M i ≡ true → f i ≡ g i)
    → (i : ℕ) → i < M.n → f i ≡ choice_of M g i
choice-is M f g b h i l =
    by_cases (free M i)
    (λ t. h i l t ∙ sym (choice-free M g i t))
    (λ t. omega (arith, b i l, choice-eliminated M g i t, choice_size-eliminated M i t))

-- An allowed choice is made by the solution that completes it, and by no other.
made-by-completed : (M : Network) → Sound M → (f g : ℕ → ℕ) → allowed_choice M f ≡ true
    → ((i : ℕ) → i < M.n → f i < choice_size M i)
    → made_by M f g ≡ agrees M.n g (completed M f)
unfolding made_by
made-by-completed M sound f g a b =
    bool-ext _ _
    (λ m. agrees-i M.n g (completed M f) (completed-only M sound f g (and_l _ _ m) (λ i l t. sym (made-free M f g m i l t))))
    (λ h.
    let e : (i : ℕ) → i < M.n → g i ≡ completed M f i = agrees-e M.n g (completed M f) h in
    and_i _ _
    (solves-cong M g (completed M f) e ∙ completed-solves M sound f a)
    (agrees-i M.n f (choice_of M g) (choice-is M f g b (λ i l t. sym (e i l ∙ completed-keeps M f i t)))))

-- A solution makes one choice.
one-choice-made : (M : Network) (g base : ℕ → ℕ) → ((i : ℕ) → i < M.n → g i < M.size i)
    → sum_tuples M.n (choice_size M) (λ (f : ℕ → ℕ). bit (made_by M f g)) base ≡ bit (solves M g)
unfolding made_by
one-choice-made M g base t =
    sum_tuples-cong M.n (choice_size M) _ _ base (λ f u. bit_and (solves M g) (agrees M.n f (choice_of M g)))
    ∙ sum_tuples-mul M.n (choice_size M) (bit (solves M g)) _ base
    ∙ rw (sum_agrees M.n (choice_size M) (choice_of M g) base (λ i l. choice-below M g i (t i l))) (mul-one _)

-- An allowed choice is made by one solution, and another by none.
one-solution-makes : (M : Network) → Sound M → (f base : ℕ → ℕ) → ((i : ℕ) → i < M.n → f i < choice_size M i)
    → sum_tuples M.n M.size (λ (g : ℕ → ℕ). bit (made_by M f g)) base ≡ bit (allowed_choice M f)
one-solution-makes M sound f base t =
    by_cases (allowed_choice M f)
    (λ a. sum_tuples-cong M.n M.size _ _ base (λ g u. ap bit (made-by-completed M sound f g a t))
    ∙ sum_agrees M.n M.size (completed M f) base (solution-below M sound (completed M f) (completed-solves M sound f a))
    ∙ sym (bit-true _ a))
    (λ a. sum_tuples-zero M.n M.size _ base (λ g u. bit-false _ (not-true→false _ (λ m. clash (made-allowed M f g m) a)))
    ∙ sym (bit-false _ a))

-- Double counting: the pairs of a choice and the solution that makes it, choice by choice and solution by solution.
pub choices-are-solutions : (M : Network) → Sound M → choice_count M ≡ solution_count M (λ (f : ℕ → ℕ). true)
unfolding choice_count solution_count count_tuples
choices-are-solutions M sound =
    sum_tuples-cong M.n (choice_size M) _ _ _ (λ f t. sym (one-solution-makes M sound f (λ (i : ℕ). 0) t.below))
    ∙ sum_tuples-swap M.n M.n (choice_size M) M.size (λ (f g : ℕ → ℕ). bit (made_by M f g)) _ _
    ∙ sum_tuples-cong M.n M.size _ _ _ (λ g t. one-choice-made M g (λ (i : ℕ). 0) t.below ∙ ap bit (sym (and-true (solves M g))))

-- "the number of allowed choices equals the number of builds of the sheet"
pub keeps-count : (N M : Network) (p : (ℕ → ℕ) → Bool) → Keeps N M p → choice_count M ≡ solution_count N p
unfolding solution_count count_tuples
keeps-count N M p k =
    choices-are-solutions M k.still_sound
    ∙ sum_tuples-cong M.n M.size _ _ _ (λ f t. ap bit (and-true (solves M f) ∙ k.same_solutions f))
    ∙ sum_tuples-sizes M.n M.size N.size _ _ (λ i l. k.same_size i)
    ∙ ap (λ (m : ℕ). sum_tuples m N.size (λ (f : ℕ → ℕ). bit (and (solves N f) (p f))) (λ (i : ℕ). 0)) k.same_n
