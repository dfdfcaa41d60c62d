-- What remains when the free variables' lists are trimmed against each other is the largest choice of partnered lists, in whatever order values go; the
-- solutions stay; and trimming and reducing in turn comes to rest.
use mathlib.Core.Bool.{true, false}
use mathlib.Core.Logic.{◌↔◌}
use mathlib.Core.Path.{◌≡◌, refl, sym, ◌∙◌, ap, fun_ext}
use Prim.Native.Nat.{ℕ, zero, suc, ◌+◌, ◌≤◌, ◌<◌}
use native.Mathlib.Omega.{arith}
use lib.Dec.{eqb}
use borrow.Author.Tests.{eq-eqb, ne_eqb, eqb-true, eqb-false}
use Rattle.bounded.specs.Bool.{and, not, bit}
use Rattle.bounded.specs.Fold.{count}
use Rattle.bounded.proofs.Bool.{by_cases, clash, bool-ext, not-true→false, and_i, and_l, and_r, and-true, implies-i, implies-e, implies-false, bit-fewer, if-true, if-false}
use Rattle.bounded.proofs.Fold.{every-i, every-e, every-not, some-i, some-e, sum-le, sum_lt, count-le}
use Rattle.network.specs.Network.{Network, free, solves}
use Rattle.network.specs.Sound.{Sound}
use Rattle.network.specs.Step.{relisted, followers_trimmed}
use Rattle.network.specs.Reduction.{Reduced, free_count, reducible, one_more, reduce_within, reduce}
use Rattle.network.specs.Promise.{Keeps}
use Rattle.network.specs.Trimming.{Lists, Partnered, Within, Cut, Largest, Removes, supported, consistent, pass, passes_within, value_count, largest}
use Rattle.network.specs.Trimming.{live_trimmed, more_steps, alternate_within, alternate, Rounds, last, then, Rests}
use Rattle.network.proofs.Sound.{free-or-led, led-not-free}
use Rattle.network.proofs.Trim.{trim-fewer, trim_same, trim-solves, relisted-sound, relisted-free, relisted-trims}
use Rattle.network.proofs.Completion.{solves-domain, solves-pair, solves-i, some-free}
use Rattle.network.proofs.Reduction.{keeps-trans, taken, run-keeps, run-free, reduce-run, reduce-count, reduce-stops}
use Rattle.network.proofs.Reduction.{reduce_within-stop, reduce_within-step, reduce_within-zero}

-- ---- lists in any order of removal

module _ (N : Network) where
  -- The given lists are cut by nothing.
  pub cut-start : Cut N N.domain
  cut-start = record { within = λ i a t h. h; none_lost = λ E w p. w }

  -- A value that has no partner in some live neighbour may go: no partnered lists within the given ones have it.
  pub cut-more : (D E : Lists) → Cut N D → Removes N D E → Cut N E
  cut-more D E c r =
      record {
        within = λ i a t h. c.within i a t (r.fewer i a t h);
        none_lost = λ F w p i a t h.
            by_cases (E i a) (λ e. e)
            (λ e. let q = r.cause i a t (c.none_lost F w p i a t h) e in
            let m = p i q.0 a t q.1 q.2 h in
            clash m.2 (q.3 m.0 (c.none_lost F w p q.0 m.0 q.1 m.1)));
      }

  -- When none is left that has to go, the largest choice remains,
  pub cut-end : (D : Lists) → Cut N D → Partnered N D → Largest N D
  cut-end D c p = record { cut = c; partnered = p }

  -- and there is one alone.
  pub largest-only : (D E : Lists) → Largest N D → Largest N E → (i a : ℕ) → free N i ≡ true → D i a ≡ E i a
  largest-only D E d e i a t =
      bool-ext _ _
      (e.cut.none_lost D d.cut.within d.partnered i a t)
      (d.cut.none_lost E e.cut.within e.partnered i a t)

  -- The values of a solution are partnered lists, one value each: none of them goes.
  pub cut-solution : Sound N → (D : Lists) → Cut N D → (f : ℕ → ℕ) → solves N f ≡ true → (i : ℕ) → i < N.n → free N i ≡ true → D i (f i) ≡ true
  cut-solution S D c f h i l t =
      c.none_lost (λ (x a : ℕ). and (eqb a (f x)) (N.domain x a))
      (λ x a _ e. and_r _ _ e)
      (λ x y a tx ty s e. let b = S.stated_in x y s in (
        f y,
        and_i _ _ (eq-eqb (f y) (f y) refl) (solves-domain N f h y b.1),
        ap (λ (v : ℕ). N.allows x y v (f y)) (eqb-true a (f x) (and_l _ _ e)) ∙ solves-pair N f h x y b.0 b.1 s,
      ))
      i (f i) t (and_i _ _ (eq-eqb (f i) (f i) refl) (solves-domain N f h i l))

-- ---- how many values there are

-- Shorter lists have no more values, and fewer where one is lost.
module _ (N : Network) (D E : Lists) (fewer : (x a : ℕ) → E x a ≡ true → D x a ≡ true) where
  pub values-le : value_count N E ≤ value_count N D
  unfolding value_count count
  values-le = sum-le N.n _ _ (λ x. sum-le (N.size x) _ _ (λ a. bit-fewer _ _ (fewer x a)))

  pub values_lt : (x a : ℕ) → x < N.n → a < N.size x → D x a ≡ true → E x a ≡ false → value_count N E < value_count N D
  unfolding value_count count
  values_lt x a lx la d e =
      sum_lt N.n _ _ (λ y. sum-le (N.size y) _ _ (λ b. bit-fewer _ _ (fewer y b))) x lx
      (sum_lt (N.size x) _ _ (λ b. bit-fewer _ _ (fewer x b)) a la (rw (e, d) (unfold bit in omega arith)))

-- ---- passes

module _ (N : Network) (S : Sound N) where
  supported-e : (D : Lists) (i a : ℕ) → supported N D i a ≡ true → (j : ℕ) → free N j ≡ true → N.stated i j ≡ true
      → (b : ℕ) × (D j b ≡ true) × (N.allows i j a b ≡ true)
  unfolding supported
  supported-e D i a h j t s =
      some-e (N.size j) _ (implies-e _ _ (every-e N.n _ h j (S.stated_in i j s).1) (and_i _ _ t s))
      (λ b _ e. (b, and_l _ _ e, and_r _ _ e))

  supported-i : (D : Lists) (i a : ℕ)
      → ((j : ℕ) → free N j ≡ true → N.stated i j ≡ true → (b : ℕ) × (D j b ≡ true) × (N.allows i j a b ≡ true))
      → supported N D i a ≡ true
  unfolding supported
  supported-i D i a h =
      every-i N.n _ (λ j _. implies-i _ _ (λ t. let p = h j (and_l _ _ t) (and_r _ _ t) in
      some-i (N.size j) _ p.0 (S.allows_in i j a p.0 p.2).1 (and_i _ _ p.1 p.2)))

  -- Where a value is not supported, some live neighbour has no partner for it.
  not-supported : (D : Lists) (i a : ℕ) → supported N D i a ≡ false
      → (j : ℕ) × (free N j ≡ true) × (N.stated i j ≡ true) × ((b : ℕ) → D j b ≡ true → N.allows i j a b ≡ false)
  unfolding supported
  not-supported D i a h =
      every-not N.n _ h
      (λ j _ e.
      by_cases (and (free N j) (N.stated i j))
      (λ t. (
        j,
        and_l _ _ t,
        and_r _ _ t,
        λ b d. not-true→false _ (λ r.
            clash (implies-i _ _ (λ _. some-i (N.size j) _ b (S.allows_in i j a b r).1 (and_i _ _ d r))) e),
      ))
      (λ t. clash (implies-false _ _ t) e))

  -- The test and the sentence are the same, of lists within the given ones.
  pub consistent-e : (D : Lists) → Within N D N.domain → consistent N D ≡ true → Partnered N D
  unfolding consistent
  consistent-e D w h i j a ti tj s d =
      supported-e D i a
      (implies-e _ _ (every-e _ _ (every-e N.n _ h i (S.stated_in i j s).0) a (S.domain_in i a (w i a ti d))) (and_i _ _ ti d)) j tj s

  pub consistent-i : (D : Lists) → Partnered N D → consistent N D ≡ true
  unfolding consistent
  consistent-i D p =
      every-i N.n _ (λ i _. every-i (N.size i) _ (λ a _. implies-i _ _ (λ t.
      supported-i D i a (λ j tj s. p i j a (and_l _ _ t) tj s (and_r _ _ t)))))

  -- A pass removes only what has to go.
  pub pass-removes : (D : Lists) → Removes N D (pass N D)
  unfolding pass
  pass-removes D =
      record {
        fewer = λ i a t h. and_l _ _ h;
        cause = λ i a t d e. not-supported D i a (not-true→false _ (λ h. clash (and_i _ _ d (implies-i _ _ (λ _. h))) e));
      }

  -- and if a value has to go it removes one.
  pass-falls : (D : Lists) → consistent N D ≡ false → value_count N (pass N D) < value_count N D
  unfolding consistent pass
  pass-falls D h =
      every-not N.n _ h (λ i li e.
      every-not (N.size i) _ e (λ a la u.
      by_cases (and (free N i) (D i a))
      (λ t. values_lt N D _ (λ x b. and_l _ _) i a li la (and_r _ _ t)
      (not-true→false _ (λ k. clash (implies-i _ _ (λ _. implies-e _ _ (and_r _ _ k) (and_l _ _ t))) u)))
      (λ t. clash (implies-false _ _ t) u)))

  passes-stop : (most : ℕ) (D : Lists) → consistent N D ≡ true → passes_within N most D ≡ D
  unfolding passes_within
  passes-stop zero D h = refl
  passes-stop (suc most) D h = if-true _ _ _ h

  passes_go : (most : ℕ) (D : Lists) → consistent N D ≡ false → passes_within N (suc most) D ≡ passes_within N most (pass N D)
  unfolding passes_within
  passes_go most D h = if-false _ _ _ h

  -- What holds of the given lists and stays with each pass holds of what remains.
  passes-keep : (P : Lists → Type 0) → ((D : Lists) → P D → P (pass N D)) → (most : ℕ) (D : Lists) → P D → P (passes_within N most D)
  passes-keep P step zero D h = unfold passes_within in h
  passes-keep P step (suc most) D h =
      by_cases (consistent N D)
      (λ t. rw (passes-stop (suc most) D t) h)
      (λ t. rw (passes_go most D t) (passes-keep P step most (pass N D) (step D h)))

  passes-end : (most : ℕ) (D : Lists) → value_count N D ≤ most → consistent N (passes_within N most D) ≡ true
  passes-end zero D h =
      by_cases (consistent N D)
      (λ t. rw (passes-stop zero D t) t)
      (λ t. absurd (let x : ⊥ = omega (arith, pass-falls D t) in x))
  passes-end (suc most) D h =
      by_cases (consistent N D)
      (λ t. rw (passes-stop (suc most) D t) t)
      (λ t. rw (passes_go most D t) (passes-end most (pass N D) (omega (arith, pass-falls D t))))

  -- "What remains is the largest choice of lists within the given ones in which every value has a partner in each stated live pair."
  largest-cut : Cut N (largest N)
  unfolding largest
  largest-cut = passes-keep (Cut N) (λ D c. cut-more N D (pass N D) c (pass-removes D)) _ _ (cut-start N)

  largest-consistent : consistent N (largest N) ≡ true
  unfolding largest
  largest-consistent = passes-end _ N.domain (omega arith)

  pub largest-is : Largest N (largest N)
  largest-is = cut-end N (largest N) largest-cut (consistent-e (largest N) largest-cut.within largest-consistent)

  -- Followers' lists are not touched by a pass, and no list gets a value.
  largest-fewer : (x a : ℕ) → largest N x a ≡ true → N.domain x a ≡ true
  unfolding largest
  largest-fewer =
      passes-keep (λ (D : Lists). (x a : ℕ) → D x a ≡ true → N.domain x a ≡ true)
      (λ D h x a d. h x a (unfold pass in and_l _ _ d)) _ N.domain (λ x a d. d)

  largest-led : (x l a : ℕ) → N.leader x ≡ suc l → largest N x a ≡ N.domain x a
  unfolding largest
  largest-led =
      passes-keep (λ (D : Lists). (x l a : ℕ) → N.leader x ≡ suc l → D x a ≡ N.domain x a)
      (λ D h x l a e. unfold pass in
      ap (and (D x a)) (implies-false _ _ (led-not-free N x l e)) ∙ and-true _ ∙ h x l a e) _ N.domain (λ x l a e. refl)

  -- ---- the network with these lists

  pub live-sound : Sound (live_trimmed N)
  unfolding live_trimmed
  live-sound = relisted-sound N S (largest N) largest-fewer largest-led

  -- No list gains a value.
  pub live-fewer : (x a : ℕ) → (live_trimmed N).domain x a ≡ true → N.domain x a ≡ true
  unfolding live_trimmed relisted
  live-fewer x a h = largest-fewer x a (trim-fewer (relisted N (largest N)) x a h)

  -- A free variable's domain is its list,
  pub live-domain : (x a : ℕ) → free N x ≡ true → (live_trimmed N).domain x a ≡ largest N x a
  unfolding live_trimmed
  live-domain = relisted-free N S (largest N) largest-fewer largest-led

  -- a follower's has the partners of its leader's values,
  pub live-trims : (x l b : ℕ) → N.leader x ≡ suc l
      → ((live_trimmed N).domain x b ≡ true)
      ↔ ((N.domain x b ≡ true) × ((a : ℕ) × ((live_trimmed N).domain l a ≡ true) × (N.allows l x a b ≡ true)))
  unfolding live_trimmed
  live-trims = relisted-trims N S (largest N) largest-fewer largest-led

  -- and every value of a live list has a partner in each stated live pair.
  pub live-partnered : Partnered (live_trimmed N) (live_trimmed N).domain
  unfolding live_trimmed followers_trimmed relisted free
  live-partnered i j a ti tj s d =
      let p = largest-is.partnered i j a ti tj s (sym (live-domain i a ti) ∙ d) in
      (p.0, live-domain j p.0 tj ∙ p.1, p.2)

  -- "No build is lost or gained."
  lists-solve : (f : ℕ → ℕ) → solves (relisted N (largest N)) f ≡ solves N f
  unfolding relisted
  lists-solve f =
      bool-ext _ _
      (λ h. solves-i N f (λ x l. largest-fewer x (f x) (solves-domain (relisted N (largest N)) f h x l)) (solves-pair (relisted N (largest N)) f h))
      (λ h. solves-i (relisted N (largest N)) f
      (λ x l. free-or-led N x
      (cut-solution N S (largest N) largest-cut f h x l)
      (λ y e. largest-led x y (f x) e ∙ solves-domain N f h x l))
      (solves-pair N f h))

  pub live-solves : (f : ℕ → ℕ) → solves (live_trimmed N) f ≡ solves N f
  unfolding live_trimmed
  live-solves f = trim-solves (relisted N (largest N)) live-sound f ∙ lists-solve f

  pub live-keeps : Keeps N (live_trimmed N) (λ (f : ℕ → ℕ). true)
  live-keeps =
      record {
        same_n = unfold live_trimmed followers_trimmed relisted in refl;
        same_size = λ i. unfold live_trimmed followers_trimmed relisted in refl;
        still_sound = live-sound;
        same_solutions = λ f. live-solves f ∙ sym (and-true (solves N f));
      }

  -- The same variables are free.
  pub live-free : (x : ℕ) → free (live_trimmed N) x ≡ free N x
  unfolding live_trimmed followers_trimmed relisted free
  live-free x = refl

  pub live-count : free_count (live_trimmed N) ≡ free_count N
  unfolding free_count live_trimmed followers_trimmed relisted free
  live-count = refl

  -- Lists that values were removed from in any order, until none was left to remove, with the followers' trimmed, are that network.
  pub live-only : (D : Lists) → Cut N D → Partnered N D → ((x l a : ℕ) → N.leader x ≡ suc l → D x a ≡ N.domain x a)
      → followers_trimmed (relisted N D) ≡ live_trimmed N
  unfolding live_trimmed
  live-only D c p led =
      ap (λ (E : Lists). followers_trimmed (relisted N E))
      (fun_ext (λ x. fun_ext (λ a. free-or-led N x
      (largest-only N D (largest N) (cut-end N D c p) largest-is x a)
      (λ l e. led x l a e ∙ sym (largest-led x l a e)))))

  -- Where every value has its partners nothing changes.
  pub live-rests : Partnered N N.domain → live_trimmed N ≡ N
  unfolding live_trimmed largest
  live-rests p =
      ap (λ (E : Lists). followers_trimmed (relisted N E)) (passes-stop _ N.domain (consistent-i N.domain p))
      ∙ (unfold relisted in trim_same N S.follower_trimmed)

-- ---- trimming and reducing in turn

-- A reduction without a step changes nothing.
reduced-still : (most : ℕ) (N : Network) → (reduce_within most N).steps ≡ 0 → reduce_within most N ≡ record { network = N; steps = 0 }
unfolding one_more
reduced-still zero N h = reduce_within-zero N
reduced-still (suc most) N h =
    by_cases (reducible N)
    (λ t. absurd (let x : ⊥ = omega (arith, rw (reduce_within-step most N t) at h) in x))
    (λ t. reduce_within-stop (suc most) N t)

pub reduce-still : (N : Network) → (reduce N).steps ≡ 0 → reduce N ≡ record { network = N; steps = 0 }
unfolding reduce
reduce-still N h = reduced-still N.n N h

pub alternate-rests : (most : ℕ) (N : Network) → (reduce (live_trimmed N)).steps ≡ 0
    → alternate_within (suc most) N ≡ record { network = live_trimmed N; steps = 0 }
unfolding alternate_within
alternate-rests most N h = if-true _ _ _ (eq-eqb _ 0 h) ∙ reduce-still (live_trimmed N) h

pub alternate-goes : (most : ℕ) (N : Network) → ((reduce (live_trimmed N)).steps ≡ 0 → ⊥)
    → alternate_within (suc most) N
    ≡ more_steps (reduce (live_trimmed N)).steps (alternate_within most (reduce (live_trimmed N)).network)
unfolding alternate_within
alternate-goes most N d = if-false _ _ _ (ne_eqb _ 0 d)

-- What a round hands on.
module _ (N : Network) (S : Sound N) where
  abbrev round : Reduced
  round = reduce (live_trimmed N)

  round_keeps : Keeps N round.network (λ (f : ℕ → ℕ). true)
  round_keeps = keeps-trans N (live_trimmed N) round.network (live-keeps N S) (run-keeps (live-sound N S) (reduce-run (live_trimmed N)))

  round-count : free_count round.network + round.steps ≡ free_count N
  round-count = reduce-count (live_trimmed N) (live-sound N S) ∙ live-count N S

  round-free : (x : ℕ) → free round.network x ≡ true → free N x ≡ true
  round-free x h = sym (live-free N S x) ∙ run-free (live-sound N S) (reduce-run (live_trimmed N)) x h

-- What the alternation hands back, by rounds.
pub record Alternated (N : Network) (r : Reduced) : Type 0 where
  pub keeps_all : Keeps N r.network (λ (f : ℕ → ℕ). true)
  pub all_counted : free_count r.network + r.steps ≡ free_count N
  pub none_freed : (x : ℕ) → free r.network x ≡ true → free N x ≡ true

alternated : (most : ℕ) (N : Network) → Sound N → Alternated N (alternate_within most N)
unfolding more_steps
alternated zero N S = unfold alternate_within in
    record { keeps_all = live-keeps N S; all_counted = omega (arith, live-count N S); none_freed = λ x h. sym (live-free N S x) ∙ h }
alternated (suc most) N S =
    by_cases (eqb (round N S).steps 0)
    (λ t. rw (alternate-rests most N (eqb-true _ 0 t))
    (record { keeps_all = live-keeps N S; all_counted = omega (arith, live-count N S); none_freed = λ x h. sym (live-free N S x) ∙ h }))
    (λ t. let k = round_keeps N S in
    let A = alternated most (round N S).network k.still_sound in
    rw (alternate-goes most N (eqb-false _ 0 t))
    (record {
      keeps_all = keeps-trans N (round N S).network _ k A.keeps_all;
      all_counted = omega (arith, A.all_counted, round-count N S);
      none_freed = λ x h. round-free N S x (A.none_freed x h);
    }))

-- "until neither changes anything": so it is where trimming came first and no step was legal after it.
rests : (N : Network) → Sound N → (reduce (live_trimmed N)).steps ≡ 0 → Rests (live_trimmed N)
rests N S h =
    let s = live-sound N S in
    let e = reduce-still (live_trimmed N) h in
    record {
      lists_rest = live-rests (live_trimmed N) s (live-partnered N S);
      steps_rest = e;
      all_partnered = live-partnered N S;
      none_legal = rw e at (reduce-stops (live_trimmed N) s);
    }

alternate-ends : (most : ℕ) (N : Network) → Sound N → free_count N ≤ most → Rests (alternate_within most N).network
unfolding more_steps
alternate-ends zero N S h = absurd (let x : ⊥ = omega (arith, some-free N S) in x)
alternate-ends (suc most) N S h =
    by_cases (eqb (round N S).steps 0)
    (λ t. let z = eqb-true _ 0 t in rw (alternate-rests most N z) (rests N S z))
    (λ t. let d : (round N S).steps ≡ 0 → ⊥ = eqb-false _ 0 t in
    rw (alternate-goes most N d)
    (alternate-ends most (round N S).network (round_keeps N S).still_sound (omega (arith, round-count N S))))

-- Any rounds that come to an end are those: the bound does not matter.
rounds-only : {N M : Network} {k : ℕ} → Sound N → Rounds N M k → (most : ℕ) → free_count N ≤ most
    → alternate_within most N ≡ record { network = M; steps = k }
unfolding more_steps
rounds-only {N} s (last h) zero b = absurd (let x : ⊥ = omega (arith, some-free N s) in x)
rounds-only {N} s (last h) (suc most) b = alternate-rests most N h
rounds-only {N} s (then d r) zero b = absurd (let x : ⊥ = omega (arith, some-free N s) in x)
rounds-only {N} s (then d r) (suc most) b =
    alternate-goes most N d
    ∙ ap (more_steps (round N s).steps) (rounds-only (round_keeps N s).still_sound r most (omega (arith, round-count N s)))

rounds-of : (most : ℕ) (N : Network) → Sound N → free_count N ≤ most → Rounds N (alternate_within most N).network (alternate_within most N).steps
unfolding more_steps
rounds-of zero N S h = absurd (let x : ⊥ = omega (arith, some-free N S) in x)
rounds-of (suc most) N S h =
    by_cases (eqb (round N S).steps 0)
    (λ t. let z = eqb-true _ 0 t in rw (alternate-rests most N z) (last z))
    (λ t. let d : (round N S).steps ≡ 0 → ⊥ = eqb-false _ 0 t in
    rw (alternate-goes most N d)
    (then d (rounds-of most (round N S).network (round_keeps N S).still_sound (omega (arith, round-count N S)))))

module _ (N : Network) (S : Sound N) where
  -- "This trimming comes first; then reduce fully, and alternate until neither changes anything": in one way alone.
  pub alternate-rounds : Rounds N (alternate N).network (alternate N).steps
  unfolding alternate free_count
  alternate-rounds = rounds-of N.n N S (count-le N.n (free N))

  pub alternate-only : {M : Network} {k : ℕ} → Rounds N M k → alternate N ≡ record { network = M; steps = k }
  unfolding alternate free_count
  alternate-only r = rounds-only S r N.n (count-le N.n (free N))

  pub alternate-alternated : Alternated N (alternate N)
  unfolding alternate
  alternate-alternated = alternated N.n N S

  -- "No build is lost or gained".
  pub alternate-keeps : Keeps N (alternate N).network (λ (f : ℕ → ℕ). true)
  alternate-keeps = alternate-alternated.keeps_all

  -- "alternate until neither changes anything"
  pub alternate-at-rest : Rests (alternate N).network
  unfolding alternate free_count
  alternate-at-rest = alternate-ends N.n N S (count-le N.n (free N))

  -- "the total number of follow steps": the variables that were free before and are not now, at most n - 1.
  pub alternate-count : free_count (alternate N).network + (alternate N).steps ≡ free_count N
  alternate-count = alternate-alternated.all_counted

  pub alternate-taken : count N.n (λ (x : ℕ). and (free N x) (not (free (alternate N).network x))) ≡ (alternate N).steps
  alternate-taken = taken N (alternate N).network (alternate N).steps alternate-keeps.same_n alternate-alternated.none_freed alternate-count

  pub alternate-most : suc (alternate N).steps ≤ N.n
  unfolding free_count
  alternate-most = omega (arith, alternate-count, some-free (alternate N).network alternate-keeps.still_sound, count-le N.n (free N))
