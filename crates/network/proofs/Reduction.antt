-- Any run of legal steps keeps the solutions and takes one free variable a step; the full reduction is such a run and ends.
use mathlib.Core.Bool.{Bool, true, false}
use mathlib.Core.Path.{◌≡◌, refl, sym, ◌∙◌, ap}
use Prim.Native.Nat.{ℕ, zero, suc, ◌+◌, ◌≤◌, ◌<◌}
use native.Mathlib.Omega.{arith}
use Rattle.bounded.specs.Bool.{and, not}
use Rattle.bounded.specs.Fold.{count}
use Rattle.bounded.proofs.Bool.{by_cases, clash, bool-ext, not-true→false, and_i, and_l, and_r, and-true, and_assoc, if-true, if-false}
use Rattle.bounded.proofs.Fold.{some-i, some-e, first_some, first_passes, first_below, count-cong, count-le, count-split, count-without}
use Rattle.network.specs.Network.{Network, free, solves}
use Rattle.network.specs.Sound.{Sound}
use Rattle.network.specs.Step.{legal, eliminate, relisted, followers_trimmed, followed}
use Rattle.network.specs.Reduction.{free_count, leading, reducible, next_leader, lowest_follower, next_follower, advance, one_more, run_within, reduce_within, reduce, Run, done, next}
use Rattle.network.specs.Promise.{Keeps}
use Rattle.network.proofs.Step.{Legal, legal-e}
use Rattle.network.proofs.Keep.{followed-solves, followed-sound, free-after}
use Rattle.network.proofs.Completion.{some-free}

-- A network stands for itself with nothing added.
pub keeps-refl : (N : Network) → Sound N → Keeps N N (λ (f : ℕ → ℕ). true)
keeps-refl N s =
    record {
      same_n = refl;
      same_size = λ i. refl;
      still_sound = s;
      same_solutions = λ f. sym (and-true (solves N f));
    }

pub keeps_then : (N M L : Network) (p q : (ℕ → ℕ) → Bool) → Keeps N M p → Keeps M L q → Keeps N L (λ (f : ℕ → ℕ). and (p f) (q f))
keeps_then N M L p q a b =
    record {
      same_n = b.same_n ∙ a.same_n;
      same_size = λ i. b.same_size i ∙ a.same_size i;
      still_sound = b.still_sound;
      same_solutions = λ f. b.same_solutions f ∙ rw (a.same_solutions f) (and_assoc (solves N f) (p f) (q f));
    }

pub keeps-cong : (N M : Network) (p q : (ℕ → ℕ) → Bool) → ((f : ℕ → ℕ) → p f ≡ q f) → Keeps N M p → Keeps N M q
keeps-cong N M p q e k =
    record {
      same_n = k.same_n;
      same_size = k.same_size;
      still_sound = k.still_sound;
      same_solutions = λ f. k.same_solutions f ∙ ap (and (solves N f)) (e f);
    }

-- Nothing added twice is nothing added.
pub keeps-trans : (N M L : Network) → Keeps N M (λ (f : ℕ → ℕ). true) → Keeps M L (λ (f : ℕ → ℕ). true) → Keeps N L (λ (f : ℕ → ℕ). true)
keeps-trans N M L a b = keeps-cong N L _ _ (λ f. and-true true) (keeps_then N M L _ _ a b)

-- One legal step.
pub step_keeps : (N : Network) → Sound N → (i j : ℕ) → legal N i j ≡ true → Keeps N (followed N i j) (λ (f : ℕ → ℕ). true)
unfolding eliminate relisted followers_trimmed followed
step_keeps N s i j l =
    record {
      same_n = refl;
      same_size = λ x. refl;
      still_sound = followed-sound N s i j l;
      same_solutions = λ f. followed-solves N s i j l f ∙ sym (and-true (solves N f));
    }

pub step_count : (N : Network) → Sound N → (i j : ℕ) → legal N i j ≡ true → suc (free_count (followed N i j)) ≡ free_count N
unfolding free_count eliminate relisted followers_trimmed followed
step_count N s i j l =
    let g : Legal N i j = legal-e N i j l in
    ap suc (count-cong N.n _ _ (λ x m. free-after N i j x)) ∙ count-without N.n (free N) j g.j_in g.j_free

pub run-keeps : {N M : Network} {k : ℕ} → Sound N → Run N M k → Keeps N M (λ (f : ℕ → ℕ). true)
run-keeps {N} s done = keeps-refl N s
run-keeps {N} {M} s (next i j l r) = keeps-trans N (followed N i j) M (step_keeps N s i j l) (run-keeps (followed-sound N s i j l) r)

pub run_sound : {N M : Network} {k : ℕ} → Sound N → Run N M k → Sound M
run_sound s r = (run-keeps s r).still_sound

-- "the builds agree", whatever steps were taken.
pub run-solves : {N M : Network} {k : ℕ} → Sound N → Run N M k → (f : ℕ → ℕ) → solves M f ≡ solves N f
run-solves {N} s r f = (run-keeps s r).same_solutions f ∙ and-true (solves N f)

-- No step sets a variable free.
pub run-free : {N M : Network} {k : ℕ} → Sound N → Run N M k → (x : ℕ) → free M x ≡ true → free N x ≡ true
run-free s done x h = h
run-free {N} s (next i j l r) x h = and_l _ _ (sym (free-after N i j x) ∙ run-free (followed-sound N s i j l) r x h)

-- Each step takes one free variable.
pub run-count : {N M : Network} {k : ℕ} → Sound N → Run N M k → free_count M + k ≡ free_count N
run-count s done = omega arith
run-count {N} s (next i j l r) = omega (arith, step_count N s i j l, run-count (followed-sound N s i j l) r)

-- Where none is set free and k fewer are free, k were free before and are not now.
pub taken : (N M : Network) (k : ℕ) → M.n ≡ N.n → ((x : ℕ) → free M x ≡ true → free N x ≡ true) → free_count M + k ≡ free_count N
    → count N.n (λ (x : ℕ). and (free N x) (not (free M x))) ≡ k
unfolding free_count
taken N M k n f c =
    let still : count N.n (λ (x : ℕ). and (free N x) (free M x)) ≡ count N.n (free M) =
    count-cong N.n _ _ (λ x l. bool-ext _ _ (and_r _ _) (λ h. and_i _ _ (f x h) h)) in
    let same : count M.n (free M) ≡ count N.n (free M) = ap (λ (m : ℕ). count m (free M)) n in
    omega (arith, count-split N.n (free N) (free M))

-- "the number of steps, which equals the number of options that were live before and are not now,
pub run-taken : {N M : Network} {k : ℕ} → Sound N → Run N M k → count N.n (λ (x : ℕ). and (free N x) (not (free M x))) ≡ k
run-taken {N} {M} {k} s r = taken N M k (run-keeps s r).same_n (run-free s r) (run-count s r)

-- and is at most n - 1"
pub run-most : {N M : Network} {k : ℕ} → Sound N → Run N M k → suc k ≤ N.n
unfolding free_count
run-most {N} {M} s r = omega (arith, run-count s r, some-free M (run_sound s r), count-le N.n (free N))

-- Legal steps and the search. Whatever numbers are asked, only those below n can lead, follow or be found.
pub leading-i : (N : Network) (i j : ℕ) → legal N i j ≡ true → leading N i ≡ true
unfolding leading
leading-i N i j l = some-i N.n (legal N i) j (legal-e N i j l).j_in l

pub legal-reducible : (N : Network) (i j : ℕ) → legal N i j ≡ true → reducible N ≡ true
unfolding reducible
legal-reducible N i j l = some-i N.n (leading N) i (legal-e N i j l).i_in (leading-i N i j l)

-- "until no step is legal": of any two numbers.
pub not-reducible : (N : Network) → reducible N ≡ false → (i j : ℕ) → legal N i j ≡ false
not-reducible N h i j = not-true→false (legal N i j) (λ l. clash (legal-reducible N i j l) h)

pub next-leads : (N : Network) → reducible N ≡ true → leading N (next_leader N) ≡ true
unfolding reducible next_leader
next-leads N h = first_passes N.n (leading N) (first_some N.n (leading N) h)

-- "the lowest i that has a legal j, with the lowest such j"
pub next-leader-lowest : (N : Network) (i : ℕ) → i < next_leader N → leading N i ≡ false
unfolding next_leader
next-leader-lowest N i l = first_below N.n (leading N) i l

pub next-follower-lowest : (N : Network) (j : ℕ) → j < next_follower N → legal N (next_leader N) j ≡ false
unfolding next_follower lowest_follower
next-follower-lowest N j l = first_below N.n (legal N (next_leader N)) j l

pub next-legal : (N : Network) → reducible N ≡ true → legal N (next_leader N) (next_follower N) ≡ true
unfolding leading next_follower lowest_follower
next-legal N h = first_passes N.n (legal N (next_leader N)) (first_some N.n (legal N (next_leader N)) (next-leads N h))

-- Some step is legal exactly when the next leader has one.
pub reducible-leads : (N : Network) → reducible N ≡ leading N (next_leader N)
unfolding reducible leading
reducible-leads N =
    bool-ext _ _ (next-leads N) (λ h. some-e N.n (legal N (next_leader N)) h (λ j m l. legal-reducible N (next_leader N) j l))

-- A leader that has a legal follower has a lowest one.
pub follower-legal : (N : Network) (i : ℕ) → leading N i ≡ true → legal N i (lowest_follower N i) ≡ true
unfolding leading lowest_follower
follower-legal N i h = first_passes N.n (legal N i) (first_some N.n (legal N i) h)

pub follower-lowest : (N : Network) (i j : ℕ) → j < lowest_follower N i → legal N i j ≡ false
unfolding lowest_follower
follower-lowest N i j l = first_below N.n (legal N i) j l

-- A leader with no legal step, of any number.
pub not-leading : (N : Network) (i : ℕ) → leading N i ≡ false → (j : ℕ) → legal N i j ≡ false
not-leading N i h j = not-true→false (legal N i j) (λ l. clash (leading-i N i j l) h)

-- Steps of leaders that a rule names, case by case.
module _ (who : Network → ℕ) where
  run_within-zero : (N : Network) → run_within who zero N ≡ record { network = N; steps = 0 }
  unfolding run_within
  run_within-zero N = refl

  pub run_within-stop : (most : ℕ) (N : Network) → leading N (who N) ≡ false → run_within who most N ≡ record { network = N; steps = 0 }
  unfolding run_within
  run_within-stop zero N h = refl
  run_within-stop (suc most) N h = if-false _ _ _ h

  pub run_within-step : (most : ℕ) (N : Network) → leading N (who N) ≡ true
      → run_within who (suc most) N ≡ one_more (run_within who most (followed N (who N) (lowest_follower N (who N))))
  unfolding run_within
  run_within-step most N h = if-true _ _ _ h

  -- They are a run of legal steps,
  pub run_within-run : (most : ℕ) (N : Network) → Run N (run_within who most N).network (run_within who most N).steps
  unfolding one_more
  run_within-run zero N = rw (run_within-zero N) done
  run_within-run (suc most) N =
      by_cases (leading N (who N))
      (λ t. rw (run_within-step most N t) (next (who N) (lowest_follower N (who N)) (follower-legal N (who N) t) (run_within-run most _)))
      (λ t. rw (run_within-stop (suc most) N t) done)

  -- keep what each of them keeps,
  pub run_within-keeps : (P : Network → Type 0)
      → ((M : Network) → P M → leading M (who M) ≡ true → P (followed M (who M) (lowest_follower M (who M))))
      → (most : ℕ) (N : Network) → P N → P (run_within who most N).network
  unfolding one_more
  run_within-keeps P step zero N h = rw (run_within-zero N) h
  run_within-keeps P step (suc most) N h =
      by_cases (leading N (who N))
      (λ t. rw (run_within-step most N t) (run_within-keeps P step most _ (step N h t)))
      (λ t. rw (run_within-stop (suc most) N t) h)

  -- and where one is still possible, all that may be taken are taken.
  run_within-full : (most : ℕ) (N : Network)
      → leading (run_within who most N).network (who (run_within who most N).network) ≡ true
      → (run_within who most N).steps ≡ most
  unfolding one_more
  run_within-full zero N h = rw (run_within-zero N) refl
  run_within-full (suc most) N h =
      by_cases (leading N (who N))
      (λ t. rw (run_within-step most N t) (ap suc (run_within-full most _ (rw (run_within-step most N t) at h))))
      (λ t. clash (rw (run_within-stop (suc most) N t) at h) t)

  -- So n steps are enough: "until none can follow".
  pub run_within-stops : (N : Network) → Sound N
      → leading (run_within who N.n N).network (who (run_within who N.n N).network) ≡ false
  run_within-stops N s =
      not-true→false _ (λ t. let x : ⊥ = omega (arith, run_within-full N.n N t, run-most s (run_within-run N.n N)) in x)

-- The reduction, case by case.
pub reduce_within-zero : (N : Network) → reduce_within zero N ≡ record { network = N; steps = 0 }
unfolding reduce_within
reduce_within-zero N = run_within-zero next_leader N

pub reduce_within-stop : (most : ℕ) (N : Network) → reducible N ≡ false → reduce_within most N ≡ record { network = N; steps = 0 }
unfolding reduce_within
reduce_within-stop most N h = run_within-stop next_leader most N (sym (reducible-leads N) ∙ h)

pub reduce_within-step : (most : ℕ) (N : Network) → reducible N ≡ true → reduce_within (suc most) N ≡ one_more (reduce_within most (advance N))
unfolding reduce_within advance next_follower
reduce_within-step most N h = run_within-step next_leader most N (sym (reducible-leads N) ∙ h)

pub reduce-run : (N : Network) → Run N (reduce N).network (reduce N).steps
unfolding reduce reduce_within
reduce-run N = run_within-run next_leader _ N

pub reduce-count : (N : Network) → Sound N → free_count (reduce N).network + (reduce N).steps ≡ free_count N
reduce-count N s = run-count s (reduce-run N)

-- "It hands back the state and the number of steps, which equals the number of options that were live before and are not now,
pub reduce-taken : (N : Network) → Sound N → count N.n (λ (x : ℕ). and (free N x) (not (free (reduce N).network x))) ≡ (reduce N).steps
reduce-taken N s = run-taken s (reduce-run N)

-- and is at most n - 1."
pub reduce-most : (N : Network) → Sound N → suc (reduce N).steps ≤ N.n
reduce-most N s = run-most s (reduce-run N)

-- "repeats until no step is legal"
pub reduce-stops : (N : Network) → Sound N → reducible (reduce N).network ≡ false
unfolding reduce reduce_within
reduce-stops N s = reducible-leads _ ∙ run_within-stops next_leader N s
