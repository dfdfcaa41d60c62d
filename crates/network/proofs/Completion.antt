-- The completer, the allowed choices and the verdict: what documents 01 and 02 say of them, of every sound network.
use mathlib.Core.Bool.{true, false}
use mathlib.Core.Logic.{◌↔◌}
use mathlib.Core.Path.{◌≡◌, sym, ◌∙◌}
use Prim.Native.Nat.{ℕ, suc, ◌≤◌, ◌<◌}
use native.Mathlib.Omega.{arith}
use borrow.Author.Tests.{lt-ltb, le-ltb}
use Rattle.bounded.specs.Fold.{some, first}
use Rattle.bounded.proofs.Bool.{by_cases, clash, bool-ext, not-true→false, and_i, and_l, and_r}
use Rattle.bounded.proofs.Bool.{implies-i, implies-e, not-i, not-e, not-false-i, if-true, if-false}
use Rattle.bounded.proofs.Fold.{every-i, every-e, pairs-i, pairs-e, some-i, some-e, none_of, count-pos, count-two, first_below, first_some, first_passes}
use Rattle.network.specs.Network.{Network, free, partner, in_domains, pairs_allow, solves}
use Rattle.network.specs.Sound.{Sound}
use Rattle.network.specs.Reduction.{free_count}
use Rattle.network.specs.Completion.{follow, completed, choice_in_domains, choice_pairs_allow, allowed_choice, complete_refusal, NONE, BUILT}
use Rattle.network.specs.Completion.{OPEN, lowest, exhausted, decided, verdict, lowest_solution, shown}
use Rattle.network.proofs.Sound.{led-not-free, led-pred, free-or-led, leader-n, leader-is-free, leader-stated, partner-some, partner-only}

-- Solutions and allowed choices, to and from facts about every variable and every pair.
module _ (N : Network) (f : ℕ → ℕ) where
  pub solves-domain : solves N f ≡ true → (i : ℕ) → i < N.n → N.domain i (f i) ≡ true
  unfolding solves in_domains
  solves-domain h i l = every-e N.n _ (and_l _ _ h) i l

  pub solves-pair : solves N f ≡ true → (i j : ℕ) → i < N.n → j < N.n → N.stated i j ≡ true → N.allows i j (f i) (f j) ≡ true
  unfolding solves pairs_allow
  solves-pair h i j li lj s = implies-e _ _ (every-e N.n _ (every-e N.n _ (and_r _ _ h) i li) j lj) s

  pub solves-i : ((i : ℕ) → i < N.n → N.domain i (f i) ≡ true)
      → ((i j : ℕ) → i < N.n → j < N.n → N.stated i j ≡ true → N.allows i j (f i) (f j) ≡ true)
      → solves N f ≡ true
  unfolding solves in_domains pairs_allow
  solves-i d p = and_i _ _ (every-i N.n _ d) (every-i N.n _ λ i li. every-i N.n _ λ j lj. implies-i _ _ λ s. p i j li lj s)

  pub allowed-domain : allowed_choice N f ≡ true → (i : ℕ) → i < N.n → free N i ≡ true → N.domain i (f i) ≡ true
  unfolding allowed_choice choice_in_domains
  allowed-domain h i l t = implies-e _ _ (every-e N.n _ (and_l _ _ h) i l) t

  pub allowed-pair : allowed_choice N f ≡ true → (i j : ℕ) → i < N.n → j < N.n → free N i ≡ true → free N j ≡ true
      → N.stated i j ≡ true
      → N.allows i j (f i) (f j) ≡ true
  unfolding allowed_choice choice_pairs_allow
  allowed-pair h i j li lj ti tj s =
      implies-e _ _ (every-e N.n _ (every-e N.n _ (and_r _ _ h) i li) j lj) (and_i _ _ ti (and_i _ _ tj s))

  pub allowed-i : ((i : ℕ) → i < N.n → free N i ≡ true → N.domain i (f i) ≡ true)
      → ((i j : ℕ) → i < N.n → j < N.n → free N i ≡ true → free N j ≡ true → N.stated i j ≡ true → N.allows i j (f i) (f j) ≡ true)
      → allowed_choice N f ≡ true
  unfolding allowed_choice choice_in_domains choice_pairs_allow
  allowed-i d p =
      and_i _ _ (every-i N.n _ λ i l. implies-i _ _ λ t. d i l t)
      (every-i N.n _ λ i li. every-i N.n _ λ j lj. implies-i _ _ λ t.
      p i j li lj (and_l _ _ t) (and_l _ _ (and_r _ _ t)) (and_r _ _ (and_r _ _ t)))

  -- The values of a solution at the free variables are an allowed choice.
  pub solves-allowed : solves N f ≡ true → allowed_choice N f ≡ true
  solves-allowed h = allowed-i (λ i l t. solves-domain h i l) (λ i j li lj ti tj s. solves-pair h i j li lj s)

-- Only values below n count for a solution,
solves-agree : (N : Network) (f g : ℕ → ℕ) → ((i : ℕ) → i < N.n → f i ≡ g i) → solves N f ≡ true → solves N g ≡ true
solves-agree N f g e h =
    solves-i N g
    (λ i l. rw (e i l) at (solves-domain N f h i l))
    (λ i j li lj s. rw (e i li, e j lj) at (solves-pair N f h i j li lj s))

pub solves-cong : (N : Network) (f g : ℕ → ℕ) → ((i : ℕ) → i < N.n → f i ≡ g i) → solves N f ≡ solves N g
solves-cong N f g e = bool-ext _ _ (solves-agree N f g e) (solves-agree N g f λ i l. sym (e i l))

-- and for a choice only those of free variables: "Choices are told apart by the values of live options".
allowed-agree : (N : Network) (f g : ℕ → ℕ) → ((i : ℕ) → i < N.n → free N i ≡ true → f i ≡ g i)
    → allowed_choice N f ≡ true
    → allowed_choice N g ≡ true
allowed-agree N f g e h =
    allowed-i N g
    (λ i l t. rw (e i l t) at (allowed-domain N f h i l t))
    (λ i j li lj ti tj s. rw (e i li ti, e j lj tj) at (allowed-pair N f h i j li lj ti tj s))

pub allowed_choice-cong : (N : Network) (f g : ℕ → ℕ) → ((i : ℕ) → i < N.n → free N i ≡ true → f i ≡ g i)
    → allowed_choice N f ≡ allowed_choice N g
allowed_choice-cong N f g e = bool-ext _ _ (allowed-agree N f g e) (allowed-agree N g f λ i l t. sym (e i l t))

-- The completer's numbers, each exactly when its sentence holds.
module _ (N : Network) (f : ℕ → ℕ) where
  pub refused-15 : choice_in_domains N f ≡ false → complete_refusal N f ≡ 15
  unfolding complete_refusal
  refused-15 h = if-true _ _ _ (not-i _ h)

  pub refused-16 : choice_in_domains N f ≡ true → choice_pairs_allow N f ≡ false → complete_refusal N f ≡ 16
  unfolding complete_refusal
  refused-16 h k = if-false _ _ _ (not-false-i _ h) ∙ if-true _ _ _ (not-i _ k)

  pub accepted : allowed_choice N f ≡ true → complete_refusal N f ≡ 0
  unfolding complete_refusal allowed_choice
  accepted h = if-false _ _ _ (not-false-i _ (and_l _ _ h)) ∙ if-false _ _ _ (not-false-i _ (and_r _ _ h))

  refusal-cases : {A : Type 0} → (choice_in_domains N f ≡ false → complete_refusal N f ≡ 15 → A)
      → (choice_in_domains N f ≡ true → choice_pairs_allow N f ≡ false → complete_refusal N f ≡ 16 → A)
      → (allowed_choice N f ≡ true → complete_refusal N f ≡ 0 → A)
      → A
  unfolding allowed_choice
  refusal-cases x y z =
      by_cases (choice_in_domains N f)
      (λ d. by_cases (choice_pairs_allow N f) (λ p. let a = and_i _ _ d p in z a (accepted a)) (λ p. y d p (refused-16 d p)))
      (λ d. x d (refused-15 d))

  pub refused-15-only : complete_refusal N f ≡ 15 → choice_in_domains N f ≡ false
  refused-15-only h = refusal-cases (λ d e. d) (λ d p e. cc) (λ a e. cc)

  pub refused-16-only : complete_refusal N f ≡ 16 → (choice_in_domains N f ≡ true) × (choice_pairs_allow N f ≡ false)
  refused-16-only h = refusal-cases (λ d e. (cc, cc)) (λ d p e. (d, p)) (λ a e. (cc, cc))

  pub accepted-only : complete_refusal N f ≡ 0 → allowed_choice N f ≡ true
  accepted-only h = refusal-cases (λ d e. cc) (λ d p e. cc) (λ a e. a)

-- What the completer writes. It keeps the values of free variables,
pub completed-keeps : (N : Network) (f : ℕ → ℕ) (i : ℕ) → free N i ≡ true → completed N f i ≡ f i
unfolding completed
completed-keeps N f i t = if-true _ _ _ t

-- and gives a follower the lowest partner of its leader's value,
pub completed-led : (N : Network) (f : ℕ → ℕ) (i l : ℕ) → N.leader i ≡ suc l → completed N f i ≡ first (N.size i) (partner N l i (f l))
unfolding completed follow
completed-led N f i l e = if-false _ _ _ (led-not-free N i l e) ∙ rw (led-pred N i l e)

pub completed-lowest : (N : Network) (f : ℕ → ℕ) (i l b : ℕ) → N.leader i ≡ suc l → b < completed N f i → partner N l i (f l) b ≡ false
completed-lowest N f i l b e h = first_below (N.size i) _ b (rw (completed-led N f i l e) at h)

-- which is there in a sound network.
pub completed-partner : (N : Network) → Sound N → (f : ℕ → ℕ) (i l : ℕ) → N.leader i ≡ suc l → N.domain l (f l) ≡ true
    → (partner N l i (f l) (completed N f i) ≡ true) × (completed N f i < N.size i)
completed-partner N S f i l e d =
    let p = partner N l i (f l) in
    let found = first_some (N.size i) p (partner-some N S i l (f l) e d) in
    rw (completed-led N f i l e) (first_passes (N.size i) p found, found)

-- "From every allowed choice the completer gives a build":
module _ (N : Network) (S : Sound N) (f : ℕ → ℕ) (h : allowed_choice N f ≡ true) where
  -- the value of a follower is a partner of its leader's.
  completed-tied : (i l : ℕ) → N.leader i ≡ suc l → partner N l i (completed N f l) (completed N f i) ≡ true
  completed-tied i l e =
      let t = leader-is-free N S i l e in
      rw (completed-keeps N f l t) (completed-partner N S f i l e (allowed-domain N f h l (leader-n N S i l e) t)).0

  completed-domain : (i : ℕ) → i < N.n → N.domain i (completed N f i) ≡ true
  unfolding partner
  completed-domain i l =
      free-or-led N i
      (λ t. rw (completed-keeps N f i t) (allowed-domain N f h i l t))
      (λ k e. and_l _ _ (completed-tied i k e))

  -- A pair with a follower i can only be that of i and its leader.
  completed-follower : (i j l : ℕ) → N.leader i ≡ suc l → N.stated i j ≡ true → N.allows j i (completed N f j) (completed N f i) ≡ true
  unfolding partner
  completed-follower i j l e s = rw (S.follower_only i l j e s) (and_r _ _ (completed-tied i l e))

  completed-pair : (i j : ℕ) → i < N.n → j < N.n → N.stated i j ≡ true → N.allows i j (completed N f i) (completed N f j) ≡ true
  completed-pair i j li lj s =
      free-or-led N i
      (λ ti. free-or-led N j
      (λ tj. rw (completed-keeps N f i ti, completed-keeps N f j tj) (allowed-pair N f h i j li lj ti tj s))
      (λ l e. completed-follower j i l e (S.stated_sym j i ∙ s)))
      (λ l e. S.allows_sym i j _ _ ∙ completed-follower i j l e s)

  pub completed-solves : solves N (completed N f) ≡ true
  completed-solves = solves-i N (completed N f) completed-domain completed-pair

-- "and no other build .. has these values at the live options".
pub completed-only : (N : Network) → Sound N → (f g : ℕ → ℕ) → solves N g ≡ true
    → ((i : ℕ) → i < N.n → free N i ≡ true → g i ≡ f i)
    → (i : ℕ) → i < N.n → g i ≡ completed N f i
unfolding partner
completed-only N S f g h same i li =
    free-or-led N i
    (λ t. same i li t ∙ sym (completed-keeps N f i t))
    (λ l e.
    let ll = leader-n N S i l e in
    let q = same l ll (leader-is-free N S i l e) in
    let dl = rw q at (solves-domain N g h l ll) in
    let p = rw q at (solves-pair N g h l i ll li (leader-stated N S i l e)) in
    partner-only N S i l (f l) (g i) (completed N f i) e dl (and_i _ _ (solves-domain N g h i li) p) (completed-partner N S f i l e dl).0)

-- The verdict's three cases, each exactly when its sentence holds.
module _ (N : Network) where
  pub none-verdict : exhausted N ≡ true → verdict N ≡ NONE
  unfolding verdict
  none-verdict h = if-true _ _ _ h

  pub built-verdict : exhausted N ≡ false → decided N ≡ true → verdict N ≡ BUILT
  unfolding verdict
  built-verdict h k = if-false _ _ _ h ∙ if-true _ _ _ k

  pub open-verdict : exhausted N ≡ false → decided N ≡ false → verdict N ≡ OPEN
  unfolding verdict
  open-verdict h k = if-false _ _ _ h ∙ if-false _ _ _ k

  verdict-cases : {A : Type 0} → (exhausted N ≡ true → verdict N ≡ NONE → A)
      → (exhausted N ≡ false → decided N ≡ true → verdict N ≡ BUILT → A)
      → (exhausted N ≡ false → decided N ≡ false → verdict N ≡ OPEN → A)
      → A
  verdict-cases x y z =
      by_cases (exhausted N)
      (λ h. x h (none-verdict h))
      (λ h. by_cases (decided N) (λ k. y h k (built-verdict h k)) (λ k. z h k (open-verdict h k)))

  pub verdict-none : verdict N ≡ NONE → exhausted N ≡ true
  verdict-none v = verdict-cases (λ h e. h) (λ h k e. cc) (λ h k e. cc)

  pub verdict-built : verdict N ≡ BUILT → (exhausted N ≡ false) × (decided N ≡ true)
  verdict-built v = verdict-cases (λ h e. (cc, cc)) (λ h k e. (h, k)) (λ h k e. (cc, cc))

  pub verdict-open : verdict N ≡ OPEN → (exhausted N ≡ false) × (decided N ≡ false)
  verdict-open v = verdict-cases (λ h e. (cc, cc)) (λ h k e. (cc, cc)) (λ h k e. (h, k))

  -- The solution that is shown, and where it is zero.
  pub shown-built : verdict N ≡ BUILT → (i : ℕ) → i < N.n → shown N i ≡ lowest_solution N i
  unfolding shown
  shown-built v i l = let b = verdict-built v in if-true _ _ _ (and_i _ _ (not-i _ b.0) (and_i _ _ b.1 (lt-ltb i N.n l)))

  pub shown-past : (i : ℕ) → N.n ≤ i → shown N i ≡ 0
  unfolding shown
  shown-past i l = if-false _ _ _ (not-true→false _ λ t. clash (and_r _ _ (and_r _ _ t)) (le-ltb i N.n l))

  pub shown-zero : (i : ℕ) → (verdict N ≡ BUILT → ⊥) → shown N i ≡ 0
  unfolding shown
  shown-zero i v = if-false _ _ _ (not-true→false _ λ t. v (built-verdict (not-e _ (and_l _ _ t)) (and_l _ _ (and_r _ _ t))))

  -- "some live list is empty": there is one,
  pub exhausted-e : {A : Type 0} → exhausted N ≡ true
      → ((i : ℕ) → i < N.n → free N i ≡ true → some (N.size i) (N.domain i) ≡ false → A)
      → A
  unfolding exhausted
  exhausted-e h f = some-e N.n _ h λ i l t. f i l (and_l _ _ t) (not-e _ (and_r _ _ t))

  -- or there is none.
  pub not-exhausted : exhausted N ≡ false → (i : ℕ) → i < N.n → free N i ≡ true → some (N.size i) (N.domain i) ≡ true
  unfolding exhausted
  not-exhausted h i l t =
      by_cases (some (N.size i) (N.domain i))
      (λ s. s)
      (λ s. clash (and_i _ _ t (not-i _ s)) (none_of N.n _ h i l))

  -- A free variable's lowest value is then in its domain, and nothing lower is.
  pub lowest-domain : exhausted N ≡ false → (i : ℕ) → i < N.n → free N i ≡ true → N.domain i (lowest N i) ≡ true
  unfolding lowest
  lowest-domain h i l t = first_passes (N.size i) _ (first_some (N.size i) _ (not-exhausted h i l t))

  pub lowest-below : (i b : ℕ) → b < lowest N i → N.domain i b ≡ false
  unfolding lowest
  lowest-below i b l = first_below (N.size i) _ b l

  -- "no two live options are stated together", exactly: the one law that knows how `decided` is defined. (It speaks of i and i too, which `Sound`
  -- never has stated.)
  pub decided-apart : (decided N ≡ true)
      ↔ ((i j : ℕ) → i < N.n → j < N.n → free N i ≡ true → free N j ≡ true → N.stated i j ≡ false)
  unfolding decided
  decided-apart = (
    λ k i j li lj ti tj. not-e _ (implies-e _ _ (pairs-e N.n _ k i j li lj) (and_i _ _ ti tj)),
    λ apart. pairs-i N.n _ λ i j li lj. implies-i _ _ λ t. not-i _ (apart i j li lj (and_l _ _ t) (and_r _ _ t)),
  )

  -- Then the lowest values are an allowed choice.
  pub lowest-allowed : exhausted N ≡ false → decided N ≡ true → allowed_choice N (lowest N) ≡ true
  lowest-allowed h k = allowed-i N (lowest N) (lowest-domain h) (λ i j li lj ti tj s. clash s (decided-apart.0 k i j li lj ti tj))

  -- With BUILT each free variable shows the lowest value of its domain.
  pub shown-lowest : verdict N ≡ BUILT → (i : ℕ) → i < N.n → free N i ≡ true
      → ((b : ℕ) → b < shown N i → N.domain i b ≡ false) × (N.domain i (shown N i) ≡ true)
  unfolding lowest_solution
  shown-lowest v i l t =
      rw (shown-built v i l ∙ completed-keeps N (lowest N) i t)
      (lowest-below i, lowest-domain (verdict-built v).0 i l t)

-- What demand 3 says of the verdict, of the network itself.
module _ (N : Network) (S : Sound N) where
  -- Some variable is free: variable 0, or its leader.
  pub some-free : 1 ≤ free_count N
  unfolding free_count
  some-free =
      free-or-led N 0
      (λ t. count-pos N.n (free N) 0 S.some_variable t)
      (λ l e. count-pos N.n (free N) l (leader-n N S 0 l e) (leader-is-free N S 0 l e))

  -- "the verdict is NONE only when the sheet has no build"
  pub exhausted-none : exhausted N ≡ true → (f : ℕ → ℕ) → solves N f ≡ false
  exhausted-none h f = not-true→false (solves N f) λ s.
      exhausted-e N h λ i l t e.
      let d = solves-domain N f s i l in
      clash (some-i (N.size i) (N.domain i) (f i) (S.domain_in i (f i) d) d) e

  -- With one free variable the only pair of free variables is that variable with itself, which is never stated.
  pub one-live-decided : free_count N ≡ 1 → decided N ≡ true
  unfolding free_count
  one-live-decided e = (decided-apart N).1 λ i j li lj ti tj.
      rw (count-two N.n (free N) (omega arith) i j li lj ti tj) (S.no_self j)

  decided-solves : exhausted N ≡ false → decided N ≡ true → solves N (lowest_solution N) ≡ true
  unfolding lowest_solution
  decided-solves h k = completed-solves N S (lowest N) (lowest-allowed N h k)

  -- "wherever no two live options are stated together": "it is NONE exactly when the sheet has no build,
  pub decided-none : decided N ≡ true → ((f : ℕ → ℕ) → solves N f ≡ false) → verdict N ≡ NONE
  decided-none k none = by_cases (exhausted N) (none-verdict N) (λ h. clash (decided-solves h k) (none (lowest_solution N)))

  -- and otherwise BUILT, and the first n bytes shown are a build of the sheet"
  pub decided-built : decided N ≡ true → (verdict N ≡ NONE → ⊥) → (verdict N ≡ BUILT) × (solves N (shown N) ≡ true)
  decided-built k not_None =
      let h = not-true→false (exhausted N) (λ t. not_None (none-verdict N t)) in
      let v = built-verdict N h k in
      (v, solves-cong N (shown N) (lowest_solution N) (shown-built N v) ∙ decided-solves h k)
