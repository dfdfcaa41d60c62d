-- The trimming of followers' domains: what it leaves, that it keeps the solutions, and what it keeps sound.
use mathlib.Core.Bool.{Bool, true, false}
use mathlib.Core.Logic.{◌↔◌}
use mathlib.Core.Path.{◌≡◌, refl, sym, ◌∙◌, ap, ap₂}
use Prim.Native.Nat.{ℕ, suc, pred, ◌≤◌, ◌<◌}
use lib.Dec.{eqb, leb}
use Rattle.bounded.specs.Bool.{and, implies, not, if}
use Rattle.bounded.specs.Fold.{some, count}
use Rattle.bounded.proofs.Bool.{bool-ext, by_cases, clash, and_i, and_l, and_r, and-cong}
use Rattle.bounded.proofs.Bool.{or-false-l, or-false-r, not-false-e, implies-false, if-true, if-false}
use Rattle.bounded.proofs.Fold.{every-cong, some-i, some-cong, count-cong}
use Rattle.network.specs.Network.{Network, free, partner, functional, solves}
use Rattle.network.specs.Sound.{Sound, Bounded}
use Rattle.network.specs.Step.{outside, refusal, legal, trimmed, relisted, followers_trimmed, Trimmable}
use Rattle.network.specs.Completion.{choice_in_domains, choice_pairs_allow, allowed_choice, NONE, BUILT, OPEN, exhausted, decided, verdict}
use Rattle.network.proofs.Sound.{free-i, led-not-free, led-pred, free-or-led, leader-n, Sound→Bounded}
use Rattle.network.proofs.Step.{trimmed-domain, trimmed-e}
use Rattle.network.proofs.Completion.{solves-domain, solves-pair, solves-i}
use Rattle.network.proofs.SheetOf.{network-ext}

module _ (M : Network) where
  -- A free variable keeps its domain,
  pub trim-free : (x a : ℕ) → free M x ≡ true → (followers_trimmed M).domain x a ≡ M.domain x a
  unfolding followers_trimmed relisted
  trim-free x a t = if-true _ _ _ t

  -- and a follower's loses what goes with no value of its leader.
  pub trim-led : (x l a : ℕ) → M.leader x ≡ suc l → (followers_trimmed M).domain x a ≡ trimmed M x l a
  unfolding followers_trimmed relisted
  trim-led x l a e = if-false _ _ _ (led-not-free M x l e) ∙ ap (λ (y : ℕ). trimmed M x y a) (led-pred M x l e)

  pub trim-fewer : (x a : ℕ) → (followers_trimmed M).domain x a ≡ true → M.domain x a ≡ true
  trim-fewer x a h =
      free-or-led M x
      (λ t. sym (trim-free x a t) ∙ h)
      (λ l e. trimmed-domain M x l a (sym (trim-led x l a e) ∙ h))

  module _ (T : Trimmable M) where
    -- The partners of the values of a leader stay,
    pub trim-keeps : (x l a b : ℕ) → M.leader x ≡ suc l → M.domain l a ≡ true → M.domain x b ≡ true → M.allows l x a b ≡ true
        → (followers_trimmed M).domain x b ≡ true
    unfolding trimmed partner
    trim-keeps x l a b e da db ab =
        trim-led x l b e ∙ and_i _ _ db (some-i (M.size l) _ a (T.values_in l a da) (and_i _ _ da (T.pairs_alike x l b a ∙ ab)))

    pub trim-partner : (x l a b : ℕ) → M.leader x ≡ suc l → M.domain l a ≡ true → partner (followers_trimmed M) l x a b ≡ partner M l x a b
    unfolding partner followers_trimmed relisted
    trim-partner x l a b e da =
        bool-ext _ _
        (λ h. and_i _ _ (trim-fewer x b (and_l _ _ h)) (and_r _ _ h))
        (λ h. and_i _ _ (trim-keeps x l a b e da (and_l _ _ h) (and_r _ _ h)) (and_r _ _ h))

    -- so that each still has one where it had one,
    pub trim-one : (x l a : ℕ) → M.leader x ≡ suc l → M.domain l a ≡ true
        → count (M.size x) (partner M l x a) ≡ 1
        → count (M.size x) (partner (followers_trimmed M) l x a) ≡ 1
    trim-one x l a e da h = count-cong (M.size x) _ _ (λ b _. trim-partner x l a b e da) ∙ h

    -- and each value that stays in a follower's domain is the partner of one.
    pub trim-trims : (x l b : ℕ) → M.leader x ≡ suc l → (followers_trimmed M).domain x b ≡ true
        → some (M.size l) (partner (followers_trimmed M) x l b) ≡ true
    unfolding partner followers_trimmed relisted
    trim-trims x l b e h =
        trimmed-e M x l b (sym (trim-led x l b e) ∙ h)
        (λ a da ba. some-i (M.size l) _ a (T.values_in l a da) (and_i _ _ (trim-free l a (free-i M l (T.leaders_free x l e).1) ∙ da) ba))

  -- Where every follower's domain is trimmed already, nothing changes.
  pub trim_same : ((x l b : ℕ) → M.leader x ≡ suc l → M.domain x b ≡ true → some (M.size l) (partner M x l b) ≡ true) → followers_trimmed M ≡ M
  unfolding followers_trimmed relisted
  trim_same h =
      network-ext (followers_trimmed M) M refl (λ x. refl)
      (λ x a. free-or-led M x (trim-free x a)
      (λ l e. trim-led x l a e ∙ bool-ext _ _ (trimmed-domain M x l a) (λ d. unfold trimmed in and_i _ _ d (h x l a e d))))
      (λ x. refl) (λ x y. refl) (λ x y a b. refl)

  pub trim-none : ((x : ℕ) → M.leader x ≡ 0) → followers_trimmed M ≡ M
  trim-none h = trim_same (λ x l b e d. clash (free-i M x (h x)) (led-not-free M x l e))

  -- "Builds are the same as before": a solution has at each follower the partner of its leader's value.
  pub trim-solves : Sound (followers_trimmed M) → (f : ℕ → ℕ) → solves (followers_trimmed M) f ≡ solves M f
  unfolding followers_trimmed relisted trimmed partner
  trim-solves S f =
      bool-ext _ _
      (λ h. solves-i M f (λ x l. trim-fewer x (f x) (solves-domain (followers_trimmed M) f h x l)) (solves-pair (followers_trimmed M) f h))
      (λ h. solves-i (followers_trimmed M) f (stays h) (solves-pair M f h))
    where
      stays : solves M f ≡ true → (x : ℕ) → x < M.n → (followers_trimmed M).domain x (f x) ≡ true
      stays h x lx =
          free-or-led M x
          (λ t. trim-free x (f x) t ∙ solves-domain M f h x lx)
          (λ l e.
          let ll = leader-n (followers_trimmed M) S x l e in
          let dl = solves-domain M f h l ll in
          let fl = free-i M l (S.leader_free x l e).1 in
          let at = S.domain_in l (f l) (trim-free l (f l) fl ∙ dl) in
          trim-led x l (f x) e
          ∙ and_i _ _ (solves-domain M f h x lx)
          (some-i (M.size l) _ (f l) at (and_i _ _ dl (solves-pair M f h x l lx ll (S.follower_stated x l e)))))

-- Shorter domains of free variables, with the followers' trimmed, leave a sound network sound.
module _ (N : Network) (S : Sound N) (D : ℕ → ℕ → Bool) (fewer : (x a : ℕ) → D x a ≡ true → N.domain x a ≡ true)
    (led : (x l a : ℕ) → N.leader x ≡ suc l → D x a ≡ N.domain x a) where
  pub relisted-trimmable : Trimmable (relisted N D)
  unfolding relisted
  relisted-trimmable =
      record { values_in = λ x a h. S.domain_in x a (fewer x a h); pairs_alike = S.allows_sym; leaders_free = S.leader_free }

  pub relisted-bounded : (m w : ℕ) → N.n ≤ m → N.n ≤ w → ((x : ℕ) → N.size x ≤ w) → Bounded m w (relisted N D)
  unfolding relisted
  relisted-bounded m w held told within =
      let B = Sound→Bounded m w N S held told within in
      record {
        size_bound = B.size_bound;
        leader_bound = B.leader_bound;
        domain_bound = λ x a d. B.domain_bound x a (fewer x a d);
        stated_bound = B.stated_bound;
        allows_bound = B.allows_bound;
      }

  same-partners : (x l a : ℕ) → N.leader x ≡ suc l → count (N.size x) (partner (relisted N D) l x a) ≡ count (N.size x) (partner N l x a)
  unfolding relisted partner
  same-partners x l a e = count-cong (N.size x) _ _ (λ b _. ap (λ (d : Bool). and d (N.allows l x a b)) (led x l b e))

  pub relisted-sound : Sound (followers_trimmed (relisted N D))
  unfolding followers_trimmed relisted
  relisted-sound =
      record {
        some_variable = S.some_variable;
        sizes = S.sizes;
        size_past = S.size_past;
        domain_in = λ x a h. relisted-trimmable.values_in x a (trim-fewer (relisted N D) x a h);
        leader_past = S.leader_past;
        stated_in = S.stated_in;
        no_self = S.no_self;
        stated_sym = S.stated_sym;
        allows_stated = S.allows_stated;
        allows_in = S.allows_in;
        allows_sym = S.allows_sym;
        leader_free = S.leader_free;
        follower_stated = S.follower_stated;
        follower_only = S.follower_only;
        follower_one = λ x l a e h.
            let d = trim-fewer (relisted N D) l a h in
            trim-one (relisted N D) relisted-trimmable x l a e d (same-partners x l a e ∙ S.follower_one x l a e (fewer l a d));
        follower_trimmed = λ x l b e h. trim-trims (relisted N D) relisted-trimmable x l b e h;
      }

  -- A free variable has the values given to it,
  pub relisted-free : (x a : ℕ) → free N x ≡ true → (followers_trimmed (relisted N D)).domain x a ≡ D x a
  unfolding relisted free
  relisted-free x a t = trim-free (relisted N D) x a t

  -- "A value stays in a follower's list exactly when it is the partner of a value in the leader's list",
  pub relisted-trims : (x l b : ℕ) → N.leader x ≡ suc l
      → ((followers_trimmed (relisted N D)).domain x b ≡ true)
      ↔ ((N.domain x b ≡ true) × ((a : ℕ) × ((followers_trimmed (relisted N D)).domain l a ≡ true) × (N.allows l x a b ≡ true)))
  unfolding relisted free
  relisted-trims x l b e =
      let M = relisted N D in
      let l_free = free-i N l (S.leader_free x l e).1 in (
        λ h. (
          fewer x b (trim-fewer M x b h),
          trimmed-e M x l b (sym (trim-led M x l b e) ∙ h) (λ a da ba. (a, trim-free M l a l_free ∙ da, S.allows_sym l x a b ∙ ba)),
        ),
        λ h. let p = h.1 in
            trim-keeps M relisted-trimmable x l p.0 b e (sym (trim-free M l p.0 l_free) ∙ p.1) (led x l b e ∙ h.0) p.2,
      )

  -- and the followers of a leader that keeps its domain keep theirs.
  pub relisted-rest : (x l a : ℕ) → N.leader x ≡ suc l → ((b : ℕ) → D l b ≡ N.domain l b)
      → (followers_trimmed (relisted N D)).domain x a ≡ N.domain x a
  unfolding relisted trimmed partner
  relisted-rest x l a e same =
      trim-led (relisted N D) x l a e
      ∙ bool-ext _ _
      (λ t. fewer x a (and_l _ _ t))
      (λ t. and_i _ _ (led x l a e ∙ t)
      (some-cong (N.size l) _ _ (λ b _. ap (λ (v : Bool). and v (N.allows x l a b)) (same b)) ∙ S.follower_trimmed x l a e t))

-- Nothing else that is asked of a network changes: followers' domains are no part of it.
module _ (M : Network) where
  same_if : {A : Type 0} (b : Bool) (x y z : A) → (b ≡ false → y ≡ z) → if b x y ≡ if b x z
  same_if b x y z h =
      by_cases b
      (λ t. if-true b x y t ∙ sym (if-true b x z t))
      (λ t. if-false b x y t ∙ (h t ∙ sym (if-false b x z t)))

  trim-functional : (i j : ℕ) → free M i ≡ true → free M j ≡ true → functional (followers_trimmed M) i j ≡ functional M i j
  unfolding functional partner followers_trimmed relisted
  trim-functional i j ti tj =
      every-cong (M.size i) _ _ (λ a _.
      ap₂ implies (trim-free M i a ti)
      (ap (λ (k : ℕ). leb k 1) (count-cong (M.size j) _ _ (λ b _. ap (λ (d : Bool). and d (M.allows i j a b)) (trim-free M j b tj)))))

  -- The numbers that refuse a step,
  pub trim-refusal : (l f : ℕ) → refusal (followers_trimmed M) l f ≡ refusal M l f
  unfolding refusal outside free followers_trimmed relisted
  trim-refusal l f =
      same_if _ _ _ _ (λ _.
      same_if _ _ _ _ (λ live.
      same_if _ _ _ _ (λ _.
      let free-l : free M (pred l) ≡ true = not-false-e _ (or-false-l _ _ (or-false-r _ _ live)) in
      let free-f : free M (pred f) ≡ true = not-false-e _ (or-false-r _ _ (or-false-r _ _ live)) in
      ap (λ (b : Bool). if (not b) 13 0) (trim-functional (pred l) (pred f) free-l free-f))))

  pub trim-legal : (i j : ℕ) → legal (followers_trimmed M) i j ≡ legal M i j
  unfolding legal
  trim-legal i j = ap (λ (k : ℕ). eqb k 0) (trim-refusal (suc i) (suc j))

  -- the allowed choices,
  pub trim-allowed : (f : ℕ → ℕ) → allowed_choice (followers_trimmed M) f ≡ allowed_choice M f
  unfolding allowed_choice choice_in_domains choice_pairs_allow followers_trimmed relisted free
  trim-allowed f =
      ap (λ (b : Bool). and b (choice_pairs_allow M f))
      (every-cong M.n _ _ (λ i _. by_cases (free M i)
      (λ t. ap (implies (free M i)) (trim-free M i (f i) t))
      (λ t. implies-false _ _ t ∙ sym (implies-false _ _ t))))

  -- and the verdict.
  pub trim-verdict : verdict (followers_trimmed M) ≡ verdict M
  unfolding verdict exhausted decided free followers_trimmed relisted
  trim-verdict =
      ap (λ (b : Bool). if b NONE (if (decided M) BUILT OPEN))
      (some-cong M.n _ _ (λ i _. and-cong _ _ _ (λ t. ap not (some-cong (M.size i) _ _ (λ a _. trim-free M i a t)))))
