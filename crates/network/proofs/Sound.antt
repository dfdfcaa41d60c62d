-- The test of soundness and the facts are the same, and small facts of sound networks.
use mathlib.Core.Bool.{true, false}
use mathlib.Core.Logic.{◌↔◌}
use mathlib.Core.Path.{◌≡◌, refl, sym, ◌∙◌}
use Prim.Native.Nat.{ℕ, suc, pred, ◌≤◌, ◌<◌}
use native.Mathlib.Omega.{arith}
use lib.Dec.{ltb}
use borrow.Author.Tests.{lt-ltb, le-ltb, le-leb, eq-eqb, ne_eqb, ltb-true, ltb-false, leb-true, eqb-true, eqb-false}
use Rattle.bounded.specs.Fold.{some, count}
use Rattle.bounded.proofs.Bool.{by_cases, clash, bool-ext, not-true→false, and_i, and_l, and_r, implies-i, implies-e, not-i, not-e, if-true, if-false}
use Rattle.bounded.proofs.Fold.{every-i, every-e, some-i, some-e, count-some, count-two}
use Rattle.network.specs.Network.{Network, free, partner}
use Rattle.network.specs.Sound.{Sound, Bounded, count_sound, sizes_sound, domains_sound, pairs_sound}
use Rattle.network.specs.Sound.{rows_sound, leads, tied_to, determines, trimmed_to, follower_sound, followers_sound, sound}

-- A variable is free exactly when it has no leader.
pub free-e : (N : Network) (i : ℕ) → free N i ≡ true → N.leader i ≡ 0
unfolding free
free-e N i h = eqb-true _ _ h

pub free-i : (N : Network) (i : ℕ) → N.leader i ≡ 0 → free N i ≡ true
unfolding free
free-i N i h = eq-eqb _ _ h

pub led-not-free : (N : Network) (i l : ℕ) → N.leader i ≡ suc l → free N i ≡ false
unfolding free
led-not-free N i l h = ne_eqb (N.leader i) 0 (λ e. let x : ⊥ = omega arith in x)

pub led-pred : (N : Network) (i l : ℕ) → N.leader i ≡ suc l → pred (N.leader i) ≡ l
led-pred N i l h = omega arith

-- A variable is free or has a leader.
pub free-or-led : {A : Type 0} (N : Network) (i : ℕ) → (free N i ≡ true → A) → ((l : ℕ) → N.leader i ≡ suc l → A) → A
unfolding free
free-or-led N i f g = by_cases (free N i) f (λ t. g (pred (N.leader i)) (let d : N.leader i ≡ 0 → ⊥ = eqb-false _ _ t in omega arith))

-- Facts of a sound network.
module _ (N : Network) (S : Sound N) where
  -- What holds a value in its domain is below n.
  pub domain-n : (i a : ℕ) → N.domain i a ≡ true → i < N.n
  domain-n i a h =
      by_cases (ltb i N.n)
      (λ t. ltb-true _ _ t)
      (λ t. absurd (let x : ⊥ = omega (arith, S.domain_in i a h, S.size_past i (ltb-false _ _ t)) in x))

  pub stated-distinct : (i j : ℕ) → N.stated i j ≡ true → i ≡ j → ⊥
  stated-distinct i j s e = clash s (rw e (S.no_self j))

  pub follower-n : (i l : ℕ) → N.leader i ≡ suc l → i < N.n
  follower-n i l h = (S.stated_in i l (S.follower_stated i l h)).0

  pub leader-n : (i l : ℕ) → N.leader i ≡ suc l → l < N.n
  leader-n i l h = (S.leader_free i l h).0

  pub leader-is-free : (i l : ℕ) → N.leader i ≡ suc l → free N l ≡ true
  leader-is-free i l h = free-i N l (S.leader_free i l h).1

  pub leader-not-self : (i l : ℕ) → N.leader i ≡ suc l → l ≡ i → ⊥
  leader-not-self i l h e = clash (leader-is-free i l h) (rw e (led-not-free N i l h))

  pub leader-stated : (i l : ℕ) → N.leader i ≡ suc l → N.stated l i ≡ true
  leader-stated i l h = S.stated_sym l i ∙ S.follower_stated i l h

  -- "each value in a leader's list has exactly one allowed partner in each of its followers' lists": there is one,
  pub partner-some : (i l a : ℕ) → N.leader i ≡ suc l → N.domain l a ≡ true → some (N.size i) (partner N l i a) ≡ true
  partner-some i l a e d = count-some (N.size i) _ (omega (arith, S.follower_one i l a e d)) (some-i (N.size i) _)

  -- and there are no two.
  pub partner-only : (i l a b c : ℕ) → N.leader i ≡ suc l → N.domain l a ≡ true → partner N l i a b ≡ true → partner N l i a c ≡ true
      → b ≡ c
  unfolding partner
  partner-only i l a b c e d p q =
      let within : (v : ℕ) → partner N l i a v ≡ true → v < N.size i = λ v t. S.domain_in i v (and_l _ _ t) in
      count-two (N.size i) (partner N l i a) (omega (arith, S.follower_one i l a e d)) b c (within b p) (within c q) p q

  -- "A value stays in a follower's list exactly when it is the partner of a value in the leader's list."
  pub follower-exactly : (i l b : ℕ) → N.leader i ≡ suc l → (N.domain i b ≡ true) ↔ ((a : ℕ) × (N.domain l a ≡ true) × (partner N l i a b ≡ true))
  unfolding partner
  follower-exactly i l b e = (
    λ d. some-e (N.size l) _ (S.follower_trimmed i l b e d) (λ a _ p. (a, and_l _ _ p, and_i _ _ d (S.allows_sym l i a b ∙ and_r _ _ p))),
    λ h. and_l _ _ h.2,
  )

  -- So an empty leader's list leaves its followers' empty.
  pub follower-empty : (i l : ℕ) → N.leader i ≡ suc l → ((a : ℕ) → N.domain l a ≡ false) → (b : ℕ) → N.domain i b ≡ false
  follower-empty i l e h b = not-true→false _ (λ d. let p = (follower-exactly i l b e).0 d in clash p.1 (h p.0))

-- From the test to the facts: what each sentence of the test says, of a network within the bounds.
count-sound-e : (m w k : ℕ) (N : Network) → count_sound m w k N ≡ true → (1 ≤ N.n) × (N.n ≤ m)
unfolding count_sound
count-sound-e m w k N h = (leb-true _ _ (and_l _ _ h), leb-true _ _ (and_r _ _ h))

module _ (m w k : ℕ) (N : Network) (B : Bounded m w N) where
  sizes-sound-e : sizes_sound m w k N ≡ true → (i : ℕ) → i < m → i < N.n → (1 ≤ N.size i) × (N.size i ≤ k)
  unfolding sizes_sound
  sizes-sound-e h i l b =
      let t = sym (if-true _ _ _ (lt-ltb i N.n b)) ∙ every-e _ _ h i l in
      (leb-true _ _ (and_l _ _ t), leb-true _ _ (and_r _ _ t))

  sizes-past-e : sizes_sound m w k N ≡ true → (i : ℕ) → N.n ≤ i → N.size i ≡ 0
  unfolding sizes_sound
  sizes-past-e h i p =
      by_cases (ltb i m)
      (λ t. eqb-true _ _ (sym (if-false _ _ _ (le-ltb i N.n p)) ∙ every-e _ _ h i (ltb-true _ _ t)))
      (λ t. B.size_bound i (ltb-false _ _ t))

  domains-sound-e : domains_sound m w k N ≡ true → (i a : ℕ) → N.domain i a ≡ true → a < N.size i
  unfolding domains_sound
  domains-sound-e h i a d =
      let b = B.domain_bound i a d in
      ltb-true _ _ (implies-e _ _ (every-e _ _ (every-e _ _ h i b.0) a b.1) d)

  pairs-sound-e : pairs_sound m w k N ≡ true → (i j : ℕ) → N.stated i j ≡ true
      → (i < N.n) × (j < N.n) × (i ≡ j → ⊥) × (N.stated j i ≡ true)
  unfolding pairs_sound
  pairs-sound-e h i j s =
      let b = B.stated_bound i j s in
      let t = implies-e _ _ (every-e _ _ (every-e _ _ h i b.0) j b.1) s in
      let below = and_l _ _ t in
      let rest = and_r _ _ t in
      (ltb-true _ _ (and_l _ _ below), ltb-true _ _ (and_r _ _ below), eqb-false _ _ (not-e _ (and_l _ _ rest)), and_r _ _ rest)

  rows-sound-e : rows_sound m w k N ≡ true → (i j a b : ℕ) → N.allows i j a b ≡ true
      → (N.stated i j ≡ true) × (a < N.size i) × (b < N.size j) × (N.allows j i b a ≡ true)
  unfolding rows_sound
  rows-sound-e h i j a b r =
      let c = B.allows_bound i j a b r in
      let t = implies-e _ _ (every-e _ _ (every-e _ _ (every-e _ _ (every-e _ _ h i c.0) j c.1) a c.2) b c.3) r in
      let within = and_l _ _ (and_r _ _ t) in
      (and_l _ _ t, ltb-true _ _ (and_l _ _ within), ltb-true _ _ (and_r _ _ within), and_r _ _ (and_r _ _ t))

  followers-sound-e : followers_sound m w k N ≡ true → (i l : ℕ) → N.leader i ≡ suc l
      → (leads m w k N i l ≡ true) × (tied_to m w k N i l ≡ true) × (determines m w k N i l ≡ true) × (trimmed_to m w k N i l ≡ true)
  unfolding followers_sound follower_sound
  followers-sound-e h i l e =
      by_cases (ltb i m)
      (λ t.
      let r = rw (led-pred N i l e) at (implies-e _ _ (every-e _ _ h i (ltb-true _ _ t)) (not-i _ (led-not-free N i l e))) in
      let rest = and_r _ _ (and_r _ _ r) in
      (and_l _ _ r, and_l _ _ (and_r _ _ r), and_l _ _ rest, and_r _ _ rest))
      (λ t. absurd (let x : ⊥ = omega (arith, B.leader_bound i (ltb-false _ _ t)) in x))

  leads-e : (i l : ℕ) → leads m w k N i l ≡ true → (i < N.n) × (l < N.n) × (N.leader l ≡ 0)
  unfolding leads
  leads-e i l h =
      let rest = and_r _ _ h in
      (ltb-true _ _ (and_l _ _ h), ltb-true _ _ (and_l _ _ rest), free-e N l (and_l _ _ (and_r _ _ rest)))

  tied-e : (i l : ℕ) → tied_to m w k N i l ≡ true → (N.stated i l ≡ true) × ((u : ℕ) → N.stated i u ≡ true → u ≡ l)
  unfolding tied_to
  tied-e i l h = (and_l _ _ h, λ u s. eqb-true _ _ (implies-e _ _ (every-e _ _ (and_r _ _ h) u (B.stated_bound i u s).1) s))

  determines-e : (i l : ℕ) → determines m w k N i l ≡ true → (a : ℕ) → N.domain l a ≡ true → count (N.size i) (partner N l i a) ≡ 1
  unfolding determines
  determines-e i l h a d = eqb-true _ _ (implies-e _ _ (every-e _ _ h a (B.domain_bound l a d).1) d)

  trimmed-to-e : (i l : ℕ) → trimmed_to m w k N i l ≡ true → (b : ℕ) → N.domain i b ≡ true → some (N.size l) (partner N i l b) ≡ true
  unfolding trimmed_to
  trimmed-to-e i l h b d = implies-e _ _ (every-e _ _ h b (B.domain_bound i b d).1) d

-- The sentences of the test.
record Tested (m w k : ℕ) (N : Network) : Type 0 where
  pub counted : count_sound m w k N ≡ true
  pub sized : sizes_sound m w k N ≡ true
  pub domains : domains_sound m w k N ≡ true
  pub pairs : pairs_sound m w k N ≡ true
  pub rows : rows_sound m w k N ≡ true
  pub followers : followers_sound m w k N ≡ true

tested : (m w k : ℕ) (N : Network) → sound m w k N ≡ true → Tested m w k N
unfolding sound
tested m w k N h =
    let h1 = and_r _ _ h in
    let h2 = and_r _ _ h1 in
    let h3 = and_r _ _ h2 in
    let h4 = and_r _ _ h3 in
    record {
      counted = and_l _ _ h;
      sized = and_l _ _ h1;
      domains = and_l _ _ h2;
      pairs = and_l _ _ h3;
      rows = and_l _ _ h4;
      followers = and_r _ _ h4;
    }

pub sound→Sound : (m w k : ℕ) (N : Network) → Bounded m w N → sound m w k N ≡ true → Sound N
sound→Sound m w k N B s =
    let T = tested m w k N s in
    let number = count-sound-e m w k N T.counted in
    let pairs = pairs-sound-e m w k N B T.pairs in
    let rows = rows-sound-e m w k N B T.rows in
    let led = followers-sound-e m w k N B T.followers in
    record {
      some_variable = number.0;
      sizes = λ i l. (sizes-sound-e m w k N B T.sized i (omega arith) l).0;
      size_past = sizes-past-e m w k N B T.sized;
      domain_in = domains-sound-e m w k N B T.domains;
      leader_past = λ i h. free-or-led N i
          (λ t. free-e N i t)
          (λ l e. absurd (let x : ⊥ = omega (arith, (leads-e m w k N B i l (led i l e).0).0) in x));
      stated_in = λ i j h. let p = pairs i j h in (p.0, p.1);
      no_self = λ i. not-true→false (N.stated i i) (λ h. (pairs i i h).2 refl);
      stated_sym = λ i j. bool-ext (N.stated i j) (N.stated j i) (λ h. (pairs i j h).3) (λ h. (pairs j i h).3);
      allows_stated = λ i j a b h. (rows i j a b h).0;
      allows_in = λ i j a b h. let r = rows i j a b h in (r.1, r.2);
      allows_sym = λ i j a b. bool-ext (N.allows i j a b) (N.allows j i b a) (λ h. (rows i j a b h).3) (λ h. (rows j i b a h).3);
      leader_free = λ i l e. let t = leads-e m w k N B i l (led i l e).0 in (t.1, t.2);
      follower_stated = λ i l e. (tied-e m w k N B i l (led i l e).1).0;
      follower_only = λ i l u e. (tied-e m w k N B i l (led i l e).1).1 u;
      follower_one = λ i l a e. determines-e m w k N B i l (led i l e).2 a;
      follower_trimmed = λ i l b e. trimmed-to-e m w k N B i l (led i l e).3 b;
    }

pub sound-n : (m w k : ℕ) (N : Network) → sound m w k N ≡ true → N.n ≤ m
sound-n m w k N s = (count-sound-e m w k N (tested m w k N s).counted).1

pub sound-size : (m w k : ℕ) (N : Network) → Bounded m w N → sound m w k N ≡ true → (i : ℕ) → N.size i ≤ k
sound-size m w k N B s i =
    let T = tested m w k N s in
    by_cases (ltb i N.n)
    (λ t. (sizes-sound-e m w k N B T.sized i (omega (arith, ltb-true i N.n t, sound-n m w k N s)) (ltb-true _ _ t)).1)
    (λ t. omega (arith, sizes-past-e m w k N B T.sized i (ltb-false _ _ t)))

-- A sound network fits arrays that hold its variables, with words that have a bit for each of its variables and values.
pub Sound→Bounded : (m w : ℕ) (N : Network) → Sound N → N.n ≤ m → N.n ≤ w → ((i : ℕ) → N.size i ≤ w) → Bounded m w N
Sound→Bounded m w N S held told within =
    record {
      size_bound = λ i l. S.size_past i (omega arith);
      leader_bound = λ i l. S.leader_past i (omega arith);
      domain_bound = λ i a d. (omega (arith, domain-n N S i a d), omega (arith, S.domain_in i a d, within i));
      stated_bound = λ i j s. omega (arith, S.stated_in i j s);
      allows_bound = λ i j a b r.
          let s = S.stated_in i j (S.allows_stated i j a b r) in
          let v = S.allows_in i j a b r in
          (omega arith, omega arith, omega (arith, within i), omega (arith, within j));
    }

-- From the facts to the test, sentence by sentence.
module _ (m w k : ℕ) (N : Network) (S : Sound N) (below : N.n ≤ m) (within : (i : ℕ) → N.size i ≤ k) where
  count-sound-i : count_sound m w k N ≡ true
  unfolding count_sound
  count-sound-i = and_i _ _ (le-leb _ _ S.some_variable) (le-leb _ _ below)

  sizes-sound-i : sizes_sound m w k N ≡ true
  unfolding sizes_sound
  sizes-sound-i = every-i _ _ λ i _.
      by_cases (ltb i N.n)
      (λ t. if-true _ _ _ t ∙ and_i _ _ (le-leb _ _ (S.sizes i (ltb-true _ _ t))) (le-leb _ _ (within i)))
      (λ t. if-false _ _ _ t ∙ eq-eqb _ _ (S.size_past i (ltb-false _ _ t)))

  domains-sound-i : domains_sound m w k N ≡ true
  unfolding domains_sound
  domains-sound-i = every-i _ _ λ i _. every-i _ _ λ a _. implies-i _ _ λ d. lt-ltb _ _ (S.domain_in i a d)

  pairs-sound-i : pairs_sound m w k N ≡ true
  unfolding pairs_sound
  pairs-sound-i = every-i _ _ λ i _. every-i _ _ λ j _. implies-i _ _ λ s.
      let b = S.stated_in i j s in
      and_i _ _ (and_i _ _ (lt-ltb _ _ b.0) (lt-ltb _ _ b.1))
      (and_i _ _ (not-i _ (ne_eqb _ _ (stated-distinct N S i j s))) (S.stated_sym j i ∙ s))

  rows-sound-i : rows_sound m w k N ≡ true
  unfolding rows_sound
  rows-sound-i = every-i _ _ λ i _. every-i _ _ λ j _. every-i _ _ λ a _. every-i _ _ λ b _. implies-i _ _ λ r.
      let v = S.allows_in i j a b r in
      and_i _ _ (S.allows_stated i j a b r) (and_i _ _ (and_i _ _ (lt-ltb _ _ v.0) (lt-ltb _ _ v.1)) (S.allows_sym j i b a ∙ r))

  leads-i : (i l : ℕ) → N.leader i ≡ suc l → leads m w k N i l ≡ true
  unfolding leads
  leads-i i l e =
      and_i _ _ (lt-ltb _ _ (follower-n N S i l e))
      (and_i _ _ (lt-ltb _ _ (leader-n N S i l e))
      (and_i _ _ (leader-is-free N S i l e) (not-i _ (ne_eqb _ _ (leader-not-self N S i l e)))))

  tied-i : (i l : ℕ) → N.leader i ≡ suc l → tied_to m w k N i l ≡ true
  unfolding tied_to
  tied-i i l e = and_i _ _ (S.follower_stated i l e) (every-i _ _ λ u _. implies-i _ _ λ s. eq-eqb _ _ (S.follower_only i l u e s))

  determines-i : (i l : ℕ) → N.leader i ≡ suc l → determines m w k N i l ≡ true
  unfolding determines
  determines-i i l e = every-i _ _ λ a _. implies-i _ _ λ d. eq-eqb _ _ (S.follower_one i l a e d)

  trimmed-to-i : (i l : ℕ) → N.leader i ≡ suc l → trimmed_to m w k N i l ≡ true
  unfolding trimmed_to
  trimmed-to-i i l e = every-i _ _ λ b _. implies-i _ _ λ d. S.follower_trimmed i l b e d

  followers-sound-i : followers_sound m w k N ≡ true
  unfolding followers_sound follower_sound
  followers-sound-i = every-i _ _ λ i _. implies-i _ _ λ f.
      free-or-led N i
      (λ t. clash t (not-e _ f))
      (λ l e. rw (led-pred N i l e) (and_i _ _ (leads-i i l e) (and_i _ _ (tied-i i l e) (and_i _ _ (determines-i i l e) (trimmed-to-i i l e)))))

  pub Sound→sound : sound m w k N ≡ true
  unfolding sound
  Sound→sound =
      and_i _ _ count-sound-i
      (and_i _ _ sizes-sound-i (and_i _ _ domains-sound-i (and_i _ _ pairs-sound-i (and_i _ _ rows-sound-i followers-sound-i))))
