-- The tests on a head and rows together are the test of soundness: to the facts of a sound network and back.
use mathlib.Core.Bool.{true, false}
use mathlib.Core.List.{List, []}
use mathlib.Core.Path.{◌≡◌, refl, sym, ap, ◌∙◌}
use Prim.Native.Nat.{ℕ, suc, pred, ◌+◌, ◌*◌, ◌^◌, ◌≤◌, ◌<◌}
use native.Mathlib.Omega.{arith}
use lib.Dec.{eqb, ltb}
use lib.ListN.{get_or}
use borrow.Author.Tests.{lt-ltb, le-leb, eq-eqb, ne_eqb, ltb-true, ltb-false, leb-true, eqb-true, eqb-false}
use Rattle.bounded.specs.Bool.{and, not}
use Rattle.bounded.specs.Fold.{some, count}
use Rattle.bounded.proofs.Array.{array-past}
use Rattle.bounded.proofs.Bool.{by_cases, clash, bool-ext, not-true→false, and_i, and_l, and_r, implies-i, implies-e, not-i, not-e, if-true, if-false}
use Rattle.bounded.proofs.Fold.{every-i, every-e, some-i, some-e, count-widen}
use Rattle.words.specs.Word.{width, has, word}
use Rattle.words.proofs.Laws.{has_word, has-zero, is_word, word-widen, empty}
use Rattle.network.specs.Network.{partner}
use Rattle.network.specs.Sound.{Sound}
use Rattle.pairs.specs.Pairs.{variables, slot, row_at, allows_of, partners_of, partners_at, partners_within}
use Rattle.pairs.proofs.Places.{placed, every-place, slot-before, slot-after}
use Rattle.pairs.proofs.Laws.{allows-up, allows-inside, allows_apart, allows-alike}
use Rattle.head.specs.declared.Head.{Head}
use Rattle.head.specs.Held.{values_at_most, HeadShaped, held, sound_in}
use Rattle.head.proofs.Held.{held-bounded, held-sound, held-n, held-size, sound-held}
use Rattle.soundness_head.specs.Fits.{size_fits, sizes_all_fit, within, domains_fit, stated_with, variable_fits, pairs_fit, head_fits}
use Rattle.soundness_head.proofs.Tests.{size-e, size-past-e, size-le}
use Rattle.soundness_rows.specs.Fits.{past_fits, constraint_fits, pair_rows_fit, lower_rows_fit, rows_fit}
use Rattle.soundness.specs.Parts.{trimmed_to, follower_fits, free_or_fits, followers_fit, parts_fit}
use Rattle.soundness.proofs.Joins.{join-i, join-e, join-empty-e, join-empty-i}

-- A word within k has its members below k.
within-e : (x k v : ℕ) → v < width → within width x k ≡ true → has x v ≡ true → v < k
unfolding within
within-e x k v b h m = ltb-true _ _ (implies-e _ _ (every-e width _ h v b) m)

within-i : (x k : ℕ) → ((v : ℕ) → v < width → has x v ≡ true → v < k) → within width x k ≡ true
unfolding within
within-i x k h = every-i width _ (λ v b. implies-i _ _ (λ m. lt-ltb _ _ (h v b m)))

module _ (h : Head) (A : HeadShaped h) where
  -- ---- from the tests to the facts: the head, whatever the rows are

  domain-e : domains_fit h.sizes h.domains ≡ true → (i a : ℕ) → has (get_or h.domains i 0) a ≡ true → a < get_or h.sizes i 0
  unfolding domains_fit held
  domain-e t i a d =
      let b = (held-bounded h [] A).domain_bound i a d in
      within-e _ _ a b.1 (every-e variables _ t i b.0) d

  module _ (P : pairs_fit h.n h.stated ≡ true) where
    below-e : (i j : ℕ) → has (get_or h.stated i 0) j ≡ true → variable_fits h.n h.stated i ≡ true
        → and (within width (get_or h.stated i 0) h.n) (and (not (has (get_or h.stated i 0) i)) (eqb (get_or h.stated i 0) (stated_with h.stated i))) ≡ true
    unfolding variable_fits
    below-e i j s t =
        by_cases (ltb i h.n)
        (λ c. sym (if-true _ _ _ c) ∙ t)
        (λ c. let e : get_or h.stated i 0 ≡ 0 = eqb-true _ _ (sym (if-false _ _ _ c) ∙ t) in clash s (rw e (has-zero j)))

    -- What is stated of i: the other is below n and not i, and says the same.
    stated-e : h.n ≤ variables → (i j : ℕ) → has (get_or h.stated i 0) j ≡ true → (j < h.n) × (i ≡ j → ⊥) × (has (get_or h.stated j 0) i ≡ true)
    unfolding pairs_fit stated_with held
    stated-e m i j s =
        let b = (held-bounded h [] A).stated_bound i j s in
        let t = below-e i j s (every-e variables _ P i b.0) in
        let rest = and_r _ _ t in
        let l : j < h.n = within-e _ _ j b.1 (and_l _ _ t) s in (
          l,
          (λ e. clash (rw (← e) at s) (not-e _ (and_l _ _ rest))),
          sym (has_word variables _ j (omega arith)) ∙ ap (λ (x : ℕ). has x j) (sym (eqb-true _ _ (and_r _ _ rest))) ∙ s,
        )

    -- No variable is stated with itself.
    pub self-e : h.n ≤ variables → (i : ℕ) → has (get_or h.stated i 0) i ≡ false
    self-e m i = not-true→false _ (λ s. (stated-e m i i s).1 refl)

  module _ (rows : List ℕ) where
    -- ---- the rows

    module _ (m : h.n ≤ variables) (P : pairs_fit h.n h.stated ≡ true) (R : rows_fit width h.n h.sizes h.stated rows ≡ true) where
      -- A row belongs to a pair below n,
      upper-e : (i j a b : ℕ) → i < j → j < variables → a < width → b < width → has (get_or rows (slot i j * width + a) 0) b ≡ true → j < h.n
      unfolding rows_fit past_fits
      upper-e i j a b l k la lb t =
          by_cases (ltb j h.n)
          (λ u. ltb-true _ _ u)
          (λ u.
          let past = slot-after i j h.n l (ltb-false _ _ u) k in
          let room = (placed i j l k).slot_lt in
          clash t (join-empty-e width rows (slot 0 h.n * width) _ (and_l _ _ R) (slot i j * width + a) b (omega arith) (omega arith) lb))

      -- and to a stated one, and lies within the sizes.
      row-e : (i j a b : ℕ) → i < j → j < variables → a < width → b < width → has (get_or rows (slot i j * width + a) 0) b ≡ true
          → (has (get_or h.stated j 0) i ≡ true) × (a < get_or h.sizes i 0) × (b < get_or h.sizes j 0)
      unfolding rows_fit lower_rows_fit pair_rows_fit constraint_fits
      row-e i j a b l k la lb t =
          let pair = every-e j _ (every-e h.n _ (and_r _ _ R) j (upper-e i j a b l k la lb t)) i l in
          let at = slot i j * width in
          let size = get_or h.sizes i 0 in
          by_cases (has (get_or h.stated j 0) i)
          (λ s.
          let both = sym (if-true _ _ _ s) ∙ pair in
          by_cases (ltb a size)
          (λ u. let v = ltb-true a size u in (s, v, within-e _ _ b lb (and_r _ _ both) (join-i width rows at size (at + a) b (omega arith) (omega arith) lb t)))
          (λ u. let v = ltb-false a size u in clash t (join-empty-e width rows (at + size) _ (and_l _ _ both) (at + a) b (omega arith) (omega arith) lb)))
          (λ s. clash t (join-empty-e width rows at width (sym (if-false _ _ _ s) ∙ pair) (at + a) b (omega arith) (omega arith) lb))

      allowed-e : (i j a b : ℕ) → allows_of width rows i j a b ≡ true
          → (has (get_or h.stated i 0) j ≡ true) × (a < get_or h.sizes i 0) × (b < get_or h.sizes j 0)
      unfolding row_at
      allowed-e i j a b t =
          let n = allows-inside width rows i j a b t in
          let d = allows_apart width rows i j a b t in
          by_cases (ltb i j)
          (λ u.
          let l = ltb-true i j u in
          let r = row-e i j a b l n.second_in n.value_in n.other_in (sym (allows-up width rows i j a b l n.second_in n.value_in n.other_in) ∙ t) in
          ((stated-e P m j i r.0).2, r.1, r.2))
          (λ u.
          let l : j < i = omega (arith, ltb-false i j u) in
          let r = row-e j i b a l n.first_in n.other_in n.value_in
          (sym (allows-up width rows j i b a l n.first_in n.other_in n.value_in) ∙ sym (allows-alike width rows i j a b) ∙ t) in
          (r.0, r.2, r.1))

    -- ---- the followers

    -- The partners that are counted are those of the network.
    partners-e : (i l a : ℕ) → get_or h.sizes i 0 ≤ values_at_most → ((b : ℕ) → has (get_or h.domains i 0) b ≡ true → b < get_or h.sizes i 0)
        → partners_at width rows l i (get_or h.domains i 0) a ≡ count (get_or h.sizes i 0) (partner (held h rows) l i a)
    unfolding partners_at partner held
    partners-e i l a le d =
        count-widen (get_or h.sizes i 0) width _ (omega arith)
        (λ b m. not-true→false _ (λ t. let x : ⊥ = omega (arith, d b (and_l _ _ t)) in x))

    -- A partner of the leader's list is one of a value in it.
    partners-some : {B : Type 0} (i l b : ℕ) → b < width → has (partners_of width rows l i (get_or h.domains l 0)) b ≡ true
        → ((a : ℕ) → partner (held h rows) i l b a ≡ true → B) → B
    unfolding partners_of partner held
    partners-some i l b k t f =
        some-e width _ (sym (has_word width _ b k) ∙ t)
        (λ a _ m. f a (and_i _ _ (and_l _ _ m) (allows-alike width rows i l b a ∙ and_r _ _ m)))

    partners-i : (i l b a : ℕ) → b < width → a < width → partner (held h rows) i l b a ≡ true
        → has (partners_of width rows l i (get_or h.domains l 0)) b ≡ true
    unfolding partners_of partner held
    partners-i i l b a k m t =
        has_word width _ b k ∙ some-i width _ a m (and_i _ _ (and_l _ _ t) (sym (allows-alike width rows i l b a) ∙ and_r _ _ t))

    module _ (F : followers_fit h rows ≡ true) where
      led-e : (i l : ℕ) → get_or h.leaders i 0 ≡ suc l → follower_fits h.n h.domains h.leaders rows i (get_or h.stated i 0) l ≡ true
      unfolding followers_fit free_or_fits
      led-e i l e =
          by_cases (ltb i variables)
          (λ t.
          rw (let p : pred (get_or h.leaders i 0) ≡ l = omega arith in p)
          at (implies-e _ _ (every-e variables _ F i (ltb-true _ _ t)) (not-i _ (ne_eqb (get_or h.leaders i 0) 0 (λ q. let x : ⊥ = omega arith in x)))))
          (λ t. absurd (let x : ⊥ = omega (arith, array-past variables (2 ^ 8) h.leaders A.leaders_array i (ltb-false _ _ t)) in x))

      follower-e : (i l : ℕ) → get_or h.leaders i 0 ≡ suc l
          → (l < h.n) × (get_or h.leaders l 0 ≡ 0) × (get_or h.stated i 0 ≡ word width (λ (u : ℕ). eqb u l))
          × (partners_within width rows l i (get_or h.domains l 0) (get_or h.domains i 0) 1 1 ≡ true)
          × (trimmed_to rows i l (get_or h.domains i 0) (get_or h.domains l 0) ≡ true)
      unfolding follower_fits
      follower-e i l e =
          let t = led-e i l e in
          let u = and_r _ _ t in
          let v = and_r _ _ u in
          let w = and_r _ _ v in
          (ltb-true _ _ (and_l _ _ t), eqb-true _ _ (and_l _ _ u), eqb-true _ _ (and_l _ _ v), and_l _ _ w, and_r _ _ w)

      tied-e : (i l : ℕ) → h.n ≤ variables → get_or h.leaders i 0 ≡ suc l → has (get_or h.stated i 0) l ≡ true
      tied-e i l b e =
          let f = follower-e i l e in
          ap (λ (x : ℕ). has x l) f.2 ∙ has_word width _ l (omega (arith, f.0)) ∙ eq-eqb l l refl

      only-e : (i l k : ℕ) → get_or h.leaders i 0 ≡ suc l → has (get_or h.stated i 0) k ≡ true → k ≡ l
      unfolding held
      only-e i l k e s =
          eqb-true _ _ (sym (has_word width _ k ((held-bounded h rows A).stated_bound i k s).1) ∙ ap (λ (x : ℕ). has x k) (sym (follower-e i l e).2) ∙ s)

      one-e : (i l a : ℕ) → get_or h.sizes i 0 ≤ values_at_most → domains_fit h.sizes h.domains ≡ true → get_or h.leaders i 0 ≡ suc l
          → has (get_or h.domains l 0) a ≡ true → count (get_or h.sizes i 0) (partner (held h rows) l i a) ≡ 1
      unfolding partners_within held
      one-e i l a le D e d =
          let t = implies-e _ _ (every-e width _ (follower-e i l e).3 a ((held-bounded h rows A).domain_bound l a d).1) d in
          let least : 1 ≤ partners_at width rows l i (get_or h.domains i 0) a = leb-true _ _ (and_l _ _ t) in
          let most : partners_at width rows l i (get_or h.domains i 0) a ≤ 1 = leb-true _ _ (and_r _ _ t) in
          omega (arith, partners-e i l a le (domain-e D i))

      -- A value of the follower is the partner of one of the leader.
      trimmed-e : (i l b : ℕ) → domains_fit h.sizes h.domains ≡ true → get_or h.leaders i 0 ≡ suc l
          → has (get_or h.domains i 0) b ≡ true → some (get_or h.sizes l 0) (partner (held h rows) i l b) ≡ true
      unfolding trimmed_to partner held
      trimmed-e i l b D e d =
          let k = ((held-bounded h rows A).domain_bound i b d).1 in
          partners-some i l b k (implies-e _ _ (every-e width _ (follower-e i l e).4 b k) d) (λ a m.
          some-i (get_or h.sizes l 0) _ a (domain-e D l a (and_l _ _ m)) m)

    fit-sound : parts_fit h rows ≡ true → sound_in h rows ≡ true
    unfolding parts_fit head_fits held
    fit-sound t =
        let h1 = and_l _ _ t in
        let h2 = and_r _ _ h1 in
        let h3 = and_r _ _ h2 in
        let h4 = and_r _ _ h3 in
        let S = and_l _ _ h3 in
        let D = and_l _ _ h4 in
        let P = and_r _ _ h4 in
        let R = and_l _ _ (and_r _ _ t) in
        let F = and_r _ _ (and_r _ _ t) in
        let some : 1 ≤ h.n = leb-true _ _ (and_l _ _ h1) in
        let most : h.n ≤ variables = leb-true _ _ (and_l _ _ h2) in
        let stated-n : (i j : ℕ) → has (get_or h.stated i 0) j ≡ true → (i < h.n) × (j < h.n) =
        λ i j s. let t = stated-e P most i j s in ((stated-e P most j i t.2).0, t.0) in
        sound-held h rows
        (record {
          some_variable = some;
          sizes = λ i l. (size-e h A S i l (omega arith)).0;
          size_past = size-past-e h A S;
          domain_in = domain-e D;
          leader_past = λ i m. by_cases (eqb (get_or h.leaders i 0) 0)
              (λ t. eqb-true _ _ t)
              (λ t. let led : get_or h.leaders i 0 ≡ 0 → ⊥ = eqb-false _ _ t in
              absurd (let x : ⊥ = omega (arith, stated-n i _ (tied-e F i (pred (get_or h.leaders i 0)) most (omega arith))) in x));
          stated_in = stated-n;
          no_self = self-e P most;
          stated_sym = λ i j. bool-ext _ _ (λ s. (stated-e P most i j s).2) (λ s. (stated-e P most j i s).2);
          allows_stated = λ i j a b r. (allowed-e most P R i j a b r).0;
          allows_in = λ i j a b r. let t = allowed-e most P R i j a b r in (t.1, t.2);
          allows_sym = allows-alike width rows;
          leader_free = λ i l e. let f = follower-e F i l e in (f.0, f.1);
          follower_stated = λ i l e. tied-e F i l most e;
          follower_only = only-e F;
          follower_one = λ i l a e. one-e F i l a (size-le h A most S i) D e;
          follower_trimmed = λ i l b. trimmed-e F i l b D;
        })
        most
        (size-le h A most S)

    -- ---- from the facts to the tests

    module _ (S : Sound (held h rows)) (m : h.n ≤ variables) (le : (i : ℕ) → get_or h.sizes i 0 ≤ values_at_most) where
      sizes-i : sizes_all_fit h.n h.sizes ≡ true
      unfolding sizes_all_fit size_fits held
      sizes-i = every-i variables _ λ i _. by_cases (ltb i h.n)
          (λ c. if-true _ _ _ c ∙ and_i _ _ (le-leb _ _ (S.sizes i (ltb-true _ _ c))) (le-leb _ _ (le i)))
          (λ c. if-false _ _ _ c ∙ eq-eqb _ _ (S.size_past i (ltb-false _ _ c)))

      domains-i : domains_fit h.sizes h.domains ≡ true
      unfolding domains_fit held
      domains-i = every-i variables _ λ i _. within-i _ _ (λ a _ d. S.domain_in i a d)

      pairs-i : pairs_fit h.n h.stated ≡ true
      unfolding pairs_fit variable_fits stated_with held
      pairs-i = every-i variables _ λ i _. by_cases (ltb i h.n)
          (λ c. if-true _ _ _ c
          ∙ and_i _ _ (within-i _ _ (λ v _ s. (S.stated_in i v s).1))
          (and_i _ _ (not-i _ (S.no_self i)) (eq-eqb _ _ (told i))))
          (λ c. if-false _ _ _ c
          ∙ eq-eqb _ _ (empty width _ (A.stated_array.element_lt i)
          (λ v _. not-true→false _ (λ s. let x : ⊥ = omega (arith, ltb-false i h.n c, S.stated_in i v s) in x))))
        where
          told : (i : ℕ) → get_or h.stated i 0 ≡ stated_with h.stated i
          told i =
              is_word width _ _ (A.stated_array.element_lt i) (λ j _. S.stated_sym i j)
              ∙ word-widen variables width _ (omega arith) (λ v l _. rw (array-past variables (2 ^ width) h.stated A.stated_array v l) (has-zero i))

      past-i : past_fits width h.n rows ≡ true
      unfolding past_fits row_at held
      past-i = join-empty-i width rows (slot 0 h.n * width) _ (λ k v l b.
          every-place width (λ (p : ℕ). slot 0 h.n * width ≤ p → has (get_or rows p 0) v ≡ false)
          (λ i j a li lj la q. not-true→false _ (λ t.
          let s = S.stated_in i j (S.allows_stated i j a v (allows-up width rows i j a v li lj la b ∙ t)) in
          let x : ⊥ = omega (arith, slot-before i j h.n li s.1 m) in x))
          (slot 0 h.n * width + k) (omega arith) (omega arith))

      rows-i : rows_fit width h.n h.sizes h.stated rows ≡ true
      unfolding rows_fit lower_rows_fit pair_rows_fit constraint_fits held row_at
      rows-i = and_i _ _ past-i (every-i h.n _ λ j lj. every-i j _ λ i li.
          let at = slot i j * width in
          let size = get_or h.sizes i 0 in
          let row : (a b : ℕ) → a < width → b < width → has (get_or rows (slot i j * width + a) 0) b ≡ true → allows_of width rows i j a b ≡ true =
          λ a b la lb t. allows-up width rows i j a b li (omega arith) la lb ∙ t in
          by_cases (has (get_or h.stated j 0) i)
          (λ s. if-true _ _ _ s ∙ and_i _ _
          (join-empty-i width rows (at + size) _ (λ k v l b. not-true→false _ (λ t.
          let e : at + size + k ≡ at + (size + k) = omega arith in
          let x : ⊥ = omega (arith, S.allows_in i j (size + k) v (row (size + k) v (omega arith) b (rw e at t))) in x)))
          (within-i _ _ (λ v b t. join-e width rows at size v b t (λ k l u. (S.allows_in i j k v (row k v (omega (arith, le i)) b u)).1))))
          (λ s. if-false _ _ _ s ∙ join-empty-i width rows at width (λ k v l b. not-true→false _ (λ t.
          clash (sym (S.stated_sym i j) ∙ S.allows_stated i j k v (row k v l b t)) s))))

      follower-i : (i l : ℕ) → get_or h.leaders i 0 ≡ suc l → follower_fits h.n h.domains h.leaders rows i (get_or h.stated i 0) l ≡ true
      unfolding follower_fits trimmed_to partners_within held
      follower-i i l e =
          and_i _ _ (lt-ltb _ _ (S.leader_free i l e).0)
          (and_i _ _ (eq-eqb _ _ (S.leader_free i l e).1)
          (and_i _ _ (eq-eqb _ _ (is_word width _ _ (A.stated_array.element_lt i)
          (λ k _. bool-ext _ _ (λ s. eq-eqb _ _ (S.follower_only i l k e s)) (λ q. rw (eqb-true k l q) (S.follower_stated i l e)))))
          (and_i _ _ (every-i width _ λ a la. implies-i _ _ λ d.
          let k = partners_at width rows l i (get_or h.domains i 0) a in
          let one : k ≡ 1 = partners-e i l a (le i) (S.domain_in i) ∙ S.follower_one i l a e d in
          and_i _ _ (le-leb 1 k (omega arith)) (le-leb k 1 (omega arith)))
          (every-i width _ λ b lb. implies-i _ _ λ d. some-e (get_or h.sizes l 0) _ (S.follower_trimmed i l b e d)
          (λ a la m. partners-i i l b a lb (omega (arith, le l)) m)))))

      followers-i : followers_fit h rows ≡ true
      unfolding followers_fit free_or_fits
      followers-i = every-i variables _ λ i li. implies-i _ _ λ f.
          let led : get_or h.leaders i 0 ≡ 0 → ⊥ = eqb-false _ _ (not-e _ f) in
          follower-i i (pred (get_or h.leaders i 0)) (omega arith)

      head-i : head_fits h ≡ true
      unfolding head_fits held
      head-i = and_i _ _ (le-leb _ _ S.some_variable) (and_i _ _ (le-leb _ _ m) (and_i _ _ sizes-i (and_i _ _ domains-i pairs-i)))

    sound-fit : sound_in h rows ≡ true → parts_fit h rows ≡ true
    unfolding parts_fit
    sound-fit t =
        let S = held-sound h rows A t in
        let m = held-n h rows t in
        let le = held-size h rows A t in
        and_i _ _ (head-i S m le) (and_i _ _ (rows-i S m le) (followers-i S m le))

    -- The whole test of a head and rows is that of their network.
    pub parts-sound : parts_fit h rows ≡ sound_in h rows
    parts-sound = bool-ext _ _ fit-sound sound-fit

-- What the later tests need of a head that has passed.
pub record Fit (h : Head) : Type 0 where
  pub some_variable : 1 ≤ h.n
  pub most_variables : h.n ≤ variables
  pub most_values : (i : ℕ) → get_or h.sizes i 0 ≤ values_at_most
  pub no_self : (i : ℕ) → has (get_or h.stated i 0) i ≡ false

pub head-fit : (h : Head) → HeadShaped h → head_fits h ≡ true → Fit h
unfolding head_fits
head-fit h A t =
    let u = and_r _ _ t in
    let v = and_r _ _ u in
    let m : h.n ≤ variables = leb-true _ _ (and_l _ _ u) in
    record {
      some_variable = leb-true _ _ (and_l _ _ t);
      most_variables = m;
      most_values = size-le h A m (and_l _ _ v);
      no_self = self-e h A (and_r _ _ (and_r _ _ v)) m;
    }
