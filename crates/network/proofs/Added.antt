-- A table added to a network: when it is refused, what it leaves, and that it adds its own constraint to the solutions and nothing else.
use mathlib.Core.Bool.{Bool, true, false}
use mathlib.Core.List.{List}
use mathlib.Core.Logic.Iff
use mathlib.Core.Logic.{◌↔◌}
use mathlib.Core.Path.{◌≡◌, refl, sym, ◌∙◌, ap}
use Prim.Native.Nat.{ℕ, zero, suc, pred, ◌^◌, ◌≤◌, ◌<◌}
use native.Mathlib.Nat.{pow-suc}
use native.Mathlib.Omega.{arith}
use lib.Dec.{eqb, ltb}
use lib.ListN.{length, get_or, get_or-eq_default}
use lib.Pow.{pow_pos}
use borrow.Author.Tests.{eq-eqb, ne_eqb, eqb-true, eqb-false, lt-ltb, ltb-true, ltb-false}
use Rattle.bounded.specs.Bool.{and, or, implies, not}
use Rattle.bounded.specs.Fold.{some, first}
use Rattle.bounded.proofs.Bool.{by_cases, clash, bool-ext, not-true→false, and_i, and_l, and_r, and-cong}
use Rattle.bounded.proofs.Bool.{or_l, or_r, or-false-l, or-false-r, or-false-i, implies-i, implies-e, not-false-e, not-false-i, if-true, if-false}
use Rattle.bounded.proofs.Fold.{is-or-not, every-i, every-e, some-i, some-e, some-cong, count-cong, first_some, first_passes}
use Rattle.words.specs.Word.{has}
use Rattle.words.proofs.Laws.{has-zero, has-below, within}
use Rattle.network.specs.Network.{Network, free, partner, solves}
use Rattle.network.specs.Sound.{Sound, Bounded}
use Rattle.network.specs.Step.{outside, relisted, followers_trimmed}
use Rattle.network.specs.Substitution.{is_pair}
use Rattle.network.specs.Completion.{completed, follow}
use Rattle.network.specs.Lists.{narrowed}
use Rattle.network.specs.Promise.{Keeps}
use Rattle.network.specs.Added.{traced, partner_in, table_allows, meets_table, rows_fit, add_refusal, cut_pair, constrained, allows_partners, added}
use Rattle.network.specs.Added.{Numbered, Fitting, Refuses, Traced, Partner, PartnersAllowed, Adds}
use Rattle.network.proofs.Sound.{led-not-free, led-pred, free-or-led, leader-n, leader-is-free, partner-some, partner-only, Sound→Bounded}
use Rattle.network.proofs.Step.{here, past, never, outside-e, outside-i, both_sides}
use Rattle.network.proofs.Trim.{trim-solves, relisted-free, relisted-trims, relisted-rest}
use Rattle.network.proofs.Completion.{solves-domain, solves-pair, solves-i, completed-keeps, completed-led, completed-only}
use Rattle.network.proofs.SheetOf.{network-ext}
use Rattle.network.proofs.Rules.{same_test}
use Rattle.network.proofs.Lists.{narrowed-i, narrowed-other, narrowed-fewer, narrowed-led, lists-free}

-- ---- pairs

is_pair-i : (p q : ℕ) → is_pair p q p q ≡ true
unfolding is_pair
is_pair-i p q = and_i _ _ (eq-eqb p p refl) (eq-eqb q q refl)

is_pair-e : (p q u v : ℕ) → is_pair p q u v ≡ true → (u ≡ p) × (v ≡ q)
unfolding is_pair
is_pair-e p q u v h = (eqb-true u p (and_l _ _ h), eqb-true v q (and_r _ _ h))

not-pair : (p q u v : ℕ) → (u ≡ p → v ≡ q → ⊥) → is_pair p q u v ≡ false
not-pair p q u v h = not-true→false _ (λ t. let e = is_pair-e p q u v t in h e.0 e.1)

-- Two numbers are p, q or q, p, or neither.
one-pair : (p q : ℕ) (P : ℕ → ℕ → Type 0) → P p q → P q p
    → ((u v : ℕ) → (u ≡ p → v ≡ q → ⊥) → (u ≡ q → v ≡ p → ⊥) → P u v)
    → (u v : ℕ) → P u v
one-pair p q P pq qp rest u v =
    by_cases (is_pair p q u v)
    (λ t. let e = is_pair-e p q u v t in rw (e.0, e.1) pq)
    (λ t. by_cases (is_pair q p u v)
    (λ s. let e = is_pair-e q p u v s in rw (e.0, e.1) qp)
    (λ s. rest u v (other p q t) (other q p s)))
  where
    other : (p q : ℕ) → is_pair p q u v ≡ false → u ≡ p → v ≡ q → ⊥
    other p q t e f = clash (is_pair-i p q) (rw (e, f) at t)

-- ---- a constraint between two variables

cut-e : (N : Network) (p q : ℕ) (t : ℕ → ℕ → Bool) (a b : ℕ) (before : Bool) → cut_pair N p q t a b before ≡ true
    → (N.domain p a ≡ true) × (N.domain q b ≡ true) × (t a b ≡ true) × (before ≡ true)
unfolding cut_pair
cut-e N p q t a b before h = (and_l _ _ (and_l _ _ h), and_r _ _ (and_l _ _ h), and_l _ _ (and_r _ _ h), and_r _ _ (and_r _ _ h))

cut-i : (N : Network) (p q : ℕ) (t : ℕ → ℕ → Bool) (a b : ℕ) (before : Bool)
    → N.domain p a ≡ true → N.domain q b ≡ true → t a b ≡ true → before ≡ true → cut_pair N p q t a b before ≡ true
unfolding cut_pair
cut-i N p q t a b before da db h k = and_i _ _ (and_i _ _ da db) (and_i _ _ h k)

module _ (N : Network) (p q : ℕ) (t : ℕ → ℕ → Bool) (distinct : p ≡ q → ⊥) where
  abbrev M : Network
  M = constrained N p q t

  -- What the constraint leaves, case by case
  pub stated-pq : M.stated p q ≡ true
  unfolding constrained
  stated-pq = if-true _ _ _ (or_l _ _ (is_pair-i p q))

  pub stated-qp : M.stated q p ≡ true
  unfolding constrained
  stated-qp = if-true _ _ _ (or_r _ _ (is_pair-i q p))

  pub stated-else : (u v : ℕ) → (u ≡ p → v ≡ q → ⊥) → (u ≡ q → v ≡ p → ⊥) → M.stated u v ≡ N.stated u v
  unfolding constrained
  stated-else u v h k = if-false _ _ _ (or-false-i _ _ (not-pair p q u v h) (not-pair q p u v k))

  pub allows-pq : (a b : ℕ) → M.allows p q a b ≡ cut_pair N p q t a b (implies (N.stated p q) (N.allows p q a b))
  unfolding constrained
  allows-pq a b = if-true _ _ _ (is_pair-i p q)

  pub allows-qp : (a b : ℕ) → M.allows q p a b ≡ cut_pair N p q t b a (implies (N.stated q p) (N.allows q p a b))
  unfolding constrained
  allows-qp a b = if-false _ _ _ (not-pair p q q p (λ e f. distinct f)) ∙ if-true _ _ _ (is_pair-i q p)

  pub allows-else : (u v a b : ℕ) → (u ≡ p → v ≡ q → ⊥) → (u ≡ q → v ≡ p → ⊥) → M.allows u v a b ≡ N.allows u v a b
  unfolding constrained
  allows-else u v a b h k = if-false _ _ _ (not-pair p q u v h) ∙ if-false _ _ _ (not-pair q p u v k)

  -- No pair of a variable with itself is touched.
  self-else : (u : ℕ) → M.stated u u ≡ N.stated u u
  self-else u = stated-else u u (λ e f. distinct (sym e ∙ f)) (λ e f. distinct (sym f ∙ e))

  module _ (S : Sound N) where
    now-sym : (u v : ℕ) → M.stated u v ≡ M.stated v u
    now-sym =
        one-pair p q (λ (u v : ℕ). M.stated u v ≡ M.stated v u)
        (stated-pq ∙ sym stated-qp)
        (stated-qp ∙ sym stated-pq)
        (λ u v h k. stated-else u v h k ∙ S.stated_sym u v ∙ sym (stated-else v u (λ e f. k f e) (λ e f. h f e)))

    pub now-allows-sym : (u v a b : ℕ) → M.allows u v a b ≡ M.allows v u b a
    now-allows-sym =
        one-pair p q (λ (u v : ℕ). (a b : ℕ) → M.allows u v a b ≡ M.allows v u b a)
        pq
        (λ a b. sym (pq b a))
        (λ u v h k a b. allows-else u v a b h k ∙ S.allows_sym u v a b ∙ sym (allows-else v u b a (λ e f. k f e) (λ e f. h f e)))
      where
        pq : (a b : ℕ) → M.allows p q a b ≡ M.allows q p b a
        pq a b = allows-pq a b ∙ ap (cut_pair N p q t a b) (both_sides N S p q a b) ∙ sym (allows-qp b a)

    module _ (p-in : p < N.n) (q-in : q < N.n) where
      now-stated-in : (u v : ℕ) → M.stated u v ≡ true → (u < N.n) × (v < N.n)
      now-stated-in =
          one-pair p q (λ (u v : ℕ). M.stated u v ≡ true → (u < N.n) × (v < N.n))
          (λ s. (p-in, q-in))
          (λ s. (q-in, p-in))
          (λ u v h k s. S.stated_in u v (sym (stated-else u v h k) ∙ s))

      now-allows-stated : (u v a b : ℕ) → M.allows u v a b ≡ true → M.stated u v ≡ true
      now-allows-stated =
          one-pair p q (λ (u v : ℕ). (a b : ℕ) → M.allows u v a b ≡ true → M.stated u v ≡ true)
          (λ a b s. stated-pq)
          (λ a b s. stated-qp)
          (λ u v h k a b s. stated-else u v h k ∙ S.allows_stated u v a b (sym (allows-else u v a b h k) ∙ s))

      now-allows-in : (u v a b : ℕ) → M.allows u v a b ≡ true → (a < N.size u) × (b < N.size v)
      now-allows-in =
          one-pair p q (λ (u v : ℕ). (a b : ℕ) → M.allows u v a b ≡ true → (a < N.size u) × (b < N.size v))
          (λ a b s. let e = cut-e N p q t a b _ (sym (allows-pq a b) ∙ s) in (S.domain_in p a e.0, S.domain_in q b e.1))
          (λ a b s. let e = cut-e N p q t b a _ (sym (allows-qp a b) ∙ s) in (S.domain_in q a e.1, S.domain_in p b e.0))
          (λ u v h k a b s. S.allows_in u v a b (sym (allows-else u v a b h k) ∙ s))

      -- The solutions are those that keep to the constraint.
      pub constrained-solves : (f : ℕ → ℕ) → solves M f ≡ and (solves N f) (t (f p) (f q))
      unfolding constrained
      constrained-solves f =
          bool-ext _ _
          (λ h. let at-pq = cut-e N p q t (f p) (f q) _ (sym (allows-pq (f p) (f q)) ∙ solves-pair M f h p q p-in q-in stated-pq) in
          and_i _ _
          (solves-i N f (solves-domain M f h)
          (one-pair p q (λ (u v : ℕ). u < N.n → v < N.n → N.stated u v ≡ true → N.allows u v (f u) (f v) ≡ true)
          (λ lu lv s. implies-e _ _ at-pq.3 s)
          (λ lu lv s. implies-e _ _ (cut-e N p q t (f p) (f q) _ (sym (allows-qp (f q) (f p)) ∙ solves-pair M f h q p q-in p-in stated-qp)).3 s)
          (λ u v h1 h2 lu lv s. sym (allows-else u v (f u) (f v) h1 h2) ∙ solves-pair M f h u v lu lv (stated-else u v h1 h2 ∙ s))))
          at-pq.2)
          (λ h. let s = and_l _ _ h in
          let dp = solves-domain N f s p p-in in
          let dq = solves-domain N f s q q-in in
          solves-i M f (solves-domain N f s)
          (one-pair p q (λ (u v : ℕ). u < N.n → v < N.n → M.stated u v ≡ true → M.allows u v (f u) (f v) ≡ true)
          (λ lu lv _. allows-pq (f p) (f q) ∙ cut-i N p q t (f p) (f q) _ dp dq (and_r _ _ h) (implies-i _ _ (solves-pair N f s p q lu lv)))
          (λ lu lv _. allows-qp (f q) (f p) ∙ cut-i N p q t (f p) (f q) _ dp dq (and_r _ _ h) (implies-i _ _ (solves-pair N f s q p lu lv)))
          (λ u v h1 h2 lu lv m. allows-else u v (f u) (f v) h1 h2 ∙ solves-pair N f s u v lu lv (sym (stated-else u v h1 h2) ∙ m))))

      -- A follower is neither p nor q, so its pairs and its partners are as they were.
      module _ (p-free : free N p ≡ true) (q-free : free N q ≡ true) where
        led-other : (x l y : ℕ) → N.leader x ≡ suc l → free N y ≡ true → x ≡ y → ⊥
        led-other x l y e h d = clash h (rw (← d) (led-not-free N x l e))

        follower-pairs : (x l k : ℕ) → N.leader x ≡ suc l → M.stated x k ≡ N.stated x k
        follower-pairs x l k e = stated-else x k (λ d _. led-other x l p e p-free d) (λ d _. led-other x l q e q-free d)

        follower-partners : (x l a b : ℕ) → N.leader x ≡ suc l → partner M l x a b ≡ partner N l x a b
        unfolding partner constrained
        follower-partners x l a b e =
            ap (and (N.domain x b)) (allows-else l x a b (λ _ d. led-other x l q e q-free d) (λ _ d. led-other x l p e p-free d))

        leader-partners : (x l a b : ℕ) → N.leader x ≡ suc l → partner M x l b a ≡ partner N x l b a
        unfolding partner constrained
        leader-partners x l a b e =
            ap (and (N.domain l a)) (allows-else x l b a (λ d _. led-other x l p e p-free d) (λ d _. led-other x l q e q-free d))

        pub constrained-sound : Sound M
        unfolding constrained
        constrained-sound =
            record {
              some_variable = S.some_variable;
              sizes = S.sizes;
              size_past = S.size_past;
              domain_in = S.domain_in;
              leader_past = S.leader_past;
              stated_in = now-stated-in;
              no_self = λ u. self-else u ∙ S.no_self u;
              stated_sym = now-sym;
              allows_stated = now-allows-stated;
              allows_in = now-allows-in;
              allows_sym = now-allows-sym;
              leader_free = S.leader_free;
              follower_stated = λ x l e. follower-pairs x l l e ∙ S.follower_stated x l e;
              follower_only = λ x l k e s. S.follower_only x l k e (sym (follower-pairs x l k e) ∙ s);
              follower_one = λ x l a e d. count-cong (N.size x) _ _ (λ b _. follower-partners x l a b e) ∙ S.follower_one x l a e d;
              follower_trimmed = λ x l b e d. some-cong (N.size l) _ _ (λ a _. leader-partners x l a b e) ∙ S.follower_trimmed x l b e d;
            }

-- ---- a shorter domain

pub narrowed-solves : (N : Network) (i : ℕ) (r : ℕ → Bool) → i < N.n → (f : ℕ → ℕ) → solves (narrowed N i r) f ≡ and (solves N f) (r (f i))
unfolding narrowed relisted
narrowed-solves N i r i_in f =
    bool-ext _ _
    (λ h. and_i _ _
    (solves-i N f (λ u l. narrowed-fewer N i r u (f u) (solves-domain (narrowed N i r) f h u l)) (solves-pair (narrowed N i r) f h))
    (and_r _ _ (sym (narrowed-i N i r (f i)) ∙ solves-domain (narrowed N i r) f h i i_in)))
    (λ h. let s = and_l _ _ h in
    solves-i (narrowed N i r) f
    (is-or-not i (λ (u : ℕ). u < N.n → (narrowed N i r).domain u (f u) ≡ true)
    (λ l. narrowed-i N i r (f i) ∙ and_i _ _ (solves-domain N f s i l) (and_r _ _ h))
    (λ u d l. narrowed-other N i r u (f u) d ∙ solves-domain N f s u l))
    (solves-pair N f s))

-- ---- the trace and the partners

module _ (N : Network) where
  pub traced-free : (x : ℕ) → free N x ≡ true → traced N x ≡ x
  unfolding traced
  traced-free x t = if-true _ _ _ t

  pub traced-led : (x l : ℕ) → N.leader x ≡ suc l → traced N x ≡ l
  unfolding traced
  traced-led x l e = if-false _ _ _ (led-not-free N x l e) ∙ led-pred N x l e

  pub is-traced : (x : ℕ) → Traced N x (traced N x)
  is-traced x = record { own = traced-free x; led = traced-led x }

  pub partner_in-free : (x a : ℕ) → free N x ≡ true → partner_in N x a ≡ a
  unfolding partner_in
  partner_in-free x a t = if-true _ _ _ t

  pub partner_in-led : (x l a : ℕ) → N.leader x ≡ suc l → partner_in N x a ≡ first (N.size x) (partner N l x a)
  unfolding partner_in follow
  partner_in-led x l a e = if-false _ _ _ (led-not-free N x l e) ∙ rw (led-pred N x l e)

  -- The completer gives each variable the partner of its leader's value.
  pub completed-partner_in : (f : ℕ → ℕ) (x : ℕ) → completed N f x ≡ partner_in N x (f (traced N x))
  completed-partner_in f x =
      free-or-led N x
      (λ t. rw (traced-free x t) (completed-keeps N f x t ∙ sym (partner_in-free x (f x) t)))
      (λ l e. rw (traced-led x l e) (completed-led N f x l e ∙ sym (partner_in-led x l (f l) e)))

  module _ (S : Sound N) where
    pub traced-in : (x : ℕ) → x < N.n → traced N x < N.n
    traced-in x h = free-or-led N x (λ t. rw (traced-free x t) h) (λ l e. rw (traced-led x l e) (leader-n N S x l e))

    pub traced-is-free : (x : ℕ) → free N (traced N x) ≡ true
    traced-is-free x = free-or-led N x (λ t. rw (traced-free x t) t) (λ l e. rw (traced-led x l e) (leader-is-free N S x l e))

    pub partner_in-is : (x a : ℕ) → N.domain (traced N x) a ≡ true → Partner N x a (partner_in N x a)
    partner_in-is x a d =
        record {
          own = partner_in-free x a;
          led = λ l e. let p = partner N l x a in
              rw (partner_in-led x l a e) (first_passes (N.size x) p (first_some (N.size x) p (partner-some N S x l a e (rw (traced-led x l e) at d))));
        }

    -- A value of the leader's domain has that one partner alone.
    pub partner_in-only : (x a c : ℕ) → N.domain (traced N x) a ≡ true → Partner N x a c → c ≡ partner_in N x a
    partner_in-only x a c d P =
        free-or-led N x
        (λ t. P.own t ∙ sym (partner_in-free x a t))
        (λ l e. partner-only N S x l a c (partner_in N x a) e (rw (traced-led x l e) at d) (P.led l e) ((partner_in-is x a d).led l e))

    -- So what is said of a follower's partner is said of some partner.
    pub partner_in-some : (x l a : ℕ) (r : ℕ → Bool) → N.leader x ≡ suc l → N.domain l a ≡ true
        → some (N.size x) (λ (c : ℕ). and (partner N l x a c) (r c)) ≡ r (partner_in N x a)
    unfolding partner
    partner_in-some x l a r e d =
        let at : N.domain (traced N x) a ≡ true = rw (traced-led x l e) d in
        let found = (partner_in-is x a at).led l e in
        bool-ext _ _
        (λ h. some-e (N.size x) _ h
        (λ c _ t. ap r (partner-only N S x l a (partner_in N x a) c e d found (and_l _ _ t)) ∙ and_r _ _ t))
        (λ h. some-i (N.size x) _ (partner_in N x a) (S.domain_in x _ (and_l _ _ found)) (and_i _ _ found h))

    -- So each variable of a solution has the partner of its leader's value.
    pub solution-partner : (f : ℕ → ℕ) → solves N f ≡ true → (x : ℕ) → x < N.n → partner_in N x (f (traced N x)) ≡ f x
    solution-partner f s x l = sym (completed-only N S f f s (λ i _ _. refl) x l ∙ completed-partner_in f x)

-- ---- the table added

module _ (N : Network) (x y : ℕ) (rows : List ℕ) where
  pub added-one : traced N x ≡ traced N y
      → added N x y rows ≡ followers_trimmed (narrowed N (traced N x) (λ (a : ℕ). allows_partners N x y rows a a))
  unfolding added
  added-one e = if-true _ _ _ (eq-eqb _ _ e)

  pub added-two : (traced N x ≡ traced N y → ⊥) → added N x y rows ≡ constrained N (traced N x) (traced N y) (allows_partners N x y rows)
  unfolding added
  added-two d = if-false _ _ _ (ne_eqb _ _ d)

  -- The leaders are one, or they differ.
  added-case : (P : Network → Type 0)
      → (traced N x ≡ traced N y → P (followers_trimmed (narrowed N (traced N x) (λ (a : ℕ). allows_partners N x y rows a a))))
      → ((traced N x ≡ traced N y → ⊥) → P (constrained N (traced N x) (traced N y) (allows_partners N x y rows)))
      → P (added N x y rows)
  added-case P one two =
      by_cases (eqb (traced N x) (traced N y))
      (λ t. let e = eqb-true _ _ t in rw (added-one e) (one e))
      (λ t. let d = eqb-false _ _ t in rw (added-two d) (two d))

  pub added-n : (added N x y rows).n ≡ N.n
  unfolding narrowed constrained followers_trimmed relisted
  added-n = added-case (λ (M : Network). M.n ≡ N.n) (λ e. refl) (λ d. refl)

  pub added-size : (i : ℕ) → (added N x y rows).size i ≡ N.size i
  unfolding narrowed constrained followers_trimmed relisted
  added-size i = added-case (λ (M : Network). M.size i ≡ N.size i) (λ e. refl) (λ d. refl)

  module _ (S : Sound N) (x-in : x < N.n) (y-in : y < N.n) where
    pub added-sound : Sound (added N x y rows)
    added-sound =
        added-case Sound
        (λ e. lists-free.any_part N S (traced N x) (traced-is-free N S x) _)
        (λ d. constrained-sound N (traced N x) (traced N y) _ d S (traced-in N S x x-in) (traced-in N S y y-in)
        (traced-is-free N S x) (traced-is-free N S y))

    pub added-bounded : (m w : ℕ) → N.n ≤ m → N.n ≤ w → ((i : ℕ) → N.size i ≤ w) → Bounded m w (added N x y rows)
    added-bounded m w held told within =
        Sound→Bounded m w (added N x y rows) added-sound (rw added-n held) (rw added-n told) (λ i. rw (added-size i) (within i))

    -- The partners of the leaders' values in a solution are its own values.
    partners-met : (f : ℕ → ℕ) → solves N f ≡ true → allows_partners N x y rows (f (traced N x)) (f (traced N y)) ≡ meets_table x y rows f
    unfolding allows_partners meets_table
    partners-met f s = rw (solution-partner N S f s x x-in, solution-partner N S f s y y-in)

    -- "builds are counted against the accepted sheet together with the tables that calls not refused added": the solutions are those that keep to the table.
    pub added-solves : (f : ℕ → ℕ) → solves (added N x y rows) f ≡ and (solves N f) (meets_table x y rows f)
    added-solves f =
        added-case (λ (M : Network). solves M f ≡ and (solves N f) (meets_table x y rows f))
        (λ e. trim-solves (narrowed N (traced N x) _) (lists-free.any_part N S (traced N x) (traced-is-free N S x) _) f
        ∙ narrowed-solves N (traced N x) _ (traced-in N S x x-in) f
        ∙ and-cong _ _ _ (λ s. ap (λ (v : ℕ). allows_partners N x y rows (f (traced N x)) (f v)) e ∙ partners-met f s))
        (λ d. constrained-solves N (traced N x) (traced N y) _ d S (traced-in N S x x-in) (traced-in N S y y-in) f
        ∙ and-cong _ _ _ (partners-met f))

    -- One table more is one predicate more.
    pub table-keeps : Keeps N (added N x y rows) (meets_table x y rows)
    table-keeps = record { same_n = added-n; same_size = added-size; still_sound = added-sound; same_solutions = added-solves }

-- ---- refusals

pub denied : {P : Type 0} (b : Bool) → (b ≡ false) ↔ P → (b ≡ true) ↔ (P → ⊥)
denied b e = (λ t p. clash t (e.1 p), λ n. by_cases b (λ t. t) (λ t. absurd (n (e.0 t))))

same_number : (a b : ℕ) → (eqb a b ≡ true) ↔ (a ≡ b)
same_number a b = (eqb-true a b, eq-eqb a b)

other-number : (a b : ℕ) → (eqb a b ≡ false) ↔ (a ≡ b → ⊥)
other-number a b = (eqb-false a b, ne_eqb a b)

below_power : (n : ℕ) → n < 2 ^ n
below_power zero = pow_pos 0
below_power (suc n) = omega (arith, pow-suc 2 n, below_power n)

-- A row is below 2 to the k exactly when it has no bit at or above k.
row_within : (row k : ℕ) → (row < 2 ^ k) ↔ ((d : ℕ) → has row d ≡ true → d < k)
row_within row k = (
  λ h d m. has-below k row d m h,
  λ h. within row row k (below_power row) (λ v l _. not-true→false (has row v) (λ t. let z : ⊥ = omega (arith, h v t) in z)),
)

-- Past its rows a table allows nothing.
past-rows : (rows : List ℕ) (c d : ℕ) → length rows ≤ c → table_allows rows c d ≡ false
unfolding table_allows
past-rows rows c d h = rw (get_or-eq_default rows 0 h) (has-zero d)

module _ (N : Network) (x y : ℕ) (rows : List ℕ) where
  fitting-e : rows_fit N x y rows ≡ true → Fitting N x y rows
  unfolding rows_fit table_allows
  fitting-e h =
      record {
        row_count = eqb-true _ _ (and_l _ _ h);
        bits_below = λ c d t.
            by_cases (ltb c (length rows))
            (λ l. (row_within (get_or rows c 0) (N.size y)).0 (ltb-true _ _ (every-e (length rows) _ (and_r _ _ h) c (ltb-true _ _ l))) d t)
            (λ l. clash t (past-rows rows c d (ltb-false _ _ l)));
      }

  fitting-i : Fitting N x y rows → rows_fit N x y rows ≡ true
  unfolding rows_fit table_allows
  fitting-i F =
      and_i _ _ (eq-eqb _ _ F.row_count)
      (every-i (length rows) _ (λ c _. lt-ltb _ _ ((row_within (get_or rows c 0) (N.size y)).1 (F.bits_below c))))

  fitting : (not (rows_fit N x y rows) ≡ false) ↔ Fitting N x y rows
  fitting = (λ h. fitting-e (not-false-e _ h), λ F. not-false-i _ (fitting-i F))

pub number-inside : (N : Network) (k : ℕ) → (outside N k ≡ false) ↔ Numbered N k
number-inside N k = (
  λ h. let e = outside-e N k h in record { from_1 = e.0; to_n = e.1 },
  λ h. outside-i N k h.from_1 h.to_n,
)

numbered : (N : Network) (k l : ℕ) → (or (outside N k) (outside N l) ≡ false) ↔ (Numbered N k × Numbered N l)
numbered N k l = (
  λ h. ((number-inside N k).0 (or-false-l _ _ h), (number-inside N l).0 (or-false-r _ _ h)),
  λ h. or-false-i _ _ ((number-inside N k).1 h.0) ((number-inside N l).1 h.1),
)

pub add-refuses : (N : Network) (k l : ℕ) (rows : List ℕ) → Refuses N k l rows
unfolding add_refusal
add-refuses N k l rows =
    record {
      number_10 = Iff.trans (here _ 10 _ (never _ 21 _ 10 (omega arith) (never _ 22 _ 10 (omega arith) (omega arith)))) (denied _ (numbered N k l));
      number_21 =
          Iff.trans (past _ 10 _ 21 (omega arith) (here _ 21 _ (never _ 22 _ 21 (omega arith) (omega arith))))
          (Iff.and (numbered N k l) (same_number k l));
      number_22 =
          Iff.trans (past _ 10 _ 22 (omega arith) (past _ 21 _ 22 (omega arith) (here _ 22 _ (omega arith))))
          (Iff.and (numbered N k l) (Iff.and (other-number k l) (denied _ (fitting N (pred k) (pred l) rows))));
      number_0 =
          Iff.trans (past _ 10 _ 0 (omega arith) (past _ 21 _ 0 (omega arith) (past _ 22 _ 0 (omega arith) Iff.rfl)))
          (Iff.and (numbered N k l) (Iff.and (other-number k l) (
            λ h. (fitting N (pred k) (pred l) rows).0 h.0,
            λ F. ((fitting N (pred k) (pred l) rows).1 F, refl),
          )));
    }

-- A table that is not refused names two variables, counted from 0.
pub not_refused : (N : Network) (k l : ℕ) (rows : List ℕ) → add_refusal N k l rows ≡ 0 → (pred k < N.n) × (pred l < N.n)
not_refused N k l rows h =
    let r = (add-refuses N k l rows).number_0.0 h in
    let a = r.0.0 in
    let b = r.0.1 in
    (omega (arith, a.from_1, a.to_n), omega (arith, b.from_1, b.to_n))

-- ---- the sentences

module _ (N : Network) (x y : ℕ) (rows : List ℕ) (S : Sound N) where
  -- "the new table allows their partners", of values in the leaders' domains
  pub partners-allowed : (a b : ℕ) → N.domain (traced N x) a ≡ true → N.domain (traced N y) b ≡ true
      → (allows_partners N x y rows a b ≡ true) ↔ PartnersAllowed N x y rows a b
  unfolding allows_partners
  partners-allowed a b da db = (
    λ h. (partner_in N x a, partner_in N y b, partner_in-is N S x a da, partner_in-is N S y b db, h),
    λ h. rw (partner_in-only N S x a h.0 da h.2, partner_in-only N S y b h.1 db h.3) at h.4,
  )

  adds-two : (d : traced N x ≡ traced N y → ⊥)
      → Adds N x y rows (traced N x) (traced N y) (constrained N (traced N x) (traced N y) (allows_partners N x y rows))
  unfolding constrained
  adds-two d =
      let p = traced N x in
      let q = traced N y in
      let t = allows_partners N x y rows in
      record {
        first_traced = is-traced N x;
        second_traced = is-traced N y;
        becomes_stated = λ _. stated-pq N p q t d;
        allows_exactly =
            λ _ a b. (
              λ h. let e = cut-e N p q t a b _ (sym (allows-pq N p q t d a b) ∙ h) in
                  (e.0, e.1, (partners-allowed a b e.0 e.1).0 e.2, implies-e _ _ e.3),
              λ h. allows-pq N p q t d a b
                  ∙ cut-i N p q t a b _ h.0 h.1 ((partners-allowed a b h.0 h.1).1 h.2) (implies-i _ _ h.3),
            );
        other_side = λ _ a b. (stated-qp N p q t d ∙ sym (stated-pq N p q t d), now-allows-sym N p q t d S q p b a);
        other_pairs = λ _ u v a b h k. (stated-else N p q t d u v h k, allows-else N p q t d u v a b h k);
        domains_stay = λ _ u a. refl;
        keeps_exactly = λ e. absurd (d e);
        trims_exactly = λ e. absurd (d e);
        other_domains = λ e. absurd (d e);
        pairs_stay = λ e. absurd (d e);
        same_n = refl;
        same_size = λ u. refl;
        same_leader = λ u. refl;
      }

  adds_one : (e : traced N x ≡ traced N y)
      → Adds N x y rows (traced N x) (traced N y) (followers_trimmed (narrowed N (traced N x) (λ (a : ℕ). allows_partners N x y rows a a)))
  unfolding narrowed followers_trimmed relisted
  adds_one e =
      let p = traced N x in
      let r : ℕ → Bool = λ a. allows_partners N x y rows a a in
      let M = narrowed N p r in
      let p-free = traced-is-free N S x in
      let fewer = narrowed-fewer N p r in
      let led = narrowed-led N p r p-free in
      let at_p : (a : ℕ) → (followers_trimmed M).domain p a ≡ and (N.domain p a) (r a) =
      λ a. relisted-free N S M.domain fewer led p a p-free ∙ narrowed-i N p r a in
      let other : (a : ℕ) → N.domain p a ≡ true → N.domain (traced N y) a ≡ true = λ a d. rw e at d in
      record {
        first_traced = is-traced N x;
        second_traced = is-traced N y;
        becomes_stated = λ d. absurd (d e);
        allows_exactly = λ d. absurd (d e);
        other_side = λ d. absurd (d e);
        other_pairs = λ d. absurd (d e);
        domains_stay = λ d. absurd (d e);
        keeps_exactly =
            λ _ a. (
              λ h. let k = sym (at_p a) ∙ h in
                  let da = and_l _ _ k in
                  (da, (partners-allowed a a da (other a da)).0 (and_r _ _ k)),
              λ h. at_p a ∙ and_i _ _ h.0 ((partners-allowed a a h.0 (other a h.0)).1 h.1),
            );
        trims_exactly = λ _ u b e. relisted-trims N S M.domain fewer led u p b e;
        other_domains =
            λ _ u a d e. free-or-led N u
            (λ t. relisted-free N S M.domain fewer led u a t ∙ narrowed-other N p r u a d)
            (λ l h. relisted-rest N S M.domain fewer led u l a h (λ b. narrowed-other N p r l b (λ q. e (h ∙ ap suc q))));
        pairs_stay = λ _ u v a b. (refl, refl);
        same_n = refl;
        same_size = λ u. refl;
        same_leader = λ u. refl;
      }

  pub added-adds : Adds N x y rows (traced N x) (traced N y) (added N x y rows)
  added-adds = added-case N x y rows (Adds N x y rows (traced N x) (traced N y)) adds_one adds-two

-- A variable is traced to one variable alone.
traced-only : (N : Network) (x p q : ℕ) → Traced N x p → Traced N x q → p ≡ q
traced-only N x p q P Q = free-or-led N x (λ t. P.own t ∙ sym (Q.own t)) (λ l e. P.led l e ∙ sym (Q.led l e))

-- Two networks that the sentences give are one.
module _ (N : Network) (x y : ℕ) (rows : List ℕ) (p q : ℕ) (M P : Network) (R : Adds N x y rows p q M) (Q : Adds N x y rows p q P) where
  one-or-two : {A : Type 0} → (p ≡ q → A) → ((p ≡ q → ⊥) → A) → A
  one-or-two f g = by_cases (eqb p q) (λ t. f (eqb-true p q t)) (λ t. g (eqb-false p q t))

  same-domain : (u a : ℕ) → M.domain u a ≡ P.domain u a
  same-domain u a =
      one-or-two
      (λ e. let at_p : (b : ℕ) → M.domain p b ≡ P.domain p b = λ b. same_test _ _ (R.keeps_exactly e b) (Q.keeps_exactly e b) in
      is-or-not p (λ (v : ℕ). M.domain v a ≡ P.domain v a)
      (at_p a)
      (λ v d. by_cases (eqb (N.leader v) (suc p))
      (λ t. let l = eqb-true _ _ t in same_test _ _ (R.trims_exactly e v a l) (simp at_p (Q.trims_exactly e v a l)))
      (λ t. let l = eqb-false _ _ t in R.other_domains e v a d l ∙ sym (Q.other_domains e v a d l))) u)
      (λ d. R.domains_stay d u a ∙ sym (Q.domains_stay d u a))

  same_stated : (u v : ℕ) → M.stated u v ≡ P.stated u v
  same_stated u v =
      one-or-two
      (λ e. (R.pairs_stay e u v 0 0).0 ∙ sym (Q.pairs_stay e u v 0 0).0)
      (λ d. let pq : M.stated p q ≡ P.stated p q = R.becomes_stated d ∙ sym (Q.becomes_stated d) in
      one-pair p q (λ (u v : ℕ). M.stated u v ≡ P.stated u v)
      pq
      ((R.other_side d 0 0).0 ∙ pq ∙ sym (Q.other_side d 0 0).0)
      (λ u v h k. (R.other_pairs d u v 0 0 h k).0 ∙ sym (Q.other_pairs d u v 0 0 h k).0) u v)

  same_allows : (u v a b : ℕ) → M.allows u v a b ≡ P.allows u v a b
  same_allows u v a b =
      one-or-two
      (λ e. (R.pairs_stay e u v a b).1 ∙ sym (Q.pairs_stay e u v a b).1)
      (λ d. let pq : (a b : ℕ) → M.allows p q a b ≡ P.allows p q a b = λ a b. same_test _ _ (R.allows_exactly d a b) (Q.allows_exactly d a b) in
      one-pair p q (λ (u v : ℕ). (a b : ℕ) → M.allows u v a b ≡ P.allows u v a b)
      pq
      (λ a b. (R.other_side d b a).1 ∙ pq b a ∙ sym (Q.other_side d b a).1)
      (λ u v h k a b. (R.other_pairs d u v a b h k).1 ∙ sym (Q.other_pairs d u v a b h k).1) u v a b)

  same-network : M ≡ P
  same-network =
      network-ext M P (R.same_n ∙ sym Q.same_n) (λ u. R.same_size u ∙ sym (Q.same_size u)) same-domain
      (λ u. R.same_leader u ∙ sym (Q.same_leader u)) same_stated same_allows

-- So the sentences leave no choice.
pub added-only : (N : Network) → Sound N → (x y : ℕ) (rows : List ℕ) (p q : ℕ) (M : Network) → Adds N x y rows p q M → M ≡ added N x y rows
added-only N S x y rows p q M R =
    same-network N x y rows p q M (added N x y rows) R
    (rw (traced-only N x p (traced N x) R.first_traced (is-traced N x), traced-only N y q (traced N y) R.second_traced (is-traced N y))
    (added-adds N x y rows S))
