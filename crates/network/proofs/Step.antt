-- What a step is: when it is refused, and what it leaves, case by case.
use mathlib.Core.Bool.{Bool, true, false}
use mathlib.Core.Logic.Iff
use mathlib.Core.Logic.{◌↔◌}
use mathlib.Core.Path.{◌≡◌, refl, sym, ◌∙◌, ap, ap₂, subst}
use Prim.Native.Nat.{ℕ, suc, pred, ◌≤◌, ◌<◌}
use native.Mathlib.Omega.{arith}
use lib.Dec.{eqb}
use borrow.Author.Tests.{eq-eqb, ne_eqb, eqb-true, eqb-false, le-ltb, ltb-false, le-leb, leb-true}
use Rattle.bounded.specs.Bool.{and, or, implies, not, if}
use Rattle.bounded.proofs.Bool.{by_cases, bool-ext, not-true→false, and_i, and_l, and_r, or_l, or_r, or-false-l, or-false-r, or-false-i}
use Rattle.bounded.proofs.Bool.{implies-i, implies-e, not-i, not-e, not-false-e, not-false-i, if-true, if-false, if-or}
use Rattle.bounded.proofs.Fold.{is-or-not, every-i, every-e, some-i, some-e, count-two, count-unique}
use Rattle.network.specs.Network.{Network, free, partner, functional}
use Rattle.network.specs.Sound.{Sound}
use Rattle.network.specs.Step.{outside, refusal, legal, trimmed, third, joined, composed, eliminate}
use Rattle.network.specs.Pairs.{Stays}
use Rattle.network.proofs.Pairs.{stays-sym, own-pair-stays, pair-case-sym, Moved, moved}

-- Refusals

-- A ladder of tests gives the number of the first that holds: a number is given by its own test, past all tests before it.
pub here : (b : Bool) (v r : ℕ) → (r ≡ v → ⊥) → (if b v r ≡ v) ↔ (b ≡ true)
here b v r d = (λ h. by_cases b (λ t. t) (λ t. absurd (d (sym (if-false b v r t) ∙ h))), if-true b v r)

pub past : {P : Type 0} (b : Bool) (v r w : ℕ) → (w ≡ v → ⊥) → (r ≡ w) ↔ P → (if b v r ≡ w) ↔ ((b ≡ false) × P)
past b v r w d e = (
  λ h. by_cases b (λ t. absurd (d (sym h ∙ if-true b v r t))) (λ t. (t, e.0 (sym (if-false b v r t) ∙ h))),
  λ h. if-false b v r h.0 ∙ e.1 h.1,
)

pub never : (b : Bool) (v r w : ℕ) → (w ≡ v → ⊥) → (r ≡ w → ⊥) → if b v r ≡ w → ⊥
never b v r w d e h = ((past b v r w d (e, absurd)).0 h).1

module _ (N : Network) (l f : ℕ) where
  -- "option number 0 or above n"
  abbrev pub bad_number : Bool
  bad_number = or (outside N l) (outside N f)

  -- "the two options equal, or one not live"
  abbrev pub bad_pair : Bool
  bad_pair = or (eqb l f) (or (not (free N (pred l))) (not (free N (pred f))))

  -- "pair not stated"
  abbrev pub unstated : Bool
  unstated = not (N.stated (pred l) (pred f))

  -- "not functional from leader to follower"
  abbrev pub not_functional : Bool
  not_functional = not (functional N (pred l) (pred f))

  -- Each number exactly when its own cause holds and none before it.
  pub refusal-10 : (refusal N l f ≡ 10) ↔ (bad_number ≡ true)
  unfolding refusal
  refusal-10 = here _ 10 _ (never _ 11 _ 10 (omega arith) (never _ 12 _ 10 (omega arith) (never _ 13 _ 10 (omega arith) (omega arith))))

  pub refusal-11 : (refusal N l f ≡ 11) ↔ ((bad_number ≡ false) × (bad_pair ≡ true))
  unfolding refusal
  refusal-11 = past _ 10 _ 11 (omega arith) (here _ 11 _ (never _ 12 _ 11 (omega arith) (never _ 13 _ 11 (omega arith) (omega arith))))

  pub refusal-12 : (refusal N l f ≡ 12) ↔ ((bad_number ≡ false) × ((bad_pair ≡ false) × (unstated ≡ true)))
  unfolding refusal
  refusal-12 = past _ 10 _ 12 (omega arith) (past _ 11 _ 12 (omega arith) (here _ 12 _ (never _ 13 _ 12 (omega arith) (omega arith))))

  pub refusal-13 : (refusal N l f ≡ 13) ↔ ((bad_number ≡ false) × ((bad_pair ≡ false) × ((unstated ≡ false) × (not_functional ≡ true))))
  unfolding refusal
  refusal-13 = past _ 10 _ 13 (omega arith) (past _ 11 _ 13 (omega arith) (past _ 12 _ 13 (omega arith) (here _ 13 _ (omega arith))))

  refusal-none : (refusal N l f ≡ 0)
      ↔ ((bad_number ≡ false) × ((bad_pair ≡ false) × ((unstated ≡ false) × ((not_functional ≡ false) × (◌≡◌ {A = ℕ} 0 0)))))
  unfolding refusal
  refusal-none =
      past _ 10 _ 0 (omega arith) (past _ 11 _ 0 (omega arith) (past _ 12 _ 0 (omega arith) (past _ 13 _ 0 (omega arith) Iff.rfl)))

-- A number that is not outside names a variable.
pub outside-e : (N : Network) (x : ℕ) → outside N x ≡ false → (1 ≤ x) × (x ≤ N.n)
unfolding outside
outside-e N x h =
    let a : x ≡ 0 → ⊥ = eqb-false x 0 (or-false-l _ _ h) in
    (omega arith, ltb-false N.n x (or-false-r _ _ h))

pub outside-i : (N : Network) (x : ℕ) → 1 ≤ x → x ≤ N.n → outside N x ≡ false
unfolding outside
outside-i N x a b = or-false-i _ _ (ne_eqb x 0 (omega arith)) (le-ltb N.n x b)

-- The step is legal: j may follow i, variables counted from 0.
pub record Legal (N : Network) (i j : ℕ) : Type 0 where
  pub i_in : i < N.n
  pub j_in : j < N.n
  pub distinct : i ≡ j → ⊥
  pub i_free : free N i ≡ true
  pub j_free : free N j ≡ true
  pub pair_stated : N.stated i j ≡ true
  pub is_functional : functional N i j ≡ true

-- 0: a legal step.
pub refusal-0 : (N : Network) (l f : ℕ) → (refusal N l f ≡ 0) ↔ ((1 ≤ l) × (1 ≤ f) × Legal N (pred l) (pred f))
refusal-0 N l f = (
  λ h. let c = (refusal-none N l f).0 h in
      let a : (1 ≤ l) × (l ≤ N.n) = outside-e N l (or-false-l _ _ c.0) in
      let b : (1 ≤ f) × (f ≤ N.n) = outside-e N f (or-false-r _ _ c.0) in
      let d : l ≡ f → ⊥ = eqb-false l f (or-false-l _ _ c.1.0) in (
        a.0,
        b.0,
        record {
          i_in = omega arith;
          j_in = omega arith;
          distinct = omega arith;
          i_free = not-false-e _ (or-false-l _ _ (or-false-r _ _ c.1.0));
          j_free = not-false-e _ (or-false-r _ _ (or-false-r _ _ c.1.0));
          pair_stated = not-false-e _ c.1.1.0;
          is_functional = not-false-e _ c.1.1.1.0;
        },
      ),
  λ h. let a : pred l < N.n = h.2.i_in in
      let b : pred f < N.n = h.2.j_in in
      let d : pred l ≡ pred f → ⊥ = h.2.distinct in
      (refusal-none N l f).1 (
        or-false-i _ _ (outside-i N l h.0 (omega arith)) (outside-i N f h.1 (omega arith)),
        (
          or-false-i _ _ (ne_eqb l f (λ e. d (ap pred e))) (or-false-i _ _ (not-false-i _ h.2.i_free) (not-false-i _ h.2.j_free)),
          (not-false-i _ h.2.pair_stated, (not-false-i _ h.2.is_functional, refl)),
        ),
      ),
)

pub legal-e : (N : Network) (i j : ℕ) → legal N i j ≡ true → Legal N i j
unfolding legal
legal-e N i j h = ((refusal-0 N (suc i) (suc j)).0 (eqb-true _ 0 h)).2

pub legal-i : (N : Network) (i j : ℕ) → Legal N i j → legal N i j ≡ true
unfolding legal
legal-i N i j h = eq-eqb _ 0 ((refusal-0 N (suc i) (suc j)).1 (omega arith, omega arith, h))

-- "no value in the list of i has more than one allowed partner in the list of j"
pub functional-i : (N : Network) (i j : ℕ)
    → ((a b c : ℕ) → a < N.size i → N.domain i a ≡ true → b < N.size j → c < N.size j
    → partner N i j a b ≡ true → partner N i j a c ≡ true
    → b ≡ c)
    → functional N i j ≡ true
unfolding functional
functional-i N i j h =
    every-i (N.size i) _
    (λ a la. implies-i _ _ (λ da. le-leb _ 1 (count-unique (N.size j) (partner N i j a) (λ b c lb lc. h a b c la da lb lc))))

pub functional-e : (N : Network) (i j : ℕ) → functional N i j ≡ true
    → (a b c : ℕ) → a < N.size i → N.domain i a ≡ true → b < N.size j → c < N.size j
    → partner N i j a b ≡ true → partner N i j a c ≡ true
    → b ≡ c
unfolding functional
functional-e N i j h a b c la da lb lc pb pc =
    count-two (N.size j) (partner N i j a) (leb-true _ 1 (implies-e _ _ (every-e (N.size i) _ h a la) da)) b c lb lc pb pc

module _ (N : Network) (i j : ℕ) where
  pub third-e : (k : ℕ) → third N i j k ≡ true → (N.stated j k ≡ true) × (k ≡ i → ⊥) × (k ≡ j → ⊥)
  unfolding third
  third-e k h = (
    and_l _ _ h,
    eqb-false k i (not-e _ (and_l _ _ (and_r _ _ h))),
    eqb-false k j (not-e _ (and_r _ _ (and_r _ _ h))),
  )

  pub third-i : (k : ℕ) → N.stated j k ≡ true → (k ≡ i → ⊥) → (k ≡ j → ⊥) → third N i j k ≡ true
  unfolding third
  third-i k h d e = and_i _ _ h (and_i _ _ (not-i _ (ne_eqb k i d)) (not-i _ (ne_eqb k j e)))

  third-not : (k : ℕ) → ((k ≡ i → ⊥) → (k ≡ j → ⊥) → ⊥) → third N i j k ≡ false
  third-not k h = not-true→false _ (λ t. h (third-e k t).1 (third-e k t).2)

  pub i-not-third : third N i j i ≡ false
  i-not-third = third-not i (λ d e. d refl)

  pub j-not-third : third N i j j ≡ false
  j-not-third = third-not j (λ d e. e refl)

  pub ij-stays : (i ≡ j → ⊥) → Stays i j (third N i j) i j
  ij-stays = own-pair-stays i j (third N i j) i-not-third j-not-third

  -- What the step leaves, case by case

  pub same_n : (eliminate N i j).n ≡ N.n
  unfolding eliminate
  same_n = refl

  pub same_size : (eliminate N i j).size ≡ N.size
  unfolding eliminate
  same_size = refl

  pub domain-i : (a : ℕ) → (eliminate N i j).domain i a ≡ trimmed N i j a
  unfolding eliminate
  domain-i a = if-true _ _ _ (eq-eqb i i refl)

  pub domain-other : (x a : ℕ) → (x ≡ i → ⊥) → (eliminate N i j).domain x a ≡ N.domain x a
  unfolding eliminate
  domain-other x a d = if-false _ _ _ (ne_eqb x i d)

  pub leader-j : (eliminate N i j).leader j ≡ suc i
  unfolding eliminate
  leader-j = if-true _ _ _ (or_l _ _ (eq-eqb j j refl))

  pub leader-of-j : (x : ℕ) → N.leader x ≡ suc j → (eliminate N i j).leader x ≡ suc i
  unfolding eliminate
  leader-of-j x h = if-true _ _ _ (or_r _ _ (eq-eqb _ _ h))

  pub leader_other : (x : ℕ) → (x ≡ j → ⊥) → (N.leader x ≡ suc j → ⊥) → (eliminate N i j).leader x ≡ N.leader x
  unfolding eliminate
  leader_other x d e = if-false _ _ _ (or-false-i _ _ (ne_eqb x j d) (ne_eqb _ _ e))

  -- Of j and its followers, and of the others: what follows after the step.
  pub leader-case : (P : ℕ → ℕ → Type 0)
      → P j i → ((x : ℕ) → N.leader x ≡ suc j → P x i)
      → ((x l : ℕ) → N.leader x ≡ suc l → (x ≡ j → ⊥) → (l ≡ j → ⊥) → P x l)
      → (x l : ℕ) → (eliminate N i j).leader x ≡ suc l → P x l
  leader-case P own old other =
      is-or-not j (λ (x : ℕ). (l : ℕ) → (eliminate N i j).leader x ≡ suc l → P x l)
      (λ l h. subst (P j) (ap pred (sym leader-j ∙ h)) own)
      (λ x d l h. by_cases (eqb (N.leader x) (suc j))
      (λ t. let q : N.leader x ≡ suc j = eqb-true _ _ t in subst (P x) (ap pred (sym (leader-of-j x q) ∙ h)) (old x q))
      (λ t. let q : N.leader x ≡ suc l = sym (leader_other x d (eqb-false _ _ t)) ∙ h in
      other x l q d (λ e. eqb-false _ _ t (q ∙ ap suc e))))

-- The pairs of M are those of N, but that for each k of T the pair j, k has gone into the pair i, k by rule 2.
pub record MovedPairs (N : Network) (i j : ℕ) (T : ℕ → Bool) (M : Network) : Type 0 where
  pub stated_moved : Moved i j T (λ (x y : ℕ). true) (λ (x y : ℕ). true) false N.stated M.stated
  pub allows_moved : (a b : ℕ)
      → Moved i j T
      (λ (x k : ℕ). composed N i j k a b (implies (N.stated x k) (N.allows x k a b)))
      (λ (k x : ℕ). composed N i j k b a (implies (N.stated k x) (N.allows k x a b)))
      false (λ (x y : ℕ). N.allows x y a b) (λ (x y : ℕ). M.allows x y a b)

pub eliminate-moves : (N : Network) (i j : ℕ) → (i ≡ j → ⊥) → MovedPairs N i j (third N i j) (eliminate N i j)
unfolding eliminate
eliminate-moves N i j d =
    record {
      stated_moved = moved i j (third N i j) _ _ false _ d (i-not-third N i j) (j-not-third N i j) (λ x y. simp if-or);
      allows_moved = λ a b. moved i j (third N i j) _ _ false _ d (i-not-third N i j) (j-not-third N i j) (λ x y. refl);
    }

-- The parts of rules 1 and 2

module _ (N : Network) (i j : ℕ) where
  pub trimmed-domain : (a : ℕ) → trimmed N i j a ≡ true → N.domain i a ≡ true
  unfolding trimmed
  trimmed-domain a h = and_l _ _ h

  -- A step adds no value to a domain,
  pub domain-fewer : (x a : ℕ) → (eliminate N i j).domain x a ≡ true → N.domain x a ≡ true
  domain-fewer x a =
      is-or-not i (λ (y : ℕ). (eliminate N i j).domain y a ≡ true → N.domain y a ≡ true)
      (λ h. trimmed-domain a (sym (domain-i N i j a) ∙ h))
      (λ y d h. sym (domain-other N i j y a d) ∙ h) x

  -- and keeps those that rule 1 keeps.
  pub domain-kept : (x a : ℕ) → N.domain x a ≡ true → (x ≡ i → trimmed N i j a ≡ true) → (eliminate N i j).domain x a ≡ true
  domain-kept x a =
      is-or-not i (λ (y : ℕ). N.domain y a ≡ true → (y ≡ i → trimmed N i j a ≡ true) → (eliminate N i j).domain y a ≡ true)
      (λ h t. domain-i N i j a ∙ t refl)
      (λ y d h t. domain-other N i j y a d ∙ h) x

  pub trimmed-e : {A : Type 0} (a : ℕ) → trimmed N i j a ≡ true
      → ((b : ℕ) → N.domain j b ≡ true → N.allows i j a b ≡ true → A) → A
  unfolding trimmed partner
  trimmed-e a h f = some-e (N.size j) _ (and_r _ _ h) (λ b l p. f b (and_l _ _ p) (and_r _ _ p))

  pub joined-e : {A : Type 0} (k a c : ℕ) → joined N i j k a c ≡ true
      → ((b : ℕ) → N.domain j b ≡ true → N.allows i j a b ≡ true → N.allows j k b c ≡ true → A) → A
  unfolding joined
  joined-e k a c h f = some-e (N.size j) _ h (λ b l p. f b (and_l _ _ p) (and_l _ _ (and_r _ _ p)) (and_r _ _ (and_r _ _ p)))

  pub composed-e : (k a c : ℕ) (before : Bool) → composed N i j k a c before ≡ true
      → (trimmed N i j a ≡ true) × (N.domain k c ≡ true) × (joined N i j k a c ≡ true) × (before ≡ true)
  unfolding composed
  composed-e k a c before h =
      (and_l _ _ (and_l _ _ h), and_r _ _ (and_l _ _ h), and_l _ _ (and_r _ _ h), and_r _ _ (and_r _ _ h))

  pub composed-i : (k a c : ℕ) (before : Bool)
      → trimmed N i j a ≡ true → N.domain k c ≡ true → joined N i j k a c ≡ true → before ≡ true
      → composed N i j k a c before ≡ true
  unfolding composed
  composed-i k a c before t d g b = and_i _ _ (and_i _ _ t d) (and_i _ _ g b)

  module _ (S : Sound N) where
    pub trimmed-i : (a b : ℕ) → N.domain i a ≡ true → N.domain j b ≡ true → N.allows i j a b ≡ true → trimmed N i j a ≡ true
    unfolding trimmed partner
    trimmed-i a b da db h = and_i _ _ da (some-i (N.size j) _ b (S.domain_in j b db) (and_i _ _ db h))

    pub joined-i : (k a b c : ℕ) → N.domain j b ≡ true → N.allows i j a b ≡ true → N.allows j k b c ≡ true
        → joined N i j k a c ≡ true
    unfolding joined
    joined-i k a b c db h g = some-i (N.size j) _ b (S.domain_in j b db) (and_i _ _ db (and_i _ _ h g))

    -- Through a functional pair a value has one partner.
    pub one-partner : functional N i j ≡ true → (a b c : ℕ) → N.domain i a ≡ true
        → N.domain j b ≡ true → N.allows i j a b ≡ true → N.domain j c ≡ true → N.allows i j a c ≡ true → b ≡ c
    unfolding partner
    one-partner F a b c da db hb dc hc =
        functional-e N i j F a b c (S.domain_in i a da) da (S.domain_in j b db) (S.domain_in j c dc) (and_i _ _ db hb) (and_i _ _ dc hc)

    -- So the pair made by rule 2 says what the pair i, k said before and what the pair j, k says of that partner.
    pub composed-at : functional N i j ≡ true → (k a b c : ℕ) (before : Bool)
        → N.domain i a ≡ true → N.domain j b ≡ true → N.domain k c ≡ true → N.allows i j a b ≡ true
        → composed N i j k a c before ≡ and before (N.allows j k b c)
    composed-at F k a b c before da db dc h =
        bool-ext _ _
        (λ p. let e = composed-e k a c before p in
        and_i _ _ e.3
        (joined-e k a c e.2
        (λ v dv av vc. subst (λ (w : ℕ). N.allows j k w c ≡ true) (one-partner F a v b da dv av db h) vc)))
        (λ p. composed-i k a c before (trimmed-i a b da db h) dc (joined-i k a b c db h (and_r _ _ p)) (and_l _ _ p))

-- What a pair says, if it is stated, it says from both sides.
pub both_sides : (N : Network) → Sound N → (x y a b : ℕ)
    → implies (N.stated x y) (N.allows x y a b) ≡ implies (N.stated y x) (N.allows y x b a)
both_sides N S x y a b = ap₂ implies (S.stated_sym x y) (S.allows_sym x y a b)

-- A pair seen from its two variables still says the same.
module _ (N : Network) (S : Sound N) (i j : ℕ) (T : ℕ → Bool) (M : Network) (m : MovedPairs N i j T M) where
  pub moved-stated-sym : (x y : ℕ) → M.stated x y ≡ M.stated y x
  moved-stated-sym =
      pair-case-sym i j T (λ (x y : ℕ). M.stated x y ≡ M.stated y x)
      (λ x y. sym)
      (λ k t. m.stated_moved.at_ik k t ∙ sym (m.stated_moved.at_ki k t))
      (λ k t. m.stated_moved.at_jk k t ∙ sym (m.stated_moved.at_kj k t))
      (λ x y r. m.stated_moved.elsewhere x y r ∙ (S.stated_sym x y ∙ sym (m.stated_moved.elsewhere y x (stays-sym i j T x y r))))

  pub moved-allows-sym : (x y a b : ℕ) → M.allows x y a b ≡ M.allows y x b a
  moved-allows-sym =
      pair-case-sym i j T (λ (x y : ℕ). (a b : ℕ) → M.allows x y a b ≡ M.allows y x b a)
      (λ x y h a b. sym (h b a))
      (λ k t a b. (m.allows_moved a b).at_ik k t
      ∙ (ap (composed N i j k a b) (both_sides N S i k a b) ∙ sym ((m.allows_moved b a).at_ki k t)))
      (λ k t a b. (m.allows_moved a b).at_jk k t ∙ sym ((m.allows_moved b a).at_kj k t))
      (λ x y r a b. (m.allows_moved a b).elsewhere x y r
      ∙ (S.allows_sym x y a b ∙ sym ((m.allows_moved b a).elsewhere y x (stays-sym i j T x y r))))
