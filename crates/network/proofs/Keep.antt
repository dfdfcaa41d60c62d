-- A legal step keeps the solutions (source document 000, Property 2), and with the trimming of followers a sound network sound.
use mathlib.Core.Bool.{Bool, true, false}
use mathlib.Core.Path.{◌≡◌, refl, sym, ◌∙◌, ap, ap₂}
use Prim.Native.Nat.{ℕ, suc, ◌≤◌, ◌<◌}
use native.Mathlib.Omega.{arith}
use lib.Dec.{eqb}
use borrow.Author.Tests.{eq-eqb, ne_eqb, eqb-true, eqb-false}
use Rattle.bounded.specs.Bool.{and, implies, not}
use Rattle.bounded.specs.Fold.{every, count}
use Rattle.bounded.proofs.Bool.{by_cases, clash, bool-ext, not-true→false, and_i, and_l, and_r, and-cong, and-false, and-true, true-and}
use Rattle.bounded.proofs.Bool.{not-i, not-false-i, implies-e, implies_true, implies-false}
use Rattle.bounded.proofs.Fold.{is-or-not, every-i, every-e, some-cong, pairs-e, count-cong, count-one}
use Rattle.network.specs.Network.{Network, free, partner, functional, in_domains, pairs_allow, solves}
use Rattle.network.specs.Sound.{Sound, Bounded}
use Rattle.network.specs.Step.{legal, trimmed, third, composed, eliminate, relisted, followers_trimmed, Trimmable, followed}
use Rattle.network.specs.Pairs.{Stays}
use Rattle.network.proofs.Pairs.{stays-sym, own-pair-stays, self-pair-stays, pair-case-sym, Moved, pairs-moved}
use Rattle.network.proofs.Sound.{free-e, free-i, led-not-free, free-or-led, domain-n}
use Rattle.network.proofs.Step.{Legal, legal-e, third-e, third-i, i-not-third, j-not-third, ij-stays}
use Rattle.network.proofs.Step.{same_n, domain-i, domain-other, domain-fewer, domain-kept, leader-j, leader-of-j, leader_other, leader-case}
use Rattle.network.proofs.Step.{MovedPairs, eliminate-moves, trimmed-domain, trimmed-e, trimmed-i, composed-e, one-partner, composed-at}
use Rattle.network.proofs.Step.{both_sides, moved-stated-sym, moved-allows-sym}
use Rattle.network.proofs.Trim.{trim-free, trim-led, trim-fewer, trim-one, trim-trims, trim-solves}

-- f meets the constraint of a pair, if there is one.
abbrev meets : Network → (ℕ → ℕ) → ℕ → ℕ → Bool
meets N f x y = implies (N.stated x y) (N.allows x y (f x) (f y))

-- Solutions are kept where pairs move through a functional pair: Properties 1 and 2 at once.
module _ (N : Network) (S : Sound N) (i j : ℕ) (distinct : i ≡ j → ⊥) (together : N.stated i j ≡ true) (F : functional N i j ≡ true)
    (T : ℕ → Bool) (thirds : (k : ℕ) → T k ≡ true → third N i j k ≡ true)
    (M : Network) (m : MovedPairs N i j T M) (f : ℕ → ℕ) where
  i_in : i < N.n
  i_in = (S.stated_in i j together).0

  j_in : j < N.n
  j_in = (S.stated_in i j together).1

  module _ (d : (x : ℕ) → x < N.n → N.domain x (f x) ≡ true) (h : N.allows i j (f i) (f j) ≡ true) where
    -- The pair j, k is met where the pair made from it is.
    made : (k : ℕ) → T k ≡ true → (before : Bool) → composed N i j k (f i) (f k) before ≡ and before (meets N f j k)
    made k t before =
        let jk : N.stated j k ≡ true = (third-e N i j k (thirds k t)).0 in
        composed-at N i j S F k (f i) (f j) (f k) before (d i i_in) (d j j_in) (d k (S.stated_in j k jk).1) h
        ∙ ap (and before) (sym (implies_true _ _ jk))

    meets-moved : Moved i j T
        (λ (x k : ℕ). and (meets N f x k) (meets N f j k)) (λ (k x : ℕ). and (meets N f k x) (meets N f k j)) true
        (meets N f) (meets M f)
    meets-moved =
        record {
          at_ik = λ k t. implies_true _ _ (m.stated_moved.at_ik k t) ∙ ((m.allows_moved _ _).at_ik k t ∙ made k t _);
          at_ki =
              λ k t. implies_true _ _ (m.stated_moved.at_ki k t)
              ∙ ((m.allows_moved _ _).at_ki k t ∙ (made k t _ ∙ ap (and (meets N f k i)) (both_sides N S j k (f j) (f k))));
          at_jk = λ k t. implies-false _ _ (m.stated_moved.at_jk k t);
          at_kj = λ k t. implies-false _ _ (m.stated_moved.at_kj k t);
          elsewhere = λ x y r. ap₂ implies (m.stated_moved.elsewhere x y r) ((m.allows_moved _ _).elsewhere x y r);
        }

    pairs-kept : every N.n (λ (x : ℕ). every N.n (meets M f x)) ≡ every N.n (λ (x : ℕ). every N.n (meets N f x))
    pairs-kept = pairs-moved N.n i j T (meets N f) (meets M f) i_in j_in meets-moved

  -- The pair i, j itself stays.
  own : Stays i j T i j
  own =
      own-pair-stays i j T
      (not-true→false _ (λ t. clash (thirds i t) (i-not-third N i j))) (not-true→false _ (λ t. clash (thirds j t) (j-not-third N i j))) distinct

  pub moved-solves : M.n ≡ N.n
      → ((x : ℕ) → M.domain x (f x) ≡ true → N.domain x (f x) ≡ true)
      → ((x : ℕ) → N.domain x (f x) ≡ true → (x ≡ i → trimmed N i j (f x) ≡ true) → M.domain x (f x) ≡ true)
      → solves M f ≡ solves N f
  unfolding solves in_domains pairs_allow
  moved-solves e lost kept =
      rw e
      (bool-ext _ _
      (λ h. let d : (x : ℕ) → x < N.n → N.domain x (f x) ≡ true = λ x l. lost x (every-e N.n _ (and_l _ _ h) x l) in
      let r : N.allows i j (f i) (f j) ≡ true =
      sym ((m.allows_moved _ _).elsewhere i j own)
      ∙ implies-e _ _ (pairs-e N.n (meets M f) (and_r _ _ h) i j i_in j_in) (m.stated_moved.elsewhere i j own ∙ together) in
      and_i _ _ (every-i N.n _ d) (sym (pairs-kept d r) ∙ and_r _ _ h))
      (λ h. let d : (x : ℕ) → x < N.n → N.domain x (f x) ≡ true = every-e N.n _ (and_l _ _ h) in
      let r : N.allows i j (f i) (f j) ≡ true = implies-e _ _ (pairs-e N.n (meets N f) (and_r _ _ h) i j i_in j_in) together in
      let t : trimmed N i j (f i) ≡ true = trimmed-i N i j S (f i) (f j) (d i i_in) (d j j_in) r in
      and_i _ _
      (every-i N.n _ (λ x l. kept x (d x l) (λ q. ap (λ (y : ℕ). trimmed N i j (f y)) q ∙ t)))
      (pairs-kept d r ∙ and_r _ _ h)))

-- Property 2: "the new problem .. obtained by the elimination of variable j using c_ij is equivalent".
pub eliminate-solves : (N : Network) → Sound N → (i j : ℕ) → legal N i j ≡ true → (f : ℕ → ℕ) → solves (eliminate N i j) f ≡ solves N f
eliminate-solves N S i j l f =
    let L : Legal N i j = legal-e N i j l in
    moved-solves N S i j L.distinct L.pair_stated L.is_functional (third N i j) (λ k t. t) (eliminate N i j)
    (eliminate-moves N i j L.distinct) f (same_n N i j) (λ x. domain-fewer N i j x (f x)) (λ x. domain-kept N i j x (f x))

-- A sound network stays sound.
module _ (N : Network) (S : Sound N) (i j : ℕ) (L : Legal N i j) where
  pairs : MovedPairs N i j (third N i j) (eliminate N i j)
  pairs = eliminate-moves N i j L.distinct

  now-sym : (x y : ℕ) → (eliminate N i j).stated x y ≡ (eliminate N i j).stated y x
  now-sym = moved-stated-sym N S i j _ _ pairs

  now-allows-sym : (x y a b : ℕ) → (eliminate N i j).allows x y a b ≡ (eliminate N i j).allows y x b a
  now-allows-sym = moved-allows-sym N S i j _ _ pairs

  k_in : (k : ℕ) → third N i j k ≡ true → k < N.n
  k_in k t = (S.stated_in j k (third-e N i j k t).0).1

  now-stated-in : (x y : ℕ) → (eliminate N i j).stated x y ≡ true → (x < N.n) × (y < N.n)
  now-stated-in =
      pair-case-sym i j (third N i j) (λ (x y : ℕ). (eliminate N i j).stated x y ≡ true → (x < N.n) × (y < N.n))
      (λ x y h s. let r = h (now-sym x y ∙ s) in (r.1, r.0))
      (λ k t s. (L.i_in, k_in k t))
      (λ k t s. clash s (pairs.stated_moved.at_jk k t))
      (λ x y r s. S.stated_in x y (sym (pairs.stated_moved.elsewhere x y r) ∙ s))

  now-allows-stated : (x y a b : ℕ) → (eliminate N i j).allows x y a b ≡ true → (eliminate N i j).stated x y ≡ true
  now-allows-stated =
      pair-case-sym i j (third N i j)
      (λ (x y : ℕ). (a b : ℕ) → (eliminate N i j).allows x y a b ≡ true → (eliminate N i j).stated x y ≡ true)
      (λ x y h a b s. now-sym y x ∙ h b a (now-allows-sym x y b a ∙ s))
      (λ k t a b s. pairs.stated_moved.at_ik k t)
      (λ k t a b s. clash s ((pairs.allows_moved a b).at_jk k t))
      (λ x y r a b s. pairs.stated_moved.elsewhere x y r ∙ S.allows_stated x y a b (sym ((pairs.allows_moved a b).elsewhere x y r) ∙ s))

  now-allows-in : (x y a b : ℕ) → (eliminate N i j).allows x y a b ≡ true → (a < N.size x) × (b < N.size y)
  now-allows-in =
      pair-case-sym i j (third N i j) (λ (x y : ℕ). (a b : ℕ) → (eliminate N i j).allows x y a b ≡ true → (a < N.size x) × (b < N.size y))
      (λ x y h a b s. let r = h b a (now-allows-sym x y b a ∙ s) in (r.1, r.0))
      (λ k t a b s. let e = composed-e N i j k a b _ (sym ((pairs.allows_moved a b).at_ik k t) ∙ s) in
      (S.domain_in i a (trimmed-domain N i j a e.0), S.domain_in k b e.1))
      (λ k t a b s. clash s ((pairs.allows_moved a b).at_jk k t))
      (λ x y r a b s. S.allows_in x y a b (sym ((pairs.allows_moved a b).elsewhere x y r) ∙ s))

  now-domain-in : (x a : ℕ) → (eliminate N i j).domain x a ≡ true → a < N.size x
  now-domain-in x a h = S.domain_in x a (domain-fewer N i j x a h)

  -- A free variable other than j stays free.
  stays-free : (x : ℕ) → N.leader x ≡ 0 → (x ≡ j → ⊥) → (eliminate N i j).leader x ≡ 0
  stays-free x h d = leader_other N i j x d (λ e. let z : ⊥ = omega arith in z) ∙ h

  pub i-stays-free : (eliminate N i j).leader i ≡ 0
  i-stays-free = stays-free i (free-e N i L.i_free) L.distinct

  now-leader-free : (x l : ℕ) → (eliminate N i j).leader x ≡ suc l → (l < N.n) × ((eliminate N i j).leader l ≡ 0)
  now-leader-free =
      leader-case N i j (λ (x l : ℕ). (l < N.n) × ((eliminate N i j).leader l ≡ 0))
      (L.i_in, i-stays-free)
      (λ x h. (L.i_in, i-stays-free))
      (λ x l h d e. let r = S.leader_free x l h in (r.0, stays-free l r.1 e))

  -- Rules 1 to 3 leave what can be trimmed,
  pub eliminate-trimmable : Trimmable (eliminate N i j)
  unfolding eliminate
  eliminate-trimmable = record { values_in = now-domain-in; pairs_alike = now-allows-sym; leaders_free = now-leader-free }

  -- and what arrays hold.
  pub eliminate-bounded : (m w : ℕ) → N.n ≤ m → N.n ≤ w → ((x : ℕ) → N.size x ≤ w) → Bounded m w (eliminate N i j)
  unfolding eliminate
  eliminate-bounded m w held told within =
      record {
        size_bound = λ x l. S.size_past x (omega arith);
        leader_bound = λ x l. let below : j < N.n = L.j_in in stays-free x (S.leader_past x (omega arith)) (omega arith);
        domain_bound = λ x a d.
            (omega (arith, domain-n N S x a (domain-fewer N i j x a d)), omega (arith, now-domain-in x a d, within x));
        stated_bound = λ x y s. omega (arith, now-stated-in x y s);
        allows_bound = λ x y a b r.
            let s = now-stated-in x y (now-allows-stated x y a b r) in
            let v = now-allows-in x y a b r in
            (omega arith, omega arith, omega (arith, within x), omega (arith, within y));
      }

  -- What follows is not what is free.
  not_free : (x y l : ℕ) → N.leader x ≡ suc l → free N y ≡ true → x ≡ y → ⊥
  not_free x y l h g e = omega (arith, free-e N y g, ap N.leader e)

  -- A follower of j is a third variable.
  follower-third : (x : ℕ) → N.leader x ≡ suc j → third N i j x ≡ true
  follower-third x h =
      third-i N i j x (S.stated_sym j x ∙ S.follower_stated x j h) (not_free x i j h L.i_free) (not_free x j j h L.j_free)

  -- A follower's pairs stay, unless it is a third variable and the other is i or j.
  follower-stays : (x l : ℕ) → N.leader x ≡ suc l
      → (y : ℕ) → (y ≡ i → third N i j x ≡ false) → (y ≡ j → third N i j x ≡ false) → Stays i j (third N i j) x y
  follower-stays x l h y ni nj =
      record {
        left_i = λ e. absurd (not_free x i l h L.i_free e);
        right_i = ni;
        left_j = λ e. absurd (not_free x j l h L.j_free e);
        right_j = nj;
      }

  -- A follower of another leader than j is not a third variable: all its pairs stay.
  other-follower-stays : (x l : ℕ) → N.leader x ≡ suc l → (l ≡ j → ⊥) → (y : ℕ) → Stays i j (third N i j) x y
  other-follower-stays x l h d y = follower-stays x l h y (λ e. no_third) (λ e. no_third)
    where
      no_third : third N i j x ≡ false
      no_third = not-true→false _ (λ t. d (sym (S.follower_only x l j h (S.stated_sym x j ∙ (third-e N i j x t).0))))

  now-follower-stated : (x l : ℕ) → (eliminate N i j).leader x ≡ suc l → (eliminate N i j).stated x l ≡ true
  now-follower-stated =
      leader-case N i j (λ (x l : ℕ). (eliminate N i j).stated x l ≡ true)
      (now-sym j i ∙ (pairs.stated_moved.elsewhere i j (ij-stays N i j L.distinct) ∙ L.pair_stated))
      (λ x h. pairs.stated_moved.at_ki x (follower-third x h))
      (λ x l h d e. pairs.stated_moved.elsewhere x l (other-follower-stays x l h e l) ∙ S.follower_stated x l h)

  -- j is stated with i alone,
  j-only : (k : ℕ) → (eliminate N i j).stated j k ≡ true → k ≡ i
  j-only k s =
      by_cases (third N i j k)
      (λ t. clash s (pairs.stated_moved.at_jk k t))
      (λ t. let old : N.stated j k ≡ true = sym (pairs.stated_moved.elsewhere j k (stays t)) ∙ s in
      by_cases (eqb k i)
      (λ e. eqb-true k i e)
      (λ e. clash (third-i N i j k old (eqb-false k i e) (λ q. clash old (ap (N.stated j) q ∙ S.no_self j))) t))
    where
      stays : third N i j k ≡ false → Stays i j (third N i j) j k
      stays t =
          record {
            left_i = λ e. absurd (L.distinct (sym e));
            right_i = λ e. j-not-third N i j;
            left_j = λ e. t;
            right_j = λ e. j-not-third N i j;
          }

  -- and so are those that followed j.
  follower-only-i : (x : ℕ) → N.leader x ≡ suc j → (k : ℕ) → (eliminate N i j).stated x k ≡ true → k ≡ i
  follower-only-i x h =
      is-or-not i (λ (k : ℕ). (eliminate N i j).stated x k ≡ true → k ≡ i) (λ s. refl)
      (λ k ki s. absurd
      (is-or-not j (λ (k : ℕ). (k ≡ i → ⊥) → (eliminate N i j).stated x k ≡ true → ⊥)
      (λ ji s. clash s (pairs.stated_moved.at_kj x (follower-third x h)))
      (λ k kj ki s. kj (S.follower_only x j k h (sym (pairs.stated_moved.elsewhere x k (stays k ki kj)) ∙ s)))
      k ki s))
    where
      stays : (k : ℕ) → (k ≡ i → ⊥) → (k ≡ j → ⊥) → Stays i j (third N i j) x k
      stays k ki kj = follower-stays x j h k (λ e. absurd (ki e)) (λ e. absurd (kj e))

  now-follower-only : (k x l : ℕ) → (eliminate N i j).leader x ≡ suc l → (eliminate N i j).stated x k ≡ true → k ≡ l
  now-follower-only k =
      leader-case N i j (λ (x l : ℕ). (eliminate N i j).stated x k ≡ true → k ≡ l)
      (j-only k)
      (λ x h. follower-only-i x h k)
      (λ x l h d e s. S.follower_only x l k h (sym (pairs.stated_moved.elsewhere x k (other-follower-stays x l h e k)) ∙ s))

  -- A value of i has the partners in an old follower of j that its one partner in j has.
  partner-through : (x : ℕ) → N.leader x ≡ suc j → (a b c : ℕ) → N.domain i a ≡ true → N.domain j b ≡ true → N.allows i j a b ≡ true
      → partner (eliminate N i j) i x a c ≡ partner N j x b c
  unfolding partner
  partner-through x h a b c da db ab =
      ap₂ and (domain-other N i j x c (not_free x i j h L.i_free)) ((pairs.allows_moved a c).at_ik x (follower-third x h))
      ∙ and-cong _ _ _
      (λ dc. composed-at N i j S L.is_functional x a b c _ da db dc ab
      ∙ (ap (λ (t : Bool). and t (N.allows j x b c)) (implies-false _ _ unstated) ∙ true-and _))
    where
      unstated : N.stated i x ≡ false
      unstated = not-true→false _ (λ t. L.distinct (S.follower_only x j i h (S.stated_sym x i ∙ t)))

  -- The partners of i in j, and of any variable in a follower of another leader, stay.
  partner-stays : (l x a c : ℕ) → (x ≡ i → ⊥) → Stays i j (third N i j) l x → partner (eliminate N i j) l x a c ≡ partner N l x a c
  unfolding partner
  partner-stays l x a c d r = ap₂ and (domain-other N i j x c d) ((pairs.allows_moved a c).elsewhere l x r)

  now-follower-one : (a x l : ℕ) → (eliminate N i j).leader x ≡ suc l → (eliminate N i j).domain l a ≡ true
      → count (N.size x) (partner (eliminate N i j) l x a) ≡ 1
  unfolding partner
  now-follower-one a =
      leader-case N i j (λ (x l : ℕ). (eliminate N i j).domain l a ≡ true → count (N.size x) (partner (eliminate N i j) l x a) ≡ 1)
      (λ da. trimmed-e N i j a (sym (domain-i N i j a) ∙ da)
      (λ b db ab. count-cong (N.size j) _ _ (λ c lc. partner-stays i j a c (λ e. L.distinct (sym e)) (ij-stays N i j L.distinct))
      ∙ count-one (N.size j) (partner N i j a) b (S.domain_in j b db) (and_i _ _ db ab)
      (λ c lc p. one-partner N i j S L.is_functional a c b (domain-fewer N i j i a da) (and_l _ _ p) (and_r _ _ p) db ab)))
      (λ x h da. trimmed-e N i j a (sym (domain-i N i j a) ∙ da)
      (λ b db ab. count-cong (N.size x) _ _ (λ c lc. partner-through x h a b c (domain-fewer N i j i a da) db ab)
      ∙ S.follower_one x j b h db))
      (λ x l h d e da. count-cong (N.size x) _ _
      (λ c lc. partner-stays l x a c (not_free x i l h L.i_free) (stays-sym i j _ x l (other-follower-stays x l h e l)))
      ∙ S.follower_one x l a h (domain-fewer N i j l a da))

  -- The values of i are those that rule 1 leaves,
  pub leader-domain : (a : ℕ) → (followed N i j).domain i a ≡ trimmed N i j a
  unfolding followed
  leader-domain a = trim-free (eliminate N i j) i a (free-i _ i i-stays-free) ∙ domain-i N i j a

  -- a follower of another leader is trimmed already,
  other-led : (a x l : ℕ) → (eliminate N i j).leader x ≡ suc l → (l ≡ i → ⊥) → (followed N i j).domain x a ≡ N.domain x a
  unfolding followed trimmed eliminate
  other-led a =
      leader-case N i j (λ (x l : ℕ). (l ≡ i → ⊥) → (followed N i j).domain x a ≡ N.domain x a)
      (λ d. absurd (d refl))
      (λ x h d. absurd (d refl))
      (λ x l h xj lj d.
      let same = domain-other N i j x a (not_free x i l h L.i_free) in
      trim-led (eliminate N i j) x l a (leader_other N i j x xj (λ e. lj (let q : l ≡ j = omega arith in q)) ∙ h)
      ∙ bool-ext _ _
      (λ t. sym same ∙ and_l _ _ t)
      (λ t. and_i _ _ (same ∙ t)
      (some-cong (N.size l) _ _ (λ b _. partner-stays x l a b d (other-follower-stays x l h lj l)) ∙ S.follower_trimmed x l a h t)))

  -- and so only i and those that follow it now lose values.
  pub other-domain : (x a : ℕ) → (x ≡ i → ⊥) → ((eliminate N i j).leader x ≡ suc i → ⊥) → (followed N i j).domain x a ≡ N.domain x a
  unfolding followed
  other-domain x a d e =
      free-or-led (eliminate N i j) x
      (λ t. trim-free (eliminate N i j) x a t ∙ domain-other N i j x a d)
      (λ l h. other-led a x l h (λ q. e (h ∙ ap suc q)))

pub followed-sound : (N : Network) → Sound N → (i j : ℕ) → legal N i j ≡ true → Sound (followed N i j)
unfolding eliminate relisted followers_trimmed followed
followed-sound N S i j legal-step =
    let L : Legal N i j = legal-e N i j legal-step in
    let M = eliminate N i j in
    let T = eliminate-trimmable N S i j L in
    record {
      some_variable = S.some_variable;
      sizes = S.sizes;
      size_past = S.size_past;
      domain_in = λ x a h. now-domain-in N S i j L x a (trim-fewer M x a h);
      leader_past = λ x h. let l : j < N.n = L.j_in in stays-free N S i j L x (S.leader_past x h) (omega arith);
      stated_in = now-stated-in N S i j L;
      no_self = λ x. (pairs N S i j L).stated_moved.elsewhere x x (self-pair-stays i j _ (i-not-third N i j) (j-not-third N i j) x) ∙ S.no_self x;
      stated_sym = now-sym N S i j L;
      allows_stated = now-allows-stated N S i j L;
      allows_in = now-allows-in N S i j L;
      allows_sym = now-allows-sym N S i j L;
      leader_free = now-leader-free N S i j L;
      follower_stated = now-follower-stated N S i j L;
      follower_only = λ x l k. now-follower-only N S i j L k x l;
      follower_one = λ x l a e h. let d = trim-fewer M l a h in trim-one M T x l a e d (now-follower-one N S i j L a x l e d);
      follower_trimmed = λ x l b e h. trim-trims M T x l b e h;
    }

-- and the whole step keeps the solutions.
pub followed-solves : (N : Network) → Sound N → (i j : ℕ) → legal N i j ≡ true → (f : ℕ → ℕ) → solves (followed N i j) f ≡ solves N f
unfolding followed
followed-solves N S i j l f = trim-solves (eliminate N i j) (followed-sound N S i j l) f ∙ eliminate-solves N S i j l f

-- j is no longer free, and every other variable is as free as it was.
pub free-after : (N : Network) (i j x : ℕ) → free (followed N i j) x ≡ and (free N x) (not (eqb x j))
unfolding free followed followers_trimmed relisted
free-after N i j =
    is-or-not j (λ (x : ℕ). free (eliminate N i j) x ≡ and (free N x) (not (eqb x j)))
    (led-not-free (eliminate N i j) j i (leader-j N i j) ∙ sym (ap (and (free N j)) (not-false-i _ (eq-eqb j j refl)) ∙ and-false _))
    (λ x d. others x d ∙ sym (ap (and (free N x)) (not-i _ (ne_eqb x j d)) ∙ and-true _))
  where
    others : (x : ℕ) → (x ≡ j → ⊥) → free (eliminate N i j) x ≡ free N x
    others x d =
        by_cases (eqb (N.leader x) (suc j))
        (λ t. let h : N.leader x ≡ suc j = eqb-true _ _ t in
        led-not-free (eliminate N i j) x i (leader-of-j N i j x h) ∙ sym (led-not-free N x j h))
        (λ t. ap (λ (v : ℕ). eqb v 0) (leader_other N i j x d (eqb-false _ _ t)))
