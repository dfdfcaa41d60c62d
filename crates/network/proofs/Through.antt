-- What is functional before a step, and after it.
use mathlib.Core.Bool.{true}
use mathlib.Core.Path.{◌≡◌, sym, ◌∙◌, subst}
use Prim.Native.Nat.{ℕ}
use Rattle.bounded.specs.Bool.{implies}
use Rattle.bounded.proofs.Bool.{and_l, and_r, implies-e}
use Rattle.network.specs.Network.{Network, partner, functional}
use Rattle.network.specs.Sound.{Sound}
use Rattle.network.specs.Step.{trimmed, third, joined, eliminate, relisted, followers_trimmed, followed}
use Rattle.network.specs.Pairs.{Stays}
use Rattle.network.proofs.Step.{functional-i, one-partner, composed-e, joined-e, trimmed-domain, MovedPairs, domain-fewer, eliminate-moves}
use Rattle.network.proofs.Trim.{trim-fewer}

-- Fewer values and fewer allowed pairs are functional where more are.
pub functional-fewer : (N M : Network) → Sound N → (i j : ℕ)
    → ((x a : ℕ) → M.domain x a ≡ true → N.domain x a ≡ true)
    → ((a b : ℕ) → M.allows i j a b ≡ true → N.allows i j a b ≡ true)
    → functional N i j ≡ true → functional M i j ≡ true
unfolding partner
functional-fewer N M S i j values pairs F =
    functional-i M i j (λ a b c la da lb lc pb pc.
    one-partner N i j S F a b c (values i a da)
    (values j b (and_l _ _ pb)) (pairs a b (and_r _ _ pb)) (values j c (and_l _ _ pc)) (pairs a c (and_r _ _ pc)))

-- A step adds no value to a list,
pub followed-fewer : (N : Network) (i j x a : ℕ) → (followed N i j).domain x a ≡ true → N.domain x a ≡ true
unfolding followed
followed-fewer N i j x a h = domain-fewer N i j x a (trim-fewer (eliminate N i j) x a h)

-- and moves the pairs by rules 2 and 3 alone: the lists that it trims move none.
pub followed-moves : (N : Network) (i j : ℕ) → (i ≡ j → ⊥) → MovedPairs N i j (third N i j) (followed N i j)
unfolding followed followers_trimmed relisted
followed-moves N i j d = record { stated_moved = (eliminate-moves N i j d).stated_moved; allows_moved = (eliminate-moves N i j d).allows_moved }

-- In a step in which j comes to follow i:
module _ (N : Network) (S : Sound N) (i j : ℕ) (distinct : i ≡ j → ⊥) where
  -- a pair that stays remains functional,
  pub functional-stays : (x y : ℕ) → Stays i j (third N i j) x y → functional N x y ≡ true → functional (followed N i j) x y ≡ true
  functional-stays x y r =
      functional-fewer N (followed N i j) S x y (followed-fewer N i j)
      (λ a b h. sym (((followed-moves N i j distinct).allows_moved a b).elsewhere x y r) ∙ h)

  module _ (k : ℕ) (t : third N i j k ≡ true) where
    made : (a c : ℕ) → (followed N i j).allows i k a c ≡ true
        → (trimmed N i j a ≡ true) × (N.domain k c ≡ true) × (joined N i j k a c ≡ true) × (implies (N.stated i k) (N.allows i k a c) ≡ true)
    made a c h = composed-e N i j k a c _ (sym (((followed-moves N i j distinct).allows_moved a c).at_ik k t) ∙ h)

    made-back : (a c : ℕ) → (followed N i j).allows k i c a ≡ true
        → (trimmed N i j a ≡ true) × (N.domain k c ≡ true) × (joined N i j k a c ≡ true) × (implies (N.stated k i) (N.allows k i c a) ≡ true)
    made-back a c h = composed-e N i j k a c _ (sym (((followed-moves N i j distinct).allows_moved c a).at_ki k t) ∙ h)

    -- so does a pair that rule 2 cuts down,
    pub functional-cut : N.stated i k ≡ true → functional N i k ≡ true → functional (followed N i j) i k ≡ true
    functional-cut s = functional-fewer N (followed N i j) S i k (followed-fewer N i j) (λ a c h. implies-e _ _ (made a c h).3 s)

    -- and two functional pairs make one by rule 2,
    pub functional-through : functional N i j ≡ true → functional N j k ≡ true → functional (followed N i j) i k ≡ true
    unfolding partner
    functional-through F G =
        functional-i (followed N i j) i k (λ a b c la da lb lc pb pc.
        let eb = made a b (and_r _ _ pb) in
        let ec = made a c (and_r _ _ pc) in
        joined-e N i j k a b eb.2 (λ u du au ub.
        joined-e N i j k a c ec.2 (λ v dv av vc.
        one-partner N j k S G u b c du eb.1 ub ec.1
        (subst (λ (w : ℕ). N.allows j k w c ≡ true) (one-partner N i j S F a v u (followed-fewer N i j i a da) dv av du au) vc))))

    -- from its other side too.
    pub functional-back : functional N k j ≡ true → functional N j i ≡ true → functional (followed N i j) k i ≡ true
    unfolding partner
    functional-back F G =
        functional-i (followed N i j) k i (λ c a b lc dc la lb pa pb.
        let ea = made-back a c (and_r _ _ pa) in
        let eb = made-back b c (and_r _ _ pb) in
        joined-e N i j k a c ea.2 (λ u du au uc.
        joined-e N i j k b c eb.2 (λ v dv bv vc.
        let same = one-partner N k j S F c v u ea.1 dv (S.allows_sym k j c v ∙ vc) du (S.allows_sym k j c u ∙ uc) in
        one-partner N j i S G u a b du (trimmed-domain N i j a ea.0) (S.allows_sym j i u a ∙ au) (trimmed-domain N i j b eb.0)
        (S.allows_sym j i u b ∙ subst (λ (w : ℕ). N.allows i j b w ≡ true) same bv))))
