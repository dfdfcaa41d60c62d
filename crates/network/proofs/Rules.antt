-- The step does what the rules say, and the rules leave no choice.
use mathlib.Core.Bool.{Bool, true}
use mathlib.Core.Logic.{◌↔◌}
use mathlib.Core.Path.{◌≡◌, sym, ◌∙◌, ap}
use Prim.Native.Nat.{ℕ, suc}
use lib.Dec.{eqb}
use borrow.Author.Tests.{eqb-true, eqb-false}
use Rattle.bounded.proofs.Bool.{by_cases, clash, bool-ext, implies-i, implies-e}
use Rattle.bounded.proofs.Fold.{is-or-not}
use Rattle.network.specs.Network.{Network, free}
use Rattle.network.specs.Sound.{Sound}
use Rattle.network.specs.Step.{legal, trimmed, third, eliminate, relisted, followers_trimmed, followed}
use Rattle.network.specs.Rules.{Rules}
use Rattle.network.proofs.Pairs.{pair-case}
use Rattle.network.proofs.Sound.{free-i, led-not-free}
use Rattle.network.proofs.Step.{Legal, legal-e, same_n, same_size, domain-other, domain-fewer, leader-j, leader-of-j, leader_other, eliminate-moves}
use Rattle.network.proofs.Step.{trimmed-domain, trimmed-e, trimmed-i, joined-e, joined-i, composed-e, composed-i, moved-stated-sym, moved-allows-sym}
use Rattle.network.proofs.Trim.{trim-free, trim-led, trim-fewer, trim-keeps}
use Rattle.network.proofs.Keep.{eliminate-trimmable, i-stays-free, leader-domain, other-domain}
use Rattle.network.proofs.SheetOf.{network-ext}

-- "A value stays in a follower's list exactly when it is the partner of a value in the leader's list."
followed-trims : (N : Network) → Sound N → (i j : ℕ) → Legal N i j → (x b : ℕ) → (eliminate N i j).leader x ≡ suc i
    → ((followed N i j).domain x b ≡ true)
    ↔ ((N.domain x b ≡ true) × ((a : ℕ) × ((followed N i j).domain i a ≡ true) × ((eliminate N i j).allows i x a b ≡ true)))
unfolding followed eliminate
followed-trims N S i j L x b e =
    let M = eliminate N i j in
    let T = eliminate-trimmable N S i j L in
    let free-i-now : free M i ≡ true = free-i M i (i-stays-free N S i j L) in
    let other : x ≡ i → ⊥ = λ q. clash free-i-now (rw q at (led-not-free M x i e)) in (
      λ h. (
        domain-fewer N i j x b (trim-fewer M x b h),
        trimmed-e M x i b (sym (trim-led M x i b e) ∙ h)
            (λ a da ba. (a, trim-free M i a free-i-now ∙ da, T.pairs_alike i x a b ∙ ba)),
      ),
      λ h. let p = h.1 in
          trim-keeps M T x i p.0 b e (sym (trim-free M i p.0 free-i-now) ∙ p.1)
          (domain-other N i j x b other ∙ h.0) p.2,
    )

pub followed-rules : (N : Network) → Sound N → (i j : ℕ) → legal N i j ≡ true → Rules N i j (followed N i j)
unfolding followed followers_trimmed relisted
followed-rules N S i j legal-step =
    let L = legal-e N i j legal-step in
    let at_i = leader-domain N S i j L in
    let m = eliminate-moves N i j L.distinct in
    record {
      rule_1 =
          λ a. (
            λ h. let t : trimmed N i j a ≡ true = sym (at_i a) ∙ h in
                (trimmed-domain N i j a t, trimmed-e N i j a t (λ b db ab. (b, db, ab))),
            λ h. at_i a ∙ trimmed-i N i j S a h.1.0 h.0 h.1.1 h.1.2,
          );
      rule_1_rest = other-domain N S i j L;
      trimming = followed-trims N S i j L;
      rule_2_stated = m.stated_moved.at_ik;
      rule_2 =
          λ k a c t. (
            λ h. let e = composed-e N i j k a c _ (sym ((m.allows_moved a c).at_ik k t) ∙ h) in
                (at_i a ∙ e.0, e.1, joined-e N i j k a c e.2 (λ b db ab bc. (b, db, ab, bc)), implies-e _ _ e.3),
            λ h. let p = h.2 in
                (m.allows_moved a c).at_ik k t
                ∙ composed-i N i j k a c _ (sym (at_i a) ∙ h.0) h.1
                (joined-i N i j S k a p.0 c p.1 p.2 p.3) (implies-i _ _ h.3),
          );
      rule_2_side = λ k a c t. (moved-stated-sym N S i j _ _ m k i, moved-allows-sym N S i j _ _ m k i c a);
      rule_2_gone =
          λ k b c t. (m.stated_moved.at_jk k t, m.stated_moved.at_kj k t, (m.allows_moved b c).at_jk k t, (m.allows_moved c b).at_kj k t);
      rule_2_rest = λ x y a b r. (m.stated_moved.elsewhere x y r, (m.allows_moved a b).elsewhere x y r);
      rule_3_followers = leader-of-j N i j;
      rule_3 = leader-j N i j;
      rule_3_rest = leader_other N i j;
      same_n = same_n N i j;
      same_size = λ x. ap (λ (size : ℕ → ℕ). size x) (same_size N i j);
    }

-- Tests that hold under the same condition are equal.
pub same_test : {P : Type 0} (a b : Bool) → (a ≡ true) ↔ P → (b ≡ true) ↔ P → a ≡ b
same_test a b e f = bool-ext a b (λ h. f.1 (e.0 h)) (λ h. e.1 (f.0 h))

-- Two networks that the rules give are one.
module _ (N : Network) (i j : ℕ) (M P : Network) (R : Rules N i j M) (Q : Rules N i j P) where
  same-list : (a : ℕ) → M.domain i a ≡ P.domain i a
  same-list a = same_test _ _ (R.rule_1 a) (Q.rule_1 a)

  same_leader : (x : ℕ) → M.leader x ≡ P.leader x
  same_leader =
      is-or-not j (λ (x : ℕ). M.leader x ≡ P.leader x)
      (R.rule_3 ∙ sym Q.rule_3)
      (λ x d. by_cases (eqb (N.leader x) (suc j))
      (λ t. let e = eqb-true _ _ t in R.rule_3_followers x e ∙ sym (Q.rule_3_followers x e))
      (λ t. let e = eqb-false _ _ t in R.rule_3_rest x d e ∙ sym (Q.rule_3_rest x d e)))

  same_stated : (x y : ℕ) → M.stated x y ≡ P.stated x y
  same_stated =
      pair-case i j (third N i j) (λ (x y : ℕ). M.stated x y ≡ P.stated x y)
      ik
      (λ k t. (R.rule_2_side k 0 0 t).0 ∙ ik k t ∙ sym (Q.rule_2_side k 0 0 t).0)
      (λ k t. (R.rule_2_gone k 0 0 t).0 ∙ sym (Q.rule_2_gone k 0 0 t).0)
      (λ k t. (R.rule_2_gone k 0 0 t).1 ∙ sym (Q.rule_2_gone k 0 0 t).1)
      (λ x y r. (R.rule_2_rest x y 0 0 r).0 ∙ sym (Q.rule_2_rest x y 0 0 r).0)
    where
      ik : (k : ℕ) → third N i j k ≡ true → M.stated i k ≡ P.stated i k
      ik k t = R.rule_2_stated k t ∙ sym (Q.rule_2_stated k t)

  same_allows : (x y a b : ℕ) → M.allows x y a b ≡ P.allows x y a b
  same_allows =
      pair-case i j (third N i j) (λ (x y : ℕ). (a b : ℕ) → M.allows x y a b ≡ P.allows x y a b)
      ik
      (λ k t a b. (R.rule_2_side k b a t).1 ∙ ik k t b a ∙ sym (Q.rule_2_side k b a t).1)
      (λ k t a b. (R.rule_2_gone k a b t).2 ∙ sym (Q.rule_2_gone k a b t).2)
      (λ k t a b. (R.rule_2_gone k b a t).3 ∙ sym (Q.rule_2_gone k b a t).3)
      (λ x y r a b. (R.rule_2_rest x y a b r).1 ∙ sym (Q.rule_2_rest x y a b r).1)
    where
      ik : (k : ℕ) → third N i j k ≡ true → (a c : ℕ) → M.allows i k a c ≡ P.allows i k a c
      ik k t a c = same_test _ _ (R.rule_2 k a c t) (rw (same-list a) (Q.rule_2 k a c t))

  same-domain : (x a : ℕ) → M.domain x a ≡ P.domain x a
  same-domain x a =
      is-or-not i (λ (y : ℕ). M.domain y a ≡ P.domain y a)
      (same-list a)
      (λ y d. by_cases (eqb (M.leader y) (suc i))
      (λ t. let e = eqb-true _ _ t in
      let e' : P.leader y ≡ suc i = sym (same_leader y) ∙ e in
      bool-ext _ _
      (λ h. let p = (R.trimming y a e).0 h in
      (Q.trimming y a e').1 (p.0, (p.1.0, sym (same-list _) ∙ p.1.1, sym (same_allows i y _ a) ∙ p.1.2)))
      (λ h. let p = (Q.trimming y a e').0 h in
      (R.trimming y a e).1 (p.0, (p.1.0, same-list _ ∙ p.1.1, same_allows i y _ a ∙ p.1.2))))
      (λ t. let e = eqb-false _ _ t in
      R.rule_1_rest y a d e ∙ sym (Q.rule_1_rest y a d (λ q. e (same_leader y ∙ q))))) x

  pub rules-only : M ≡ P
  rules-only =
      network-ext M P (R.same_n ∙ sym Q.same_n) (λ x. R.same_size x ∙ sym (Q.same_size x)) same-domain same_leader same_stated same_allows
