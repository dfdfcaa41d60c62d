-- Rule 2 is substitution in each pair j, k, and a substitution keeps the solutions (source document 000, Definition 1 and Property 1).
use mathlib.Core.Bool.{true, false}
use mathlib.Core.Path.{◌≡◌, refl, sym, ◌∙◌, ap}
use Prim.Native.Nat.{ℕ}
use lib.Dec.{eqb}
use borrow.Author.Tests.{eqb-true, eq-eqb, ne_eqb}
use Rattle.bounded.specs.Bool.{or, implies, if}
use Rattle.bounded.proofs.Bool.{bool-ext, and_i, and_l, and_r, and_comm, implies-i, implies-e, if-or}
use Rattle.bounded.proofs.Fold.{some-i, some-e}
use Rattle.network.specs.Network.{Network, functional, solves}
use Rattle.network.specs.Sound.{Sound}
use Rattle.network.specs.Step.{third, composed, eliminate}
use Rattle.network.specs.Substitution.{relation, compose, substituted, is_pair, substitute}
use Rattle.network.proofs.Pairs.{Moved, moved}
use Rattle.network.proofs.Step.{third-e, MovedPairs, eliminate-moves, trimmed-domain, trimmed-i, joined-e, joined-i, composed-e, composed-i}
use Rattle.network.proofs.Step.{both_sides, moved-stated-sym, moved-allows-sym}
use Rattle.network.proofs.Keep.{moved-solves}

-- The constraint of a stated pair, between values of the domains.
relation-i : (N : Network) (x y a b : ℕ) → N.domain x a ≡ true → N.domain y b ≡ true → (N.stated x y ≡ true → N.allows x y a b ≡ true)
    → relation N x y a b ≡ true
unfolding relation
relation-i N x y a b da db h = and_i _ _ (and_i _ _ da db) (implies-i _ _ h)

relation-e : (N : Network) (x y a b : ℕ) → relation N x y a b ≡ true
    → (N.domain x a ≡ true) × (N.domain y b ≡ true) × (N.stated x y ≡ true → N.allows x y a b ≡ true)
unfolding relation
relation-e N x y a b h = (and_l _ _ (and_l _ _ h), and_r _ _ (and_l _ _ h), implies-e _ _ (and_r _ _ h))

-- Two networks say the same of a pair.
pub record SamePair (M P : Network) (x y : ℕ) : Type 0 where
  pub same_stated : M.stated x y ≡ P.stated x y
  pub same_allows : (a b : ℕ) → M.allows x y a b ≡ P.allows x y a b

module _ (N : Network) (S : Sound N) (i j : ℕ) (distinct : i ≡ j → ⊥) (together : N.stated i j ≡ true) where
  -- c'_ik is what rule 2 makes of the pair i, k.
  pub substituted-composed : (k : ℕ) → third N i j k ≡ true
      → (a c : ℕ) → substituted N i j k a c ≡ composed N i j k a c (implies (N.stated i k) (N.allows i k a c))
  unfolding substituted compose
  substituted-composed k t a c =
      let jk : N.stated j k ≡ true = (third-e N i j k t).0 in
      bool-ext _ _
      (λ h. let r = relation-e N i k a c (and_l _ _ h) in
      some-e (N.size j) _ (and_r _ _ h)
      (λ b l p. let db : N.domain j b ≡ true = and_l _ _ p in
      let ab : N.allows i j a b ≡ true = (relation-e N i j a b (and_l _ _ (and_r _ _ p))).2 together in
      let bc : N.allows j k b c ≡ true = (relation-e N j k b c (and_r _ _ (and_r _ _ p))).2 jk in
      composed-i N i j k a c _ (trimmed-i N i j S a b r.0 db ab) r.1 (joined-i N i j S k a b c db ab bc) (implies-i _ _ r.2)))
      (λ h. let e = composed-e N i j k a c _ h in
      let da : N.domain i a ≡ true = trimmed-domain N i j a e.0 in
      and_i _ _ (relation-i N i k a c da e.1 (implies-e _ _ e.3))
      (joined-e N i j k a c e.2
      (λ b db ab bc. some-i (N.size j) _ b (S.domain_in j b db)
      (and_i _ _ db (and_i _ _ (relation-i N i j a b da db (λ s. ab)) (relation-i N j k b c db e.1 (λ s. bc)))))))

  module _ (k : ℕ) (t : third N i j k ≡ true) where
    only_third : (x : ℕ) → eqb x k ≡ true → third N i j x ≡ true
    only_third x h = ap (third N i j) (eqb-true x k h) ∙ t

    -- A table in which the one pair j, k moves.
    one-moved : {A : Type 0} (new-ik new-ki gone : A) (old now : ℕ → ℕ → A)
        → ((x y : ℕ) → now x y
        ≡ if (is_pair i k x y) new-ik (if (is_pair k i x y) new-ki (if (or (is_pair j k x y) (is_pair k j x y)) gone (old x y))))
        → Moved i j (λ (x : ℕ). eqb x k) (λ (x y : ℕ). new-ik) (λ (x y : ℕ). new-ki) gone old now
    unfolding is_pair
    one-moved new-ik new-ki gone old now h =
        moved i j (λ (x : ℕ). eqb x k) _ _ gone old distinct
        (ne_eqb i k (λ e. (third-e N i j k t).1 (sym e))) (ne_eqb j k (λ e. (third-e N i j k t).2 (sym e)))
        (λ x y. h x y ∙ rw (and_comm (eqb x k) (eqb y i), and_comm (eqb x k) (eqb y j)))

    -- So a substitution in one pair moves that pair as a step moves all.
    pub substitute-moves : MovedPairs N i j (λ (x : ℕ). eqb x k) (substitute N i j k)
    unfolding substitute
    substitute-moves =
        record {
          stated_moved = one-moved true true false N.stated _ (λ x y. simp if-or);
          allows_moved =
              λ a b. let p = one-moved (substituted N i j k a b) (substituted N i j k b a) false (λ (x y : ℕ). N.allows x y a b) _ (λ x y. refl) in
              record {
                at_ik = λ x h. p.at_ik x h ∙ made x h a b;
                at_ki = λ x h. p.at_ki x h ∙ (made x h b a ∙ ap (composed N i j x b a) (both_sides N S i x b a));
                at_jk = p.at_jk;
                at_kj = p.at_kj;
                elsewhere = p.elsewhere;
              };
        }
      where
        made : (x : ℕ) → eqb x k ≡ true
            → (a c : ℕ) → substituted N i j k a c ≡ composed N i j x a c (implies (N.stated i x) (N.allows i x a c))
        made x h a c = ap (λ (y : ℕ). substituted N i j y a c) (sym (eqb-true x k h)) ∙ substituted-composed x (only_third x h) a c

    -- Property 1: "the new problem obtained by substituting i for j in c_jk is equivalent".
    pub substitute-solves : functional N i j ≡ true → (f : ℕ → ℕ) → solves (substitute N i j k) f ≡ solves N f
    unfolding substitute
    substitute-solves F f =
        moved-solves N S i j distinct together F (λ (x : ℕ). eqb x k) only_third (substitute N i j k) substitute-moves f refl (λ x h. h) (λ x h q. h)

    -- Rule 2: of the pairs i, k and j, k, seen from both sides, the step leaves what the substitution in c_jk leaves.
    pub rule-2-substitutes :
        SamePair (eliminate N i j) (substitute N i j k) i k × SamePair (eliminate N i j) (substitute N i j k) k i
        × SamePair (eliminate N i j) (substitute N i j k) j k × SamePair (eliminate N i j) (substitute N i j k) k j
    rule-2-substitutes = (ik, turned i k ik, jk, turned j k jk)
      where
        e : MovedPairs N i j (third N i j) (eliminate N i j)
        e = eliminate-moves N i j distinct

        s : MovedPairs N i j (λ (x : ℕ). eqb x k) (substitute N i j k)
        s = substitute-moves

        u : eqb k k ≡ true
        u = eq-eqb k k refl

        ik : SamePair (eliminate N i j) (substitute N i j k) i k
        ik =
            record {
              same_stated = e.stated_moved.at_ik k t ∙ sym (s.stated_moved.at_ik k u);
              same_allows = λ a b. (e.allows_moved a b).at_ik k t ∙ sym ((s.allows_moved a b).at_ik k u);
            }

        jk : SamePair (eliminate N i j) (substitute N i j k) j k
        jk =
            record {
              same_stated = e.stated_moved.at_jk k t ∙ sym (s.stated_moved.at_jk k u);
              same_allows = λ a b. (e.allows_moved a b).at_jk k t ∙ sym ((s.allows_moved a b).at_jk k u);
            }

        turned : (x y : ℕ) → SamePair (eliminate N i j) (substitute N i j k) x y → SamePair (eliminate N i j) (substitute N i j k) y x
        turned x y p =
            record {
              same_stated = moved-stated-sym N S i j _ _ e y x ∙ (p.same_stated ∙ moved-stated-sym N S i j _ _ s x y);
              same_allows = λ a b. moved-allows-sym N S i j _ _ e y x a b ∙ (p.same_allows b a ∙ moved-allows-sym N S i j _ _ s x y b a);
            }
