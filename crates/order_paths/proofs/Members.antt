-- A word that is walked member by member, lowest first, and of which those that pass a test are kept, for any width w.
use mathlib.Core.Bool.{Bool, true, false}
use mathlib.Core.Path.{◌≡◌, refl, sym, ap, ◌∙◌}
use Prim.Native.Nat.{ℕ, ◌^◌, ◌<◌}
use lib.Dec.{eqb}
use borrow.Author.Tests.{eqb-true, eq-eqb}
use Rattle.bounded.specs.Bool.{and, or}
use Rattle.bounded.specs.Bool as b
use Rattle.bounded.specs.Fold.{first}
use Rattle.bounded.proofs.Bool.{by_cases, clash, bool-ext, not-true→false, and_i, and_l, and_r, and-true, and-holds, and-fails, or_l, or_r, or_elim, not-i, not-e}
use Rattle.words.specs.Word.{has, word}
use Rattle.words.proofs.Laws.{has-ruled, has-zero, is_word, word-cong, word_none}
use Rattle.pairs.proofs.Runs.{Within, lowest-in, rest-is, rest_lt, rest-within}

-- A word and one value more, or none.
pub joined-not : (w x v : ℕ) {t : Bool} → x < 2 ^ w → t ≡ false → x ≡ word w (λ (u : ℕ). or (has x u) (and t (eqb u v)))
joined-not w x v h f = is_word w x _ h λ u l. bool-ext _ _ (or_l _ _) (λ m. or_elim _ _ m (λ p. p) (λ p. clash (and_l _ _ p) f))

pub joined-one : (w x v : ℕ) {t : Bool} {one r : ℕ} → t ≡ true → one ≡ word w (λ (u : ℕ). eqb u v)
    → r ≡ word w (λ (u : ℕ). or (has x u) (has one u)) → r ≡ word w (λ (u : ℕ). or (has x u) (and t (eqb u v)))
joined-one w x v y oe re = re ∙ word-cong w _ _ λ u l. ap (or (has x u)) (has-ruled w _ oe u l ∙ sym (and-holds _ _ y))

-- Of the members of the set that are not in the rest, those that pass are kept.
pub record Kept (w set : ℕ) (p : ℕ → Bool) (rest kept : ℕ) : Type 0 where
  pub rest_fits : rest < 2 ^ w
  pub rest_in : Within rest set
  pub kept_is : kept ≡ word w (λ (v : ℕ). and (and (has set v) (b.not (has rest v))) (p v))

module _ (w : ℕ) {set : ℕ} {p : ℕ → Bool} where
  pub kept-none : {rest : ℕ} → rest ≡ set → set < 2 ^ w → Kept w set p rest 0
  kept-none e h =
      rw e record {
        rest_fits = h;
        rest_in = λ u t. t;
        kept_is = sym (word_none w _ λ v l. not-true→false _ λ t. let s = and_l _ _ t in clash (and_l _ _ s) (not-e _ (and_r _ _ s)));
      }

  pub kept-all : {rest kept : ℕ} → rest ≡ 0 → Kept w set p rest kept → kept ≡ word w (λ (v : ℕ). and (has set v) (p v))
  unfolding b.not
  kept-all z K = K.kept_is ∙ word-cong w _ _ λ v l. ap (λ (t : Bool). and t (p v)) (rw (z, has-zero v) (and-true (has set v)))

  pub kept_next : {rest kept a : ℕ} → Kept w set p rest kept → (rest ≡ 0 → ⊥) → a ≡ first w (has rest) → has set a ≡ true
  kept_next {rest} {kept} {a} K n low = K.rest_in _ (lowest-in w rest a K.rest_fits n low).1

  pub kept_more : {rest kept a kept' rest' : ℕ} {t : Bool} → Kept w set p rest kept → (rest ≡ 0 → ⊥) → a ≡ first w (has rest) → t ≡ p a
      → kept' ≡ word w (λ (u : ℕ). or (has kept u) (and t (eqb u a)))
      → rest' ≡ word w (λ (u : ℕ). and (has rest u) (b.not (eqb u (first w (has rest)))))
      → Kept w set p rest' kept'
  kept_more {rest} {kept} {a} {rest'} {t} K n low te ke re =
      let i = lowest-in w rest a K.rest_fits n low in
      let is = rest-is w K.rest_fits n low re in
      record {
        rest_fits = rest_lt w K.rest_fits n low re;
        rest_in = rest-within w K.rest_fits n low re set K.rest_in;
        kept_is =
            ke
            ∙ word-cong w _ _ λ v l. bool-ext _ _
            (λ m. or_elim _ _ m
            (λ q. let o = sym (has-ruled w _ K.kept_is v l) ∙ q in let s = and_l _ _ o in
            and_i _ _ (and_i _ _ (and_l _ _ s) (not-i _ (is v l ∙ and-fails _ _ (not-e _ (and_r _ _ s))))) (and_r _ _ o))
            (λ q. let e = eqb-true v a (and_r _ _ q) in
            rw e (and_i _ _ (and_i _ _ (K.rest_in a i.1) (not-i _ (gone i.0))) (sym te ∙ and_l _ _ q))))
            (λ m. let s = and_l _ _ m in by_cases (eqb v a)
            (λ y. or_r _ _ (and_i _ _ (te ∙ ap p (sym (eqb-true v a y)) ∙ and_r _ _ m) y))
            (λ y. or_l _ _ (has-ruled w _ K.kept_is v l ∙ and_i _ _ (and_i _ _ (and_l _ _ s)
            (not-i _ (not-true→false _ λ z. clash (is v l ∙ and_i _ _ z (not-i _ y)) (not-e _ (and_r _ _ s))))) (and_r _ _ m))));
      }
    where
      gone : a < w → has rest' a ≡ false
      gone l = not-true→false _ λ m. clash (eq-eqb a a refl) (not-e _ (and_r _ _ (sym (rest-is w K.rest_fits n low re a l) ∙ m)))
