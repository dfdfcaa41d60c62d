-- Rows of the lower variable that share no value: then no value of the other has two partners. For any number w of values.
use mathlib.Core.Bool.{Bool, true, false}
use mathlib.Core.List.{List}
use mathlib.Core.Path.{◌≡◌, refl, sym, ap, ◌∙◌}
use Prim.Native.Nat.{ℕ, ◌^◌, ◌<◌}
use native.Mathlib.Omega.{arith}
use lib.Dec.{eqb}
use borrow.Author.Tests.{eqb-true, eq-eqb, le-leb, leb-true}
use Rattle.bounded.specs.Bool.{and, or}
use Rattle.bounded.specs.Bool as b
use Rattle.bounded.specs.Fold.{some, first}
use Rattle.bounded.proofs.Bool.{by_cases, clash, not-true→false, and_i, and_l, and_r, and-fails, or_l, or_r, or_elim, not-i, not-e, implies-i, implies-e}
use Rattle.bounded.proofs.Fold.{every-i, every-e, some-i, some-e, count-two, count-unique}
use Rattle.words.specs.Word.{has, word}
use Rattle.words.proofs.Laws.{has-ruled, has-zero, nonempty, word_lt}
use Rattle.pairs.specs.Pairs.{allows_of, partners_at, partners_within}
use Rattle.pairs.proofs.Laws.{allows-alike}
use Rattle.pairs.proofs.Runs.{Within, lowest-in, rest-is, rest_lt, rest-within}

-- Value v is in the domain dj and no longer in the rest, and goes with value a of i.
abbrev pub met_at : ℕ → List ℕ → ℕ → ℕ → ℕ → ℕ → ℕ → ℕ → Bool
met_at w rows i j dj rest a v = and (and (has dj v) (b.not (has rest v))) (allows_of w rows i j a v)

-- What stands in the rows of the values that are no longer in the rest was seen, and in one of them alone.
pub record Alone (w : ℕ) (rows : List ℕ) (i j di dj rest seen : ℕ) : Type 0 where
  pub rest_fits : rest < 2 ^ w
  pub rest_in : Within rest dj
  pub seen_in : (a : ℕ) → a < w → has seen a ≡ true → some w (met_at w rows i j dj rest a) ≡ true
  pub seen_all : (a v : ℕ) → a < w → v < w → has di a ≡ true → met_at w rows i j dj rest a v ≡ true → has seen a ≡ true
  pub alone : (a u v : ℕ) → a < w → u < w → v < w → has di a ≡ true → met_at w rows i j dj rest a u ≡ true → met_at w rows i j dj rest a v ≡ true → u ≡ v

module _ (w : ℕ) {rows : List ℕ} {i j di dj : ℕ} where
  pub alone-none : {rest : ℕ} → rest ≡ dj → dj < 2 ^ w → Alone w rows i j di dj rest 0
  alone-none e f =
      rw e record {
        rest_fits = f;
        rest_in = λ u t. t;
        seen_in = λ a l t. clash t (has-zero a);
        seen_all = λ a v l m d t. let s = and_l _ _ t in clash (and_l _ _ s) (not-e _ (and_r _ _ s));
        alone = λ a u v l m k d t q. let s = and_l _ _ t in clash (and_l _ _ s) (not-e _ (and_r _ _ s));
      }

  pub alone-all : {rest seen : ℕ} → rest ≡ 0 → Alone w rows i j di dj rest seen → partners_within w rows i j di dj 0 1 ≡ true
  unfolding partners_within partners_at
  alone-all {rest} z A = every-i w _ λ a l. implies-i _ _ λ d.
      let c = partners_at w rows i j dj a in
      and_i _ _ (le-leb 0 c (omega arith)) (le-leb c 1 (count-unique w _ λ u v m k t q. A.alone a u v l m k d (met a u t) (met a v q)))
    where
      met : (a v : ℕ) → and (has dj v) (allows_of w rows i j a v) ≡ true → met_at w rows i j dj rest a v ≡ true
      met a v t = and_i _ _ (and_i _ _ (and_l _ _ t) (not-i _ (ap (λ (r : ℕ). has r v) z ∙ has-zero v))) (and_r _ _ t)

  -- The row of one value more.
  module _ {rest seen v stored row met : ℕ} (A : Alone w rows i j di dj rest seen) (n : rest ≡ 0 → ⊥) (low : v ≡ first w (has rest))
      (se : stored ≡ word w (allows_of w rows j i v))
      (re : row ≡ word w (λ (u : ℕ). and (has di u) (has stored u)))
      (me : met ≡ word w (λ (u : ℕ). and (has seen u) (has row u))) where
    in_rest : (v < w) × (has rest v ≡ true)
    in_rest = lowest-in w rest v A.rest_fits n low

    at_row : (a : ℕ) → a < w → has row a ≡ and (has di a) (allows_of w rows i j a v)
    at_row a l = has-ruled w _ re a l ∙ ap (and (has di a)) (has-ruled w _ se a l ∙ allows-alike w rows j i v a)

    -- A value that was seen decides,
    pub alone-not : (met ≡ 0 → ⊥) → partners_within w rows i j di dj 0 1 ≡ false
    unfolding partners_within partners_at
    alone-not z = not-true→false _ λ t. some-e w _ (nonempty w met (rw me (word_lt w _)) z) λ a l h.
        let p = sym (has-ruled w _ me a l) ∙ h in
        let r = sym (at_row a l) ∙ and_r _ _ p in
        let one = leb-true (partners_at w rows i j dj a) 1 (and_r _ _ (implies-e _ _ (every-e w _ t a l) (and_l _ _ r))) in
        some-e w _ (A.seen_in a l (and_l _ _ p)) λ u k q.
        let s = and_l _ _ q in
        let f : has rest u ≡ false = not-e _ (and_r _ _ s) in
        let e : u ≡ v = count-two w (λ (x : ℕ). and (has dj x) (allows_of w rows i j a x)) one u v k in_rest.0 (and_i _ _ (and_l _ _ s) (and_r _ _ q)) (and_i _ _ (A.rest_in v in_rest.1) (and_r _ _ r)) in
        clash in_rest.1 (rw e at f)

    -- and else all in the row are new.
    module _ {seen' rest' : ℕ} (z : met ≡ 0) (ne : seen' ≡ word w (λ (u : ℕ). or (has seen u) (has row u)))
        (de : rest' ≡ word w (λ (u : ℕ). and (has rest u) (b.not (eqb u (first w (has rest)))))) where
      is : (u : ℕ) → u < w → has rest' u ≡ and (has rest u) (b.not (eqb u v))
      is = rest-is w A.rest_fits n low de

      met-or : {B : Type 0} (a u : ℕ) → u < w → met_at w rows i j dj rest' a u ≡ true → (u ≡ v → B) → (met_at w rows i j dj rest a u ≡ true → B) → B
      met-or a u k t f g = let s = and_l _ _ t in by_cases (eqb u v)
          (λ y. f (eqb-true u v y))
          (λ y. g (and_i _ _ (and_i _ _ (and_l _ _ s)
          (not-i _ (not-true→false _ λ m. clash (is u k ∙ and_i _ _ m (not-i _ y)) (not-e _ (and_r _ _ s))))) (and_r _ _ t)))

      met-still : (a u : ℕ) → u < w → met_at w rows i j dj rest a u ≡ true → met_at w rows i j dj rest' a u ≡ true
      met-still a u k t = let s = and_l _ _ t in
          and_i _ _ (and_i _ _ (and_l _ _ s) (not-i _ (is u k ∙ and-fails _ _ (not-e _ (and_r _ _ s))))) (and_r _ _ t)

      gone : has rest' v ≡ false
      gone = not-true→false _ λ m. clash (eq-eqb v v refl) (not-e _ (and_r _ _ (sym (is v in_rest.0) ∙ m)))

      new : (a u : ℕ) → a < w → u < w → has di a ≡ true → allows_of w rows i j a v ≡ true → met_at w rows i j dj rest a u ≡ true → ⊥
      new a u l k d y t =
          clash (has-ruled w _ me a l ∙ and_i _ _ (A.seen_all a u l k d t) (at_row a l ∙ and_i _ _ d y)) (ap (λ (x : ℕ). has x a) z ∙ has-zero a)

      of-v : (a u : ℕ) → u ≡ v → met_at w rows i j dj rest' a u ≡ true → allows_of w rows i j a v ≡ true
      of-v a u e t = let y : allows_of w rows i j a u ≡ true = and_r _ _ t in rw e at y

      pub alone-more : Alone w rows i j di dj rest' seen'
      alone-more =
          record {
            rest_fits = rest_lt w A.rest_fits n low de;
            rest_in = rest-within w A.rest_fits n low de dj A.rest_in;
            seen_in =
                λ a l t. or_elim _ _ (sym (has-ruled w _ ne a l) ∙ t)
                (λ p. some-e w _ (A.seen_in a l p) λ u k q. some-i w _ u k (met-still a u k q))
                (λ p. some-i w _ v in_rest.0 (and_i _ _ (and_i _ _ (A.rest_in v in_rest.1) (not-i _ gone)) (and_r _ _ (sym (at_row a l) ∙ p))));
            seen_all =
                λ a u l k d t. has-ruled w _ ne a l
                ∙ met-or a u k t (λ e. or_r _ _ (at_row a l ∙ and_i _ _ d (of-v a u e t))) (λ q. or_l _ _ (A.seen_all a u l k d q));
            alone =
                λ a x y l m k d t q. met-or a x m t
                (λ e. met-or a y k q (λ f. e ∙ sym f) (λ r. absurd (new a y l k d (of-v a x e t) r)))
                (λ p. met-or a y k q (λ f. absurd (new a x l m d (of-v a y f q) p)) (λ r. A.alone a x y l m k d p r));
          }
