-- Values with two partners or more, read off the rows of the lower variable, for any number w of values.
use mathlib.Core.Bool.{Bool, true, false}
use mathlib.Core.List.{List}
use mathlib.Core.Path.{◌≡◌, refl, sym, ap, ◌∙◌}
use Prim.Native.Nat.{ℕ, ◌^◌, ◌<◌}
use native.Mathlib.Omega.{arith}
use lib.Dec.{eqb, leb}
use borrow.Author.Tests.{eqb-true, eq-eqb, le-leb, leb-true, leb-false}
use Rattle.bounded.specs.Bool.{and}
use Rattle.bounded.specs.Fold.{count, first}
use Rattle.bounded.proofs.Bool.{clash, bool-ext, not-true→false, and_i, and_l, and_r, implies-i, implies-e}
use Rattle.bounded.proofs.Fold.{every-i, every-e}
use Rattle.words.specs.Word.{has, word}
use Rattle.words.proofs.Laws.{has-ruled, has-zero, word_none}
use Rattle.pairs.specs.Pairs.{allows_of, partners_at, partners_within}
use Rattle.pairs.proofs.Runs.{partners-count, passed_none, passed-not}
use Rattle.order_paths.specs.Crowded.{crowded_of}

-- ---- the ones of row AND domain

module _ (w : ℕ) (rows : List ℕ) (i j dj : ℕ) where
  pub row-crowded : (a : ℕ) {row x : ℕ} {t : Bool} → row ≡ word w (allows_of w rows i j a) → x ≡ word w (λ (u : ℕ). and (has dj u) (has row u))
      → t ≡ leb 2 (count w (has x)) → t ≡ leb 2 (partners_at w rows i j dj a)
  unfolding partners_at
  row-crowded a re xe te = te ∙ ap (leb 2) (partners-count w dj _ re xe refl)

-- One value with two partners decides.
pub lowest-decides : (w : ℕ) (rows : List ℕ) (i j di dj : ℕ) {a : ℕ} → di < 2 ^ w → (di ≡ 0 → ⊥) → a ≡ first w (has di)
    → leb 2 (partners_at w rows i j dj a) ≡ true → partners_within w rows i j di dj 0 1 ≡ false
lowest-decides w rows i j di dj {a} f n low t =
    passed-not (passed_none f) n low refl (not-true→false _ λ m.
    let two = leb-true 2 (partners_at w rows i j dj a) t in
    let one = leb-true (partners_at w rows i j dj a) 1 (and_r _ _ m) in
    let z : ⊥ = omega arith in z)

-- ---- functional: no value of the domain is among them

pub none-crowded : (w : ℕ) (rows : List ℕ) (i j di dj : ℕ) {x r : ℕ} → x ≡ crowded_of w rows i j dj → r ≡ word w (λ (u : ℕ). and (has di u) (has x u))
    → eqb r 0 ≡ partners_within w rows i j di dj 0 1
unfolding partners_within
none-crowded w rows i j di dj {x} {r} xe re = bool-ext _ _
    (λ h. every-i w _ λ a l. implies-i _ _ λ d.
    let few : leb 2 (partners_at w rows i j dj a) ≡ false =
    not-true→false _ λ m. clash (at a l ∙ and_i _ _ d m) (ap (λ (z : ℕ). has z a) (eqb-true r 0 h) ∙ has-zero a) in
    and_i _ _ (le-leb 0 (partners_at w rows i j dj a) (omega arith)) (le-leb (partners_at w rows i j dj a) 1 (omega (arith, leb-false 2 (partners_at w rows i j dj a) few))))
    (λ h. eq-eqb r 0 (re ∙ word_none w _ λ a l. not-true→false _ λ m.
    let d : and (has di a) (leb 2 (partners_at w rows i j dj a)) ≡ true = sym (at a l) ∙ has-ruled w _ re a l ∙ m in
    let one = leb-true (partners_at w rows i j dj a) 1 (and_r _ _ (implies-e _ _ (every-e w _ h a l) (and_l _ _ d))) in
    let two = leb-true 2 (partners_at w rows i j dj a) (and_r _ _ d) in
    let z : ⊥ = omega arith in z))
  where
    at : (a : ℕ) → a < w → has r a ≡ and (has di a) (leb 2 (partners_at w rows i j dj a))
    at a l = has-ruled w _ re a l ∙ ap (and (has di a)) (unfold crowded_of in has-ruled w _ xe a l)
