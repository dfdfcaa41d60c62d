-- What each way through the whole test says of its definition, in the order of the code.
use mathlib.Core.Bool.{true, false}
use mathlib.Core.List.{List}
use mathlib.Core.Path.{◌≡◌, sym, ap, ◌∙◌}
use Prim.Native.Nat.{ℕ, pred, ◌-◌, ◌^◌, ◌<◌}
use native.Mathlib.Omega.{arith}
use lib.Dec.{eqb}
use lib.ListN.{get_or}
use borrow.Author.Tests.{lt-ltb, eq-eqb, eqb-true}
use Rattle.bounded.specs.Bool.{and, implies}
use Rattle.bounded.specs.Fold.{every}
use Rattle.bounded.proofs.Bool.{clash, bool-ext, and_i, and_l, and_r, and-fails, and-holds, implies-i, implies-e}
use Rattle.bounded.proofs.Fold.{every-i, every-e}
use Rattle.words.specs.Word.{width, has, word}
use Rattle.words.proofs.Laws.{has_word, has-ruled, is_word}
use Rattle.pairs.specs.Pairs.{partners_of, partners_within}
use Rattle.head.specs.declared.Head.{Head}
use Rattle.soundness_head.specs.Fits.{head_fits}
use Rattle.soundness_rows.specs.Fits.{rows_fit}
use Rattle.soundness.specs.Parts.{trimmed_to, follower_fits, followers_fit, parts_fit}

-- ---- a follower

-- A variable that is not stated with itself does not follow itself.
pub not_itself : (w i l stated : ℕ) → i < w → has stated i ≡ false → stated ≡ word w (λ (u : ℕ). eqb u l) → l ≡ i → ⊥
not_itself w i l stated b f e q =
    clash (rw e (has_word w _ i b ∙ eq-eqb i l (sym q))) f

-- The number of a leader counts from 1.
pub from_one : {l k : ℕ} → l ≡ k → l - 1 ≡ pred k
from_one e = omega arith

-- What two words have together is the first one exactly when the second has its members.
subset-is : (w x y : ℕ) {both : ℕ} → x < 2 ^ w → both ≡ word w (λ (u : ℕ). and (has x u) (has y u))
    → eqb both x ≡ every w (λ (u : ℕ). implies (has x u) (has y u))
subset-is w x y b e =
    bool-ext _ _
    (λ t. every-i w _ (λ u l. implies-i _ _ (λ m. and_r _ _ (sym (has-ruled w _ e u l) ∙ ap (λ (z : ℕ). has z u) (eqb-true _ _ t) ∙ m))))
    (λ t. eq-eqb _ _ (e ∙ sym (is_word w _ _ b (λ u l.
    bool-ext _ _ (λ m. and_i _ _ m (implies-e _ _ (every-e w _ t u l) m)) (λ m. and_l _ _ m)))))

pub trimmed-is : (rows : List ℕ) (i l di dl : ℕ) {found both : ℕ} → di < 2 ^ width → found ≡ partners_of width rows l i dl
    → both ≡ word width (λ (u : ℕ). and (has di u) (has found u)) → eqb both di ≡ trimmed_to rows i l di dl
unfolding trimmed_to
trimmed-is rows i l di dl {found} b e f =
    subset-is width di found b f ∙ ap (λ (y : ℕ). every width (λ (u : ℕ). implies (has di u) (has y u))) e

-- A follower that is tied to its leader: what is left to ask is of the two lists.
pub follower-tied : (n : ℕ) (domains leaders rows : List ℕ) (i stated l : ℕ) → l < n → get_or leaders l 0 ≡ 0 → stated ≡ word width (λ (u : ℕ). eqb u l)
    → follower_fits n domains leaders rows i stated l
    ≡ and (partners_within width rows l i (get_or domains l 0) (get_or domains i 0) 1 1) (trimmed_to rows i l (get_or domains i 0) (get_or domains l 0))
unfolding follower_fits
follower-tied n domains leaders rows i stated l a f e =
    and-holds _ _ (lt-ltb _ _ a) ∙ and-holds _ _ (eq-eqb _ _ f) ∙ and-holds _ _ (eq-eqb _ _ e)

-- ---- the whole

module _ (h : Head) (rows : List ℕ) where
  pub parts-head : head_fits h ≡ false → false ≡ parts_fit h rows
  unfolding parts_fit
  parts-head t = sym (and-fails _ _ t)

  pub parts-rows : head_fits h ≡ true → rows_fit width h.n h.sizes h.stated rows ≡ false → false ≡ parts_fit h rows
  unfolding parts_fit
  parts-rows t r = sym (and-holds _ _ t ∙ and-fails _ _ r)

  pub parts-followers : head_fits h ≡ true → rows_fit width h.n h.sizes h.stated rows ≡ true → followers_fit h rows ≡ parts_fit h rows
  unfolding parts_fit
  parts-followers t r = sym (and-holds _ _ t ∙ and-holds _ _ r)
