-- The variables that are not placed yet, as a word, and who may come next.
use mathlib.Core.Bool.{Bool, false}
use mathlib.Core.List.{List}
use mathlib.Core.Path.{◌≡◌, sym, ap, ◌∙◌}
use Prim.Native.Nat.{ℕ, ◌≤◌, ◌<◌}
use native.Mathlib.Omega.{arith}
use lib.Dec.{eqb, ltb}
use lib.ListN.{get_or}
use borrow.Author.Tests.{eq-eqb, eqb-true}
use Rattle.bounded.specs.Bool.{and, or, not}
use Rattle.bounded.proofs.Bool.{bool-ext, not-true→false, clash, and_i, and_l, and_r, or-false-l, or-false-r, or-false-i, not-i, not-e}
use Rattle.words.specs.Word.{width, has, word}
use Rattle.words.proofs.Laws.{has_word, has-ruled, word-cong}
use Rattle.network.specs.Network.{Network}
use Rattle.network.specs.Reach.{reach}
use Rattle.network.specs.Order.{permitted}
use Rattle.network.specs.Sound.{Sound}
use Rattle.network.proofs.Order.{permitted-words}
use Rattle.network.proofs.Reach.{reach-refl, reach-trans}
use Rattle.bounded.proofs.Table.{get_d_tabulate}
use Rattle.pairs.specs.Pairs.{variables}
use Rattle.order_paths.specs.Paths.{over_of}
use Rattle.order.specs.Orders.{Governed, may_come}

-- Of the first n those that T does not have.
unfoldable pub left_of : ℕ → (ℕ → Bool) → ℕ
left_of n T = word width (λ (v : ℕ). and (ltb v n) (not (T v)))

module _ (n : ℕ) (T : ℕ → Bool) where
  pub left-has : {left : ℕ} → left ≡ left_of n T → (v : ℕ) → v < width → has left v ≡ and (ltb v n) (not (T v))
  unfolding left_of
  left-has e v l = has-ruled width _ e v l

  -- All of them at first,
  pub left-all : {left : ℕ} → ((v : ℕ) → T v ≡ false) → left ≡ word width (λ (u : ℕ). ltb u n) → left ≡ left_of n T
  unfolding left_of
  left-all none e = e ∙ word-cong width _ _ λ v l. bool-ext _ _ (λ t. and_i _ _ t (not-i _ (none v))) (and_l _ _)

  -- and one less where one was placed.
  pub left_less : (T' : ℕ → Bool) (i : ℕ) {left one left' : ℕ} → left ≡ left_of n T → one ≡ word width (λ (u : ℕ). eqb u i)
      → left' ≡ word width (λ (u : ℕ). and (has left u) (not (has one u)))
      → ((v : ℕ) → T' v ≡ or (eqb i v) (T v))
      → left' ≡ left_of n T'
  unfolding left_of
  left_less T' i {left} {one} e oe le more =
      le ∙ word-cong width _ _ λ v l.
      let was = left-has e v l in
      let is = has-ruled width _ oe v l in
      bool-ext _ _
      (λ t. let h = sym was ∙ and_l _ _ t in
      and_i _ _ (and_l _ _ h) (not-i _ (more v ∙ or-false-i _ _
      (not-true→false _ λ q. clash (is ∙ eq-eqb v i (sym (eqb-true i v q))) (not-e _ (and_r _ _ t)))
      (not-e _ (and_r _ _ h)))))
      (λ t. let h = sym (more v) ∙ not-e _ (and_r _ _ t) in
      and_i _ _ (was ∙ and_i _ _ (and_l _ _ t) (not-i _ (or-false-r _ _ h)))
      (not-i _ (is ∙ not-true→false _ λ q. clash (eq-eqb i v (sym (eqb-true v i q))) (or-false-l _ _ h))))

  -- Who may come next is permitted: `permitted-words`.
  pub may-permitted : {R : ℕ → ℕ → Bool} {over : List ℕ} (i : ℕ) {left : ℕ} → n ≤ width → Governed n R over → i < n → left ≡ left_of n T
      → may_come left (get_or over i 0) i ≡ permitted n R T i
  unfolding may_come
  may-permitted {R} {over} i {left} b G l e =
      sym (permitted-words n R G.self G.join width b T i left (get_or over i 0) l (left-has e) (λ v k. G.over_is i v l k))

-- Paths of a sound network govern so.
pub governed : (N : Network) → Sound N → N.n ≤ variables → {over : List ℕ} → over ≡ over_of N → Governed N.n (reach N) over
unfolding over_of
governed N S b e =
    record {
      self = reach-refl N S;
      join = reach-trans N S;
      over_is = λ i v l k. ap (λ (o : List ℕ). has (get_or o i 0) v) e ∙ ap (λ (x : ℕ). has x v) (get_d_tabulate variables _ i 0 (omega arith)) ∙ has_word width _ v k;
    }
