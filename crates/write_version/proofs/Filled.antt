-- A table has no blank row exactly when all values of its lower variable are partners of some value of the other; and the arrays of a sound state say that of
-- each stated pair exactly when its network does.
use mathlib.Core.Bool.{Bool, true, false}
use mathlib.Core.List.{List}
use mathlib.Core.Path.{◌≡◌, sym, ◌∙◌, ap}
use Prim.Native.Nat.{ℕ, ◌≤◌, ◌<◌}
use native.Mathlib.Omega.{arith}
use lib.Dec.{eqb, ltb}
use lib.ListN.{get_or}
use borrow.Author.Tests.{eqb-true, eq-eqb, ltb-true, lt-ltb}
use Rattle.bounded.specs.Bool.{and, not, implies}
use Rattle.bounded.specs.Fold.{every, some}
use Rattle.bounded.proofs.Bool.{bool-ext, clash, and_i, and_l, and_r, and-holds, not-e, not-false-e, not-true→false, implies_true, implies-false}
use Rattle.bounded.proofs.Fold.{every-i, every-e, every-cong, some-i, some-e, some-cong}
use Rattle.words.specs.Word.{width, has, word}
use Rattle.words.proofs.Laws.{has-ruled, has-zero, word_lt, empty}
use Rattle.pairs.specs.Pairs.{allows_of, partners_of}
use Rattle.pairs.proofs.Laws.{allows-alike}
use Rattle.head.specs.declared.Head.{Head}
use Rattle.head.specs.Held.{HeadShaped, held, sound_in}
use Rattle.head.proofs.Held.{held-sound, held-size}
use Rattle.format.specs.Layout.{Lookup}
use Rattle.format.specs.Writable.{rows_are_filled, no_blank_row, filled_in, rows_pass}
use Rattle.write_version.specs.Filled.{pair_filled, earlier_filled, all_filled}

-- A word without the members of another is 0 exactly when the other has them all.
lacks-none : (w size f p x : ℕ) → size ≤ w → f ≡ word w (λ (u : ℕ). ltb u size) → x ≡ word w (λ (u : ℕ). and (has f u) (not (has p u)))
    → eqb x 0 ≡ every size (has p)
lacks-none w size f p x h fe xe =
    let full : (a : ℕ) → a < w → has f a ≡ ltb a size = λ a l. has-ruled w _ fe a l in
    let lacks : (a : ℕ) → a < w → has x a ≡ and (has f a) (not (has p a)) = λ a l. has-ruled w _ xe a l in
    bool-ext _ _
    (λ t. every-i size _ (λ a l.
    let m : a < w = omega arith in
    not-false-e (has p a) (not-true→false _ (λ u.
    clash (and_i _ _ (full a m ∙ lt-ltb a size l) u) (sym (lacks a m) ∙ ap (λ (y : ℕ). has y a) (eqb-true x 0 t) ∙ has-zero a)))))
    (λ t. eq-eqb x 0 (empty w x (rw xe (word_lt w _)) (λ a l. not-true→false _ (λ u.
    let b : and (has f a) (not (has p a)) ≡ true = sym (lacks a l) ∙ u in
    clash (every-e size _ t a (ltb-true a size (sym (full a l) ∙ and_l _ _ b))) (not-e _ (and_r _ _ b))))))

module _ (w : ℕ) (rows : List ℕ) (i j : ℕ) where
  -- Seen from j, the partners of all its values.
  partnered : (all p a : ℕ) → all ≡ word w (λ (u : ℕ). ltb u w) → p ≡ partners_of w rows j i all → a < w
      → has p a ≡ some w (allows_of w rows i j a)
  unfolding partners_of
  partnered all p a ae pe l =
      has-ruled w _ pe a l
      ∙ some-cong w _ _ (λ b m.
      and-holds (has all b) _ (has-ruled w _ ae b m ∙ lt-ltb b w m) ∙ allows-alike w rows j i b a)

  pub rows_filled : {size f all p x : ℕ} → size ≤ w → f ≡ word w (λ (u : ℕ). ltb u size)
      → all ≡ word w (λ (u : ℕ). ltb u w) → p ≡ partners_of w rows j i all → x ≡ word w (λ (u : ℕ). and (has f u) (not (has p u)))
      → eqb x 0 ≡ every size (λ (a : ℕ). some w (allows_of w rows i j a))
  rows_filled {size} {f} {all} {p} {x} k fe ae pe xe =
      lacks-none w size f p x k fe xe ∙ every-cong size _ _ (λ a l. partnered all p a ae pe (omega arith))

-- A test that holds of nothing from n on.
some-widen : (n m : ℕ) (p : ℕ → Bool) → n ≤ m → ((k : ℕ) → p k ≡ true → k < n) → some n p ≡ some m p
some-widen n m p h below =
    bool-ext _ _
    (λ t. some-e n p t (λ k l q. some-i m p k (omega arith) q))
    (λ t. some-e m p t (λ k l q. some-i n p k (below k q) q))

module _ {h : Head} (rows : List ℕ) (shaped : HeadShaped h) (t : sound_in h rows ≡ true) where
  filled-held : no_blank_row (held h rows) ≡ all_filled width rows h.n h.sizes h.stated
  unfolding no_blank_row rows_are_filled all_filled earlier_filled pair_filled held
  filled-held =
      every-cong h.n _ _ (λ j _. every-cong j _ _ (λ i _. ap (implies (has (get_or h.stated i 0) j)) (every-cong (get_or h.sizes i 0) _ _ (λ a _.
      some-widen (get_or h.sizes j 0) width (allows_of width rows i j a) (omega (arith, held-size h rows shaped t j))
      (λ b u. ((held-sound h rows shaped t).allows_in i j a b u).1)))))

  -- In a layout that bans blank rows that decides; the others take all rows.
  pub banned-pass : (k : Lookup) {r : Bool} → filled_in k ≡ true → r ≡ all_filled width rows h.n h.sizes h.stated → r ≡ rows_pass k (held h rows)
  unfolding rows_pass
  banned-pass k e f = f ∙ sym (implies_true _ _ e ∙ filled-held)

  pub allowed-pass : (k : Lookup) → filled_in k ≡ false → true ≡ rows_pass k (held h rows)
  unfolding rows_pass
  allowed-pass k e = sym (implies-false _ _ e)
