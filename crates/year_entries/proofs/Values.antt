-- The values of a call-off as they stand on a line.
use mathlib.Core.Bool.{true, false}
use mathlib.Core.List.{List}
use mathlib.Core.Path.{◌≡◌, refl, sym, ap, subst, ◌∙◌}
use Prim.Native.Nat.{ℕ, ◌+◌, ◌-◌, ◌≤◌, ◌<◌}
use native.Mathlib.Omega.{arith}
use lib.Dec.{ltb}
use lib.ListN.{length, get_or, take, drop, length-take, length-drop}
use lib.Seq.{ext_get_or, get_or-take, get_or-drop, length-take-le}
use borrow.Author.Tests.{lt-ltb}
use Rattle.bounded.specs.Fold.{every}
use Rattle.bounded.proofs.Bool.{clash, not-true→false}
use Rattle.bounded.proofs.Fold.{every-i}
use Rattle.head.specs.Held.{HeadShaped}
use Rattle.answers.specs.Answers.{test_agrees}
use Rattle.state.specs.declared.state.State.{State}
use Rattle.state.specs.View.{head_in, sound_state}
use Rattle.state.specs.Solutions.{tested}
use Rattle.state.proofs.Solutions.{yes-solves}
use Rattle.state_bins.proofs.Refuses.{says-yes}
use Rattle.stock.proofs.CallOff.{value_in}

-- The solution on a line of so many numbers.
abbrev pub solution_of : (count : ℕ) → (cells : List ℕ) → List ℕ
solution_of count cells = take (count - 1) (drop 1 cells)

module _ (count : ℕ) (cells : List ℕ) where
  pub count_none : count < 1 → 0 ≡ length (solution_of count cells)
  count_none l = let e : count - 1 ≡ 0 = omega (arith, l) in sym (ap (λ (k : ℕ). length (take k (drop 1 cells))) e)

  pub count-all : length cells ≡ 17 → 17 < count → 16 ≡ length (solution_of count cells)
  count-all e l = omega (arith, length-take (count - 1) (drop 1 cells), length-drop 1 cells, e, l)

  pub count-some : length cells ≡ 17 → 1 ≤ count → count ≤ 17 → count - 1 ≡ length (solution_of count cells)
  count-some e l h = omega (arith, length-take (count - 1) (drop 1 cells), length-drop 1 cells, e, l, h)

  pub cell_at : (o : ℕ) → o < length (solution_of count cells) → get_or (solution_of count cells) o 0 ≡ get_or cells (o + 1) 0
  cell_at o l =
      let e : 1 + o ≡ o + 1 = omega arith in
      get_or-take (count - 1) (drop 1 cells) o 0 (omega (arith, length-take (count - 1) (drop 1 cells), l)) ∙ get_or-drop 1 cells o 0 ∙ ap (λ (k : ℕ). get_or cells k 0) e

  -- As bytes they are the same.
  pub bytes_are : (n : ℕ) (values : List ℕ) → n ≤ length values → length (solution_of count cells) ≡ n → ((o : ℕ) → o < n → get_or values o 0 ≡ get_or cells (o + 1) 0)
      → take n values ≡ solution_of count cells
  bytes_are n values room e h =
      ext_get_or 0 (take n values) (solution_of count cells) (length-take-le n values room ∙ sym e)
      (λ o l. let m : o < n = omega (arith, length-take-le n values room, l) in get_or-take n values o 0 m ∙ h o m ∙ sym (cell_at o (omega (arith, e, m))))

  -- Another number of values, or a value at or above its size, is no solution.
  module _ (s : State) (t : sound_state s ≡ true) where
    pub wrong-count : HeadShaped (head_in s) → (length (solution_of count cells) ≡ s.n → ⊥) → test_agrees (tested s (solution_of count cells)) ≡ false
    wrong-count H d = not-true→false _ (λ y. d (yes-solves s H t (solution_of count cells) ((says-yes (tested s (solution_of count cells))).0 y)).0)

    pub wrong-value : length (solution_of count cells) ≡ s.n → every s.n (λ (o : ℕ). ltb (get_or cells (o + 1) 0) (get_or s.sizes o 0)) ≡ false
        → test_agrees (tested s (solution_of count cells)) ≡ false
    wrong-value e f =
        not-true→false _ (λ y. clash (every-i s.n _ (λ o l. lt-ltb _ _
        (subst (λ (k : ℕ). k < get_or s.sizes o 0) (cell_at o (omega (arith, e, l)))
        (value_in s t (solution_of count cells) (solution_of count cells) 0 (solution_of count cells) (λ o l. refl) y o l)))) f)
