-- Runs of rows, as the tests on their union see them, for any number w of values.
use mathlib.Core.Bool.{true, false}
use mathlib.Core.List.{List}
use mathlib.Core.Path.{◌≡◌, sym, ◌∙◌}
use Prim.Native.Nat.{ℕ, ◌+◌, ◌-◌, ◌≤◌, ◌<◌}
use native.Mathlib.Omega.{arith}
use lib.Dec.{eqb}
use lib.ListN.{get_or}
use borrow.Author.Tests.{eq-eqb, eqb-true}
use Rattle.bounded.proofs.Bool.{clash, not-true→false}
use Rattle.bounded.proofs.Fold.{some-i, some-e, some-none}
use Rattle.words.specs.Word.{has}
use Rattle.words.proofs.Laws.{has_word, has-zero, word_lt, empty}
use Rattle.pairs.specs.Pairs.{join_of}
use Rattle.pairs.proofs.Runs.{join-has}

module _ (w : ℕ) (rows : List ℕ) (at n : ℕ) where
  -- What a row of the run has, the run has,
  pub join-i : (k v : ℕ) → at ≤ k → k < at + n → v < w → has (get_or rows k 0) v ≡ true → has (join_of w rows at n) v ≡ true
  join-i k v l m b h =
      let e : at + (k - at) ≡ k = omega arith in
      join-has w rows at n v b ∙ some-i n _ (k - at) (omega arith) (rw e h)

  -- and nothing else.
  pub join-e : {A : Type 0} (v : ℕ) → v < w → has (join_of w rows at n) v ≡ true → ((k : ℕ) → k < n → has (get_or rows (at + k) 0) v ≡ true → A) → A
  join-e v b h = some-e n _ (sym (join-has w rows at n v b) ∙ h)

  pub join-empty-e : eqb (join_of w rows at n) 0 ≡ true → (k v : ℕ) → at ≤ k → k < at + n → v < w → has (get_or rows k 0) v ≡ false
  join-empty-e t k v l m b =
      not-true→false _ (λ h. clash (join-i k v l m b h) (rw (eqb-true (join_of w rows at n) 0 t) (has-zero v)))

  pub join-empty-i : ((k v : ℕ) → k < n → v < w → has (get_or rows (at + k) 0) v ≡ false) → eqb (join_of w rows at n) 0 ≡ true
  unfolding join_of
  join-empty-i h = eq-eqb _ _ (empty w _ (word_lt w _) (λ v b. has_word w _ v b ∙ some-none n _ (λ k l. h k v l b)))
