-- One variable more.
use mathlib.Core.Bool.{Bool, false}
use mathlib.Core.List.{List}
use mathlib.Core.Path.{◌≡◌, refl, sym, ap, ◌∙◌}
use Prim.Native.Nat.{ℕ, ◌+◌, ◌<◌}
use native.Mathlib.Numerals.{add-one}
use native.Mathlib.Omega.{arith}
use lib.Dec.{ltb}
use lib.ListN.{get_or}
use borrow.Author.Tests.{ltb-true, ltb-false}
use Rattle.bounded.specs.Fold.{first}
use Rattle.bounded.proofs.Bool.{by_cases, clash}
use Rattle.bounded.proofs.Fold.{first-le, first_passes}
use Rattle.bins_counts.specs.Counts.{spot, changed_at, changed_each}

module _ (f : ℕ → ℕ) (sizes values xs : List ℕ) where
  pub each_more : (o i : ℕ) (ys zs : List ℕ) → ys ≡ changed_each f sizes values xs o → i ≡ spot sizes o (get_or values o 0)
      → zs ≡ changed_at f ys i → zs ≡ changed_each f sizes values xs (o + 1)
  unfolding changed_each
  each_more o i ys zs e at h = h ∙ (λ k. changed_at f (e k) (at k)) ∙ sym (ap (changed_each f sizes values xs) (add-one o))

  pub each_none : xs ≡ changed_each f sizes values xs 0
  unfolding changed_each
  each_none = refl

-- The first that passes is behind all where none does.
pub first-none : (n : ℕ) (p : ℕ → Bool) → ((k : ℕ) → k < n → p k ≡ false) → first n p ≡ n
first-none n p h =
    by_cases (ltb (first n p) n)
    (λ t. let l = ltb-true (first n p) n t in clash (first_passes n p l) (h (first n p) l))
    (λ t. let l = ltb-false (first n p) n t in omega (arith, first-le n p, l))
