-- What the tests of rows say of their definitions, for any number w of values, and where the rows past n begin.
use mathlib.Core.Bool.{Bool, true}
use mathlib.Core.List.{List}
use mathlib.Core.Path.{◌≡◌, refl, sym, ap, ◌∙◌}
use Prim.Native.Nat.{ℕ, ◌+◌, ◌-◌, ◌*◌, ◌≤◌}
use native.Mathlib.Omega.{arith}
use lib.Dec.{eqb, leb}
use borrow.Author.Tests.{eq-eqb, leb-true}
use Rattle.bounded.specs.Bool.{and}
use Rattle.bounded.specs.Fold.{every}
use Rattle.bounded.proofs.Bool.{and-holds, and_l, and_r}
use Rattle.bounded.proofs.Fold.{every-e}
use Rattle.pairs.specs.Pairs.{pair_count, slot, join_of}
use Rattle.pairs.proofs.Runs.{join-none}
use Rattle.soundness_head.specs.Fits.{within}
use Rattle.soundness_rows.specs.Fits.{past_fits, constraint_fits}

pub run-same : (w : ℕ) (rows : List ℕ) {r at at' n m : ℕ} → r ≡ join_of w rows at n → at ≡ at' → n ≡ m → r ≡ join_of w rows at' m
run-same w rows h e k = rw (e, k) at h

-- The rows past n are one run, from its place to the end.
pub past_is : (w : ℕ) (rows : List ℕ) (n : ℕ) {r at : ℕ} → r ≡ join_of w rows at (pair_count * w - at) → at ≡ slot 0 n * w → eqb r 0 ≡ past_fits w n rows
unfolding past_fits
past_is w rows n h e = ap (λ (x : ℕ). eqb x 0) (rw e at h)

-- A pair whose lower variable has every value: no row is past its size.
pub whole_is : (w : ℕ) (rows : List ℕ) (at other : ℕ) {size r : ℕ} {t : Bool} → size ≡ w → r ≡ join_of w rows at w → t ≡ within w r other
    → t ≡ constraint_fits w rows at size other
unfolding constraint_fits
whole_is w rows at other e h k =
    let past : w - w ≡ 0 = omega arith in
    rw (e, past) (k ∙ ap (λ (x : ℕ). within w x other) h ∙ sym (and-holds _ _ (eq-eqb _ _ (sym (join-none w rows (at + w))))))

past-known : every 17 (λ (n : ℕ). and (leb (n * (n - 1)) 240) (leb (slot 0 n) 120)) ≡ true
unfolding every slot and
past-known = refl

-- The product does not overflow, and the place lies within the array.
pub past-le : (n : ℕ) → n ≤ 16 → (n * (n - 1) ≤ 240) × (slot 0 n ≤ 120)
past-le n l =
    let t = every-e 17 _ past-known n (omega arith) in
    (leb-true _ _ (and_l _ _ t), leb-true _ _ (and_r _ _ t))
