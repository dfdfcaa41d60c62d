-- Judging a table: each test that comes first decides its number.
use mathlib.Core.Bool.{Bool, true, false}
use mathlib.Core.List.{List}
use mathlib.Core.Path.{◌≡◌, sym, ap, ap₂, ◌∙◌}
use Prim.Native.Nat.{ℕ, suc, ◌-◌, ◌^◌, ◌≤◌, ◌<◌}
use native.Mathlib.Numerals.{sub-one}
use native.Mathlib.Omega.{arith}
use lib.Dec.{eqb, ltb}
use lib.ListN.{length, get_or}
use borrow.Author.Tests.{eq-eqb, ne_eqb, eqb-false, ltb-false}
use Rattle.bounded.specs.Bool.{or, implies, not, if}
use Rattle.bounded.specs.Fold.{every}
use Rattle.bounded.proofs.Bool.{clash, not-true→false, and_i, and_r, and-fails, or-false-i, or-false-l, or-false-r, if-false}
use Rattle.bounded.proofs.Fold.{every-i, every-e}
use Rattle.words.specs.Word.{has}
use Rattle.words.proofs.Laws.{within-every}
use Rattle.network.specs.Network.{Network}
use Rattle.network.specs.Step.{outside}
use Rattle.network.specs.Added.{rows_fit, add_refusal}
use Rattle.network.proofs.Added.{add-refuses}
use Rattle.step_add_judge.specs.Judging.{rows_within}

-- A row has no bit at or above a size.
pub row_within : (w x k : ℕ) {r : Bool} (b : Bool) → x < 2 ^ w → r ≡ every w (λ (v : ℕ). implies (has x v) (ltb v k)) → r ≡ b → ltb x (2 ^ k) ≡ b
row_within w x k b h e t = within-every w x k h ∙ sym e ∙ t

-- A table of the right count of rows fits where each row is within, and one of a wrong count does not.
module _ (table : List ℕ) (size other : ℕ) where
  pub wrong-count : (length table ≡ size → ⊥) → false ≡ rows_within table size other
  unfolding rows_within
  wrong-count d = sym (and-fails _ _ (ne_eqb _ _ d))

  pub wrong_row : {c : ℕ} → c < length table → ltb (get_or table c 0) (2 ^ other) ≡ false → false ≡ rows_within table size other
  unfolding rows_within
  wrong_row {c} l f = sym (not-true→false _ (λ t. clash (every-e _ _ (and_r _ _ t) c l) f))

  pub right-rows : length table ≡ size → ((c : ℕ) → c < length table → ltb (get_or table c 0) (2 ^ other) ≡ true) → true ≡ rows_within table size other
  unfolding rows_within
  right-rows e h = sym (and_i _ _ (eq-eqb _ _ e) (every-i _ _ h))

-- Past the two numbers that are outside, the numbers and the rows decide, by the sizes of the variables named.
pub rest-decides : (N : Network) (first second : ℕ) (table : List ℕ) {k l r : ℕ} {f : Bool} → outside N first ≡ false → outside N second ≡ false
    → k ≡ N.size (first - 1) → l ≡ N.size (second - 1) → f ≡ rows_within table k l
    → r ≡ if (eqb first second) 21 (if (not f) 22 0) → r ≡ add_refusal N first second table
unfolding add_refusal rows_fit rows_within
rest-decides N first second table a b ke le fe e =
    e
    ∙ ap (λ (b : Bool). if (eqb first second) 21 (if (not b) 22 0))
    (fe ∙ ap₂ (rows_within table) (ke ∙ ap N.size (sub-one first)) (le ∙ ap N.size (sub-one second)))
    ∙ sym (if-false _ _ _ (or-false-i _ _ a b))

-- A number that is not outside.
pub numbered : (n x : ℕ) → or (eqb x 0) (ltb n x) ≡ false → (1 ≤ x) × (x ≤ n)
numbered n x o =
    let z : x ≡ 0 → ⊥ = eqb-false x 0 (or-false-l _ _ o) in
    (omega arith, ltb-false n x (or-false-r _ _ o))

-- A table that is not refused is not refused either by the numbers counted from 0, one up.
pub counted-from-0 : (N : Network) (first second : ℕ) (table : List ℕ) → add_refusal N first second table ≡ 0
    → (1 ≤ first) × (1 ≤ second) × (add_refusal N (suc (first - 1)) (suc (second - 1)) table ≡ 0)
counted-from-0 N first second table e =
    let named = ((add-refuses N first second table).number_0.0 e).0 in
    let f : 1 ≤ first = named.0.from_1 in
    let s : 1 ≤ second = named.1.from_1 in
    let p : suc (first - 1) ≡ first = omega arith in
    let q : suc (second - 1) ≡ second = omega arith in
    (f, s, rw (p, q) e)
