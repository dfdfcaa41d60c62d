-- Look-ups in a list of tables.
use mathlib.Core.Bool.{true, false}
use mathlib.Core.List.{List, [], ◌∷◌}
use mathlib.Core.Path.{◌≡◌, refl}
use Prim.Native.Nat.{ℕ, suc}
use lib.ListN.{get_or}
use borrow.Author.Tests.{eq-eqb, eqb-true}
use Rattle.bounded.specs.Bool.{or, if}
use Rattle.bounded.proofs.Bool.{by_cases, clash, if-true, if-false, and_i, and_l, and_r, or_l, or_r, or_elim}
use Rattle.words.specs.Word.{has}
use Rattle.words.proofs.Laws.{has-zero}
use Rattle.network.specs.Sheet.{Table, is_for, tabled, row_for}

-- A table is for i and j exactly when its pair is theirs.
pub is_for-e : (t : Table) (i j : ℕ) → is_for t i j ≡ true → (t.first ≡ suc i) × (t.second ≡ suc j)
unfolding is_for
is_for-e t i j h = (eqb-true _ _ (and_l _ _ h), eqb-true _ _ (and_r _ _ h))

pub is_for-i : (t : Table) (i j : ℕ) → t.first ≡ suc i → t.second ≡ suc j → is_for t i j ≡ true
unfolding is_for
is_for-i t i j h k = and_i _ _ (eq-eqb _ _ h) (eq-eqb _ _ k)

-- A look-up finds the first table that is for i and j.
module _ (t : Table) (ts : List Table) (i j : ℕ) where
  pub tabled-here : is_for t i j ≡ true → tabled (t ∷ ts) i j ≡ true
  unfolding tabled
  tabled-here h = or_l _ _ h

  pub tabled-there : is_for t i j ≡ false → tabled (t ∷ ts) i j ≡ tabled ts i j
  unfolding tabled or
  tabled-there h = rw h

  pub tabled_later : tabled ts i j ≡ true → tabled (t ∷ ts) i j ≡ true
  unfolding tabled
  tabled_later h = or_r _ _ h

  pub tabled-cases : {A : Type 0} → tabled (t ∷ ts) i j ≡ true → (is_for t i j ≡ true → A) → (tabled ts i j ≡ true → A) → A
  unfolding tabled
  tabled-cases h x y = or_elim _ _ h x y

  pub row_for-here : (a : ℕ) → is_for t i j ≡ true → row_for (t ∷ ts) i j a ≡ get_or t.rows a 0
  unfolding row_for
  row_for-here a h = if-true _ _ _ h

  pub row_for-there : (a : ℕ) → is_for t i j ≡ false → row_for (t ∷ ts) i j a ≡ row_for ts i j a
  unfolding row_for
  row_for-there a h = if-false _ _ _ h

-- Where there is no table there is no row,
pub row_for-none : (ts : List Table) (i j a : ℕ) → tabled ts i j ≡ false → row_for ts i j a ≡ 0
unfolding tabled row_for or if
row_for-none [] i j a h = refl
row_for-none (t ∷ ts) i j a h = by_cases (is_for t i j) (λ e. clash refl (rw e at h)) (λ e. rw e (row_for-none ts i j a (rw e at h)))

-- so what a row allows is in a table.
pub row-tabled : (ts : List Table) (i j a b : ℕ) → has (row_for ts i j a) b ≡ true → tabled ts i j ≡ true
row-tabled ts i j a b h =
    by_cases (tabled ts i j) (λ t. t) (λ t. clash h (rw (row_for-none ts i j a t) (has-zero b)))
