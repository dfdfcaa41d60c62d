-- Laws of `tabulate`.
use mathlib.Core.List.{List}
use mathlib.Core.Path.{◌≡◌, refl, sym, ◌∙◌, ap}
use Prim.Native.Nat.{ℕ, zero, suc, ◌≤◌, ◌<◌}
use native.Mathlib.Omega.{arith}
use lib.ListN.{length, get_or, take, set, get_or-eq_default}
use lib.Seq.{ext_get_or, length-take-le, get_or-take, get_or-set_same, get_or-set_other}
use lib.Dec.{eqb}
use borrow.Author.Tests.{eqb-true, eqb-false}
use Rattle.bounded.specs.Bool.{if}
use Rattle.bounded.specs.Table.{tabulate}
use Rattle.bounded.proofs.Bool.{by_cases, if-true, if-false}

module _ {A : Type 0} where
  pub length-tabulate : (n : ℕ) (f : ℕ → A) → length (tabulate n f) ≡ n
  unfolding tabulate
  length-tabulate zero f = refl
  length-tabulate (suc n) f = ap suc (length-tabulate n (λ (k : ℕ). f (suc k)))

  -- What stands at k is f k.
  pub get_d_tabulate : (n : ℕ) (f : ℕ → A) (k : ℕ) (d : A) → k < n → get_or (tabulate n f) k d ≡ f k
  unfolding tabulate
  get_d_tabulate zero f k d h = absurd (let x : ⊥ = omega arith in x)
  get_d_tabulate (suc n) f zero d h = refl
  get_d_tabulate (suc n) f (suc k) d h = get_d_tabulate n (λ (i : ℕ). f (suc i)) k d (omega arith)

  pub get_d-tabulate-past : (n : ℕ) (f : ℕ → A) (k : ℕ) (d : A) → n ≤ k → get_or (tabulate n f) k d ≡ d
  get_d-tabulate-past n f k d h = get_or-eq_default (tabulate n f) d (let e : length (tabulate n f) ≡ n = length-tabulate n f in omega arith)

  -- A list is the table of f where it has f k at each k.
  pub is-table : (n : ℕ) (f : ℕ → A) (l : List A) (d : A) → length l ≡ n → ((k : ℕ) → k < n → get_or l k d ≡ f k) → l ≡ tabulate n f
  is-table n f l d e h =
      ext_get_or d l (tabulate n f) (e ∙ sym (length-tabulate n f))
      (λ k m. let b : k < n = omega arith in h k b ∙ sym (get_d_tabulate n f k d b))

  pub tabulate-cong : (n : ℕ) (f g : ℕ → A) → ((k : ℕ) → k < n → f k ≡ g k) → tabulate n f ≡ tabulate n g
  unfolding tabulate
  tabulate-cong zero f g h = refl
  tabulate-cong (suc n) f g h = rw (h zero (omega arith), tabulate-cong n (λ (k : ℕ). f (suc k)) (λ (k : ℕ). g (suc k)) (λ k m. h (suc k) (omega arith)))

-- The first n of a longer table.
pub take-tabulate : (n m : ℕ) (f : ℕ → ℕ) → n ≤ m → take n (tabulate m f) ≡ tabulate n f
take-tabulate n m f h =
    is-table n f (take n (tabulate m f)) 0 (length-take-le n (tabulate m f) (omega (arith, length-tabulate m f)))
    (λ k l. get_or-take n (tabulate m f) k 0 l ∙ get_d_tabulate m f k 0 (omega arith))

-- What stands at k after a store at i.
pub get_d_set : (l : List ℕ) (i k v d : ℕ) → i < length l → get_or (set l i v) k d ≡ if (eqb k i) v (get_or l k d)
get_d_set l i k v d h =
    by_cases (eqb k i)
    (λ t. rw (eqb-true k i t) (get_or-set_same l i v d h ∙ sym (if-true (eqb i i) v (get_or l i d) (rw (eqb-true k i t) at t))))
    (λ t. get_or-set_other l i k v d (λ q. absurd (eqb-false k i t q)) ∙ sym (if-false (eqb k i) v (get_or l k d) t))
