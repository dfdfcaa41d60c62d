-- Laws of arrays of numbers.
use mathlib.Core.List.{List, [], ◌∷◌}
use mathlib.Core.Path.{◌≡◌, sym, ◌∙◌}
use Prim.Native.Nat.{ℕ, zero, suc, ◌^◌, ◌≤◌, ◌<◌}
use native.Mathlib.Omega.{arith}
use lib.Dec.{ltb}
use lib.ListN.{length, get_or, set, get_or-eq_default}
use mir.Syntax.{Width, w8, w32}
use mir.Val.{Fits, bits}
use borrow.Author.Tests.{ltb-true, ltb-false}
use Rattle.bounded.specs.Array.{Array}
use Rattle.bounded.specs.Table.{tabulate}
use Rattle.bounded.proofs.Bool.{by_cases}
use Rattle.bounded.proofs.Table.{length-tabulate, get_d_tabulate, get_d-tabulate-past}

-- The elements of an array of `u8` or `u32` fit; `search (u8-array, u32-array, needs)` finds both facts of a parameter or a field.
fits-array : (W : Width) (n : ℕ) (l : List ℕ) → length l ≡ n → ((k : ℕ) → Fits W (get_or l k 0)) → Array n (2 ^ bits W) l
fits-array W n l e f = record { array_length = e; element_lt = λ k. (f k).fits }

pub u8-array : (n : ℕ) (l : List ℕ) → length l ≡ n → ((k : ℕ) → Fits w8 (get_or l k 0)) → Array n (2 ^ 8) l
u8-array = fits-array w8

pub u32-array : (n : ℕ) (l : List ℕ) → length l ≡ n → ((k : ℕ) → Fits w32 (get_or l k 0)) → Array n (2 ^ 32) l
u32-array = fits-array w32

-- Past its end an array reads as 0.
pub array-past : (n b : ℕ) (l : List ℕ) → Array n b l → (k : ℕ) → n ≤ k → get_or l k 0 ≡ 0
array-past n b l A k h = get_or-eq_default l 0 (omega arith)

-- A store keeps the elements below b.
pub set-lt : (b : ℕ) (l : List ℕ) (p v : ℕ) → v < b → ((k : ℕ) → get_or l k 0 < b) → (k : ℕ) → get_or (set l p v) k 0 < b
set-lt b [] p v h f k = f k
set-lt b (x ∷ l) zero v h f zero = h
set-lt b (x ∷ l) zero v h f (suc k) = f (suc k)
set-lt b (x ∷ l) (suc p) v h f zero = f zero
set-lt b (x ∷ l) (suc p) v h f (suc k) = set-lt b l p v h (λ m. f (suc m)) k

-- The table of a rule that is 0 past the end has what the rule says, everywhere.
pub get_d-table : (n : ℕ) (f : ℕ → ℕ) (k : ℕ) → (n ≤ k → f k ≡ 0) → get_or (tabulate n f) k 0 ≡ f k
get_d-table n f k h =
    by_cases (ltb k n)
    (λ t. get_d_tabulate n f k 0 (ltb-true k n t))
    (λ t. get_d-tabulate-past n f k 0 (ltb-false k n t) ∙ sym (h (ltb-false k n t)))

-- A table of numbers below b is an array of them.
pub table-array : (n b : ℕ) (f : ℕ → ℕ) → zero < b → ((k : ℕ) → k < n → f k < b) → Array n b (tabulate n f)
table-array n b f pos h =
    record {
      array_length = length-tabulate n f;
      element_lt = λ k.
          by_cases (ltb k n)
          (λ t. let l : k < n = ltb-true k n t in rw (get_d_tabulate n f k 0 l) (h k l))
          (λ t. rw (get_d-tabulate-past n f k 0 (ltb-false k n t)) pos);
    }
