-- How long a well-formed sheet can be.
use mathlib.Core.List.{List, [], ◌∷◌}
use mathlib.Core.Path.{◌≡◌, sym, ◌∙◌}
use Prim.Native.Nat.{ℕ, ◌+◌, ◌-◌, ◌*◌, ◌/◌, ◌≤◌}
use native.Mathlib.Nat.{mul-zero, mul-suc, suc-mul, mul-le-mul, mul-le-mul_left, mul-le-mul_right}
use native.Mathlib.Omega.{arith}
use lib.Dec.{ltb}
use lib.ListN.{length, get_or, length-append, get_or-eq_default}
use borrow.Author.Tests.{ltb-true, ltb-false}
use Rattle.bounded.proofs.Bool.{by_cases}
use Rattle.network.specs.Sheet.{Table, Sheet}
use Rattle.format.specs.Layout.{Layout, longest, largest_in}
use Rattle.format.specs.Parse.{size_of}
use Rattle.format.specs.Print.{bytes_of, print_all, print_table, print_body, print}
use Rattle.format.specs.WellFormed.{All, none, more, TableFits, WellFormed}
use Rattle.format.proofs.All.{all_get_d, all_map}
use Rattle.format.proofs.Layouts.{Usable}
use Rattle.format.proofs.Numbers.{length-bytes_of}

-- Rows of k bytes each.
pub length-rows : (k : ℕ) (rows : List ℕ) → length (print_all (bytes_of k) rows) ≡ k * length rows
unfolding print_all
length-rows k [] = sym (mul-zero k)
length-rows k (r ∷ rs) =
    length-append (bytes_of k r) (print_all (bytes_of k) rs) ∙ omega (arith, length-bytes_of k r, length-rows k rs, mul-suc k (length rs))

length-print_all : {A : Type 0} (print : A → List ℕ) (m : ℕ) {xs : List A} → All (λ (x : A). length (print x) ≤ m) xs
    → length (print_all print xs) ≤ length xs * m
unfolding print_all
length-print_all print m none = omega arith
length-print_all print m (more {x = x} {xs = xs} h hs) =
    omega (arith, length-append (print x) (print_all print xs), length-print_all print m hs, suc-mul (length xs) m)

-- "p, the number of tables (one byte, 0 to n(n-1)/2)": at most 120.
pub few-tables : (n p : ℕ) → n ≤ 16 → p ≤ n * (n - 1) / 2 → p ≤ 120
few-tables n p h l =
    let m : n * (n - 1) ≤ 16 * 15 = mul-le-mul {m₂ = 15} h (omega arith) in
    omega arith

module _ (L : Layout) (s : Sheet) (W : WellFormed L s) where
  pub size_most : (i : ℕ) → get_or s.sizes i 0 ≤ L.values_at_most
  size_most i =
      by_cases (ltb i (length s.sizes))
      (λ t. (all_get_d W.sizes_fit i 0 (ltb-true _ _ t)).1)
      (λ t. omega (arith, get_or-eq_default s.sizes 0 {n = i} (ltb-false _ _ t)))

  table-most : (t : Table) → TableFits L s.sizes t → length (print_table L t) ≤ 2 + L.bytes_per_row * L.values_at_most
  unfolding print_table size_of
  table-most t F =
      omega (
        arith,
        length-rows L.bytes_per_row t.rows,
        mul-le-mul_left L.bytes_per_row (let e : length t.rows ≤ L.values_at_most = rw F.row_count (size_most (t.first - 1)) in e),
      )

  -- No sheet is larger than the largest of its layout.
  pub within-largest : length (print L s) ≤ largest_in L
  unfolding print print_body bytes_of largest_in
  within-largest =
      let m = 2 + L.bytes_per_row * L.values_at_most in
      omega (
        arith,
        length-append s.sizes (length s.tables ∷ print_all (print_table L) s.tables),
        W.most_variables,
        length-print_all (print_table L) m (all_map table-most W.tables_fit),
        mul-le-mul_right m (few-tables (length s.sizes) (length s.tables) W.most_variables W.table_count),
      )

  pub largest-sheet : Usable L → length (print L s) ≤ longest
  largest-sheet U = omega (arith, within-largest, U.room_for_sheet)
