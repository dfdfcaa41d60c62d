-- What the machine tests.
use mathlib.Core.Bool.{true}
use mathlib.Core.List.{List}
use mathlib.Core.Path.{◌≡◌, ◌∙◌}
use Prim.Native.Nat.{ℕ, ◌≤◌, ◌<◌, ◌^◌}
use native.Mathlib.Omega.{arith}
use lib.Dec.{leb, ltb}
use lib.ListN.{get_or}
use borrow.Author.Tests.{le-leb, ltb-true, lt-ltb, eq-eqb}
use Rattle.bounded.specs.Array.{Array}
use Rattle.bounded.proofs.Array.{array-past}
use Rattle.bounded.proofs.Bool.{by_cases, clash, if-true, if-false}
use Rattle.bins_text.specs.Machine.{place_index, in_order}

-- A variable past sixteen has no value.
pub no_size : (sizes : List ℕ) (o value : ℕ) → Array 16 (2 ^ 8) sizes → 16 ≤ o → leb (get_or sizes o 0) value ≡ true
no_size sizes o value A k = le-leb (get_or sizes o 0) value (omega (arith, array-past 16 (2 ^ 8) sizes A o k))

-- What comes next has room.
pub in-order-room : (n : ℕ) (sizes : List ℕ) (count variable value : ℕ) → in_order n sizes count variable value ≡ true → count < 512
unfolding in_order
in-order-room n sizes count variable value h =
    by_cases (ltb count 512) (λ t. ltb-true count 512 t) (λ t. clash h (if-false _ _ _ t))

pub in-order-true : (n : ℕ) (sizes : List ℕ) (count variable value : ℕ) → count < 512 → place_index n sizes variable value ≡ count
    → in_order n sizes count variable value ≡ true
unfolding in_order
in-order-true n sizes count variable value h e = if-true _ _ _ (lt-ltb count 512 h) ∙ eq-eqb _ count e
