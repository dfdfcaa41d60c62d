-- Facts on the sixteen sizes, and on counts of 32 bits.
use mathlib.Core.List.{List}
use mathlib.Core.Path.{◌≡◌}
use Prim.Native.Nat.{ℕ, ◌+◌, ◌-◌, ◌<◌, ◌≤◌, ◌^◌}
use native.Mathlib.Omega.{arith}
use lib.Dec.{ltb, leb}
use lib.ListN.{get_or}
use borrow.Author.Rules.{rules}
use borrow.Author.Tests.{ltb-true, ltb-false, lt-ltb, le-leb, leb-true}
use Rattle.bounded.specs.Array.{Array}
use Rattle.bounded.proofs.Array.{u8-array, array-past}
use Rattle.bounded.proofs.Bool.{by_cases, bool-ext}

pub ruleset shape = (u8-array, rules)

-- An option that has a value is one of the first sixteen.
pub sized : (l : List ℕ) (o v : ℕ) → Array 16 (2 ^ 8) l → v < get_or l o 0 → o < 16
sized l o v A h =
    by_cases (ltb o 16) (λ t. ltb-true o 16 t)
    (λ t. absurd (none (array-past 16 (2 ^ 8) l A o (ltb-false o 16 t))))
  where
    none : get_or l o 0 ≡ 0 → ⊥
    none z = omega (arith, h, z)

-- The test of the code for a count that does not fit.
pub over : (k c : ℕ) → k < 2 ^ 32 → ltb (4294967295 - k) c ≡ leb (2 ^ 32) (c + k)
over k c small =
    bool-ext (ltb (4294967295 - k) c) (leb (2 ^ 32) (c + k))
    (λ t. le-leb (2 ^ 32) (c + k) (up (ltb-true (4294967295 - k) c t)))
    (λ t. lt-ltb (4294967295 - k) c (down (leb-true (2 ^ 32) (c + k) t)))
  where
    up : 4294967295 - k < c → 2 ^ 32 ≤ c + k
    up l = omega (arith, l, small)

    down : 2 ^ 32 ≤ c + k → 4294967295 - k < c
    down l = omega (arith, l, small)

pub within : (k c : ℕ) → k < 2 ^ 32 → c ≤ 4294967295 - k → c + k < 2 ^ 32
within k c small l = omega (arith, l, small)

pub beyond : (k c : ℕ) → k < 2 ^ 32 → 4294967295 - k < c → 2 ^ 32 ≤ c + k
beyond k c small l = omega (arith, l, small)
