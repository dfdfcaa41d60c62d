-- Which places are named.
use Rattle.std.specs.Prelude.{Some, None}
use mathlib.Core.Path.{◌≡◌, refl, ap, subst}
use Prim.Native.Nat.{ℕ, zero, suc, ◌<◌}
use native.Mathlib.Omega.{arith}
use Rattle.read_paired.specs.Named.{place_named}

named : (k : ℕ) → 0 < k → Some k ≡ place_named k
unfolding place_named
named zero l = absurd (let x : ⊥ = omega arith in x)
named (suc k) l = refl

pub named_there : {k p : ℕ} → k ≡ p → 0 < k → Some k ≡ place_named p
named_there {k} e l = subst (λ (p : ℕ). Some k ≡ place_named p) e (named k l)

pub named_nowhere : {p : ℕ} → 0 ≡ p → None ≡ place_named p
unfolding place_named
named_nowhere e = ap place_named e

-- A place that is named is not 0.
pub some_named : {k p : ℕ} → Some k ≡ place_named p → (p ≡ k) × (0 < k)
unfolding place_named
some_named {k = k} {p = zero} e = absurd (let x : ◌≡◌ {A = ℕ} 0 1 = cc in let y : ⊥ = omega arith in y)
some_named {k = k} {p = suc p} e = let q : suc p ≡ k = cc in (q, omega arith)

pub none_named : {p : ℕ} → None ≡ place_named p → p ≡ 0
unfolding place_named
none_named {p = zero} e = refl
none_named {p = suc p} e = absurd (let x : ◌≡◌ {A = ℕ} 0 1 = cc in let y : ⊥ = omega arith in y)
