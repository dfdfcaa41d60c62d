-- What a version fixes for the writer, and which states it takes.
use mathlib.Core.Bool.{false}
use mathlib.Core.List.{List}
use mathlib.Core.Path.{◌≡◌, refl}
use Prim.Native.Nat.{ℕ, ◌≤◌}
use native.Mathlib.Omega.{arith}
use lib.Dec.{eqb, leb}
use lib.ListN.{get_or}
use borrow.Author.Tests.{eqb-true, eqb-false}
use Rattle.bounded.specs.Fold.{every}
use Rattle.bounded.proofs.Bool.{by_cases}
use Rattle.head.specs.declared.Head.{Head}
use Rattle.head.specs.Held.{held}
use Rattle.format.specs.Layout.{version1, version2, version3, layout_of}
use Rattle.format.specs.Builds.{width_in}
use Rattle.format.specs.Writable.{fits_version, filled_in}
use Rattle.format.proofs.Layouts.{version1-found, version2-found, version3-found, other-unknown, found-usable, found-or-unknown}
use Rattle.write_version.specs.declared.layout.Fixed.{Fixed}
use Rattle.write_version.specs.Version.{most_in, Fixes}

module _ (v : ℕ) where
  pub fixed-first : v ≡ 1 → Fixes (layout_of v) (record { bytes = 2; most = 16; filled = false })
  unfolding width_in most_in filled_in version1
  fixed-first e = rw (version1-found v e) (record { bytes_are = refl; bytes_most = omega arith; most_is = refl; filled_is = refl })

  pub fixed_later : 2 ≤ v → v ≤ 3 → Fixes (layout_of v) (record { bytes = 4; most = 32; filled = eqb v 3 })
  unfolding width_in most_in filled_in version2 version3
  fixed_later h k =
      by_cases (eqb v 3)
      (λ t. rw (version3-found v (eqb-true v 3 t), t) (record { bytes_are = refl; bytes_most = omega arith; most_is = refl; filled_is = refl }))
      (λ t. let e : v ≡ 2 = omega (arith, eqb-false v 3 t) in
      rw (version2-found v e, t) (record { bytes_are = refl; bytes_most = omega arith; most_is = refl; filled_is = refl }))

  pub fixed-other : (v ≡ 1 → ⊥) → (v ≡ 2 → ⊥) → (v ≡ 3 → ⊥) → Fixes (layout_of v) (record { bytes = 0; most = 0; filled = false })
  unfolding width_in most_in filled_in
  fixed-other h k l = rw (other-unknown v h k l) (record { bytes_are = refl; bytes_most = omega arith; most_is = refl; filled_is = refl })

-- Whether a head and rows fit a version, by the largest size: none, for an unknown version, or the limit of every size.
module _ (v : ℕ) (f : Fixed) (F : Fixes (layout_of v) f) (h : Head) (rows : List ℕ) where
  pub none-fits : f.most ≡ 0 → fits_version (layout_of v) (held h rows) ≡ false
  unfolding most_in fits_version
  none-fits z =
      found-or-unknown (layout_of v)
      (λ e. rw e)
      (λ L e. absurd (let x : ⊥ = omega (arith, rw e at F.most_is, (found-usable v L e).some_value) in x))

  pub limit-fits : (f.most ≡ 0 → ⊥) → every h.n (λ (k : ℕ). leb (get_or h.sizes k 0) f.most) ≡ fits_version (layout_of v) (held h rows)
  unfolding most_in fits_version held
  limit-fits some =
      found-or-unknown (layout_of v)
      (λ e. absurd (some (rw e at F.most_is)))
      (λ L e. rw (e, rw e at F.most_is))
