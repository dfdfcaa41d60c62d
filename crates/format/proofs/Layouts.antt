-- The layouts that there are: what holds of each, and which one a version has.
use mathlib.Core.Bool.{Bool, true}
use mathlib.Core.List.{List}
use mathlib.Core.Path.{◌≡◌, refl, sym, ◌∙◌, ap}
use Prim.Native.Nat.{ℕ, ◌+◌, ◌^◌, ◌≤◌, ◌<◌}
use native.Mathlib.Omega.{arith}
use lib.Dec.{eqb, leb}
use borrow.Author.Tests.{eqb-true, eq-eqb, ne_eqb, leb-true}
use Rattle.bounded.specs.Bool.{and, if}
use Rattle.bounded.proofs.Bool.{by_cases, and_l, and_r, if-true, if-false}
use Rattle.format.specs.Layout.{Layout, longest, largest_size, largest_in, version1, version2, version3, layouts, Lookup, found, unknown, layout_among, layout_of}
use Rattle.format.specs.WellFormed.{All, none, more}
use Rattle.format.proofs.All.{all_map}

-- What a layout must be for its sheets and the networks of at most 16 variables to be the same things: some size, none above the largest, room in its bytes
-- for every row, and in the longest sheet for the largest of its own.
pub record Usable (L : Layout) : Type 0 where
  pub some_value : 1 ≤ L.values_at_most
  pub most_values : L.values_at_most ≤ largest_size
  pub room_for_row : 2 ^ L.values_at_most ≤ 256 ^ L.bytes_per_row
  pub room_for_sheet : largest_in L ≤ longest

-- The count of the bytes has room in two.
pub longest-counted : longest < 256 ^ 2 + 3
unfolding longest
longest-counted = omega arith

-- One computed test decides it of any layout.
usable_test : Layout → Bool
usable_test L =
    and (and (leb 1 L.values_at_most) (leb L.values_at_most largest_size)) (and (leb (2 ^ L.values_at_most) (256 ^ L.bytes_per_row)) (leb (largest_in L) longest))

tested-usable : (L : Layout) → usable_test L ≡ true → Usable L
unfolding usable_test
tested-usable L h =
    let sizes = and_l _ _ h in
    let rooms = and_r _ _ h in
    record {
      some_value = leb-true _ _ (and_l _ _ sizes);
      most_values = leb-true _ _ (and_r _ _ sizes);
      room_for_row = leb-true _ _ (and_l _ _ rooms);
      room_for_sheet = leb-true _ _ (and_r _ _ rooms);
    }

layouts-usable : All Usable layouts
unfolding usable_test layouts version1 version2 version3 largest_in longest and
layouts-usable = all_map tested-usable (more refl (more refl (more refl none)))

-- A look-up finds the version that it looks for, and what holds of all layouts.
among : {P : Layout → Type 0} {Ls : List Layout} → All P Ls → (v : ℕ) {L : Layout} → layout_among Ls v ≡ found L → (v ≡ L.version) × P L
unfolding layout_among
among none v h = absurd (let z : ◌≡◌ {A = ℕ} 0 1 = cc in let x : ⊥ = omega arith in x)
among {P} (more {x = K} {xs = Ls} p ps) v {L} h =
    by_cases (eqb v K.version)
    (λ t. let e : K ≡ L = let q : found K ≡ found L = sym (if-true _ (found K) (layout_among Ls v) t) ∙ h in cc in
    (eqb-true _ _ t ∙ ap (λ (M : Layout). M.version) e, rw e at p))
    (λ t. among ps v (sym (if-false _ (found K) (layout_among Ls v) t) ∙ h))

module _ (v : ℕ) (L : Layout) (h : layout_of v ≡ found L) where
  pub found-version : v ≡ L.version
  unfolding layout_of
  found-version = (among layouts-usable v h).0

  pub found-again : layout_of L.version ≡ found L
  found-again = ap layout_of (sym found-version) ∙ h

  pub found-usable : Usable L
  unfolding layout_of
  found-usable = (among layouts-usable v h).1

pub version1-found : (v : ℕ) → v ≡ 1 → layout_of v ≡ found version1
unfolding layout_of layouts layout_among version1
version1-found v h = if-true _ _ _ (eq-eqb v 1 h)

pub version2-found : (v : ℕ) → v ≡ 2 → layout_of v ≡ found version2
unfolding layout_of layouts layout_among if version1 version2
version2-found v h = rw h

pub version3-found : (v : ℕ) → v ≡ 3 → layout_of v ≡ found version3
unfolding layout_of layouts layout_among if version1 version2 version3
version3-found v h = rw h

-- "Number 2 now means neither 1 nor 2", and "now let 3 pass too".
pub other-unknown : (v : ℕ) → (v ≡ 1 → ⊥) → (v ≡ 2 → ⊥) → (v ≡ 3 → ⊥) → layout_of v ≡ unknown
unfolding layout_of layouts layout_among version1 version2 version3
other-unknown v h k l = if-false _ _ _ (ne_eqb v 1 h) ∙ if-false _ _ _ (ne_eqb v 2 k) ∙ if-false _ _ _ (ne_eqb v 3 l)

-- A look-up finds a layout or none.
pub found-or-unknown : {A : Type 0} (k : Lookup) → (k ≡ unknown → A) → ((L : Layout) → k ≡ found L → A) → A
found-or-unknown unknown f g = f refl
found-or-unknown (found L) f g = g L refl
