-- The whole sheet: its length first, then its version, then the body in the layout of the version.
use mathlib.Core.Bool.{true, false}
use mathlib.Core.List.{List}
use mathlib.Core.Path.{◌≡◌, refl}
use Prim.Native.Nat.{ℕ, ◌<◌}
use native.Mathlib.Omega.{arith}
use lib.ListN.{length, get_or}
use Rattle.cause.specs.declared.Cause.TheVariants.{Length, Version}
use Rattle.std.specs.Prelude.{Result, Err}
use Rattle.cause.specs.declared.Refusal.{Refusal}
use Rattle.read_field.specs.declared.field.Field.{Field}
use Rattle.format.specs.Layout.{Layout, found, layout_of}
use Rattle.format.specs.Parse.{wrong_length, parse}
use Rattle.format.proofs.Layouts.{other-unknown}
use Rattle.format.proofs.Parse.{length-fits, parse-wrong-length, parse-wrong-version, parse-is-body}
use Rattle.read_body.specs.Reading.{SheetRead}
use Rattle.read_body.proofs.Reading.{BodyRead, sheet-refused}

-- Where the length is right there is a byte 0.
pub some_byte : (bytes : List ℕ) → wrong_length bytes ≡ false → 0 < length bytes
some_byte bytes right = omega (arith, (length-fits bytes right).at_least_three)

module _ (bytes : List ℕ) {sizes stated rows : List ℕ} where
  -- 1 before all else.
  pub into-wrong-length : wrong_length bytes ≡ true → SheetRead (parse bytes) sizes stated rows (Err (record { cause = Length; place = 0 }))
  into-wrong-length h = sheet-refused _ sizes stated rows Length 0 (parse-wrong-length bytes h)

  module _ (right : wrong_length bytes ≡ false) where
    -- Then 2.
    pub into-wrong-version : (get_or bytes 0 0 ≡ 1 → ⊥) → (get_or bytes 0 0 ≡ 2 → ⊥) → (get_or bytes 0 0 ≡ 3 → ⊥)
        → SheetRead (parse bytes) sizes stated rows (Err (record { cause = Version; place = 0 }))
    into-wrong-version h k l = sheet-refused _ sizes stated rows Version 0 (parse-wrong-version bytes right (other-unknown _ h k l))

    -- Then the fields, in the layout of the version.
    pub into-body : (L : Layout) → layout_of (get_or bytes 0 0) ≡ found L
        → {r : Result Field Refusal} → BodyRead bytes L.bytes_per_row L.filled L.values_at_most sizes stated rows r → SheetRead (parse bytes) sizes stated rows r
    into-body L version body = rw (parse-is-body bytes right L version) (body L (record { row_bytes = refl; rows_filled = refl }) refl)
