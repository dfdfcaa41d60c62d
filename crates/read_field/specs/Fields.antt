-- The answers of the functions that read, as parses.
use Rattle.std.specs.Prelude.{Bool, true, false, ◌≡◌, ℕ, ltb, Result, Ok, Err}
use Rattle.bounded.specs.Bool.{or, if}
use Rattle.cause.specs.declared.Cause.{Cause}
use Rattle.cause.specs.declared.Refusal.{Refusal}
use Rattle.read_field.specs.declared.field.Field.{Field}
use Rattle.format.specs.Layout.{Test, fine, fault}
use Rattle.format.specs.Parse.{Parse, got, bad}

-- An answer with x in the place of its number.
unfoldable pub read_as : {A : Type 0} → Result Field Refusal → A → Parse A
read_as (Ok field) x = got x field.next
read_as (Err refusal) x = bad refusal.cause refusal.place

-- An answer, its number being what was parsed.
unfoldable pub read_of : Result Field Refusal → Parse ℕ
read_of (Ok field) = got field.value field.next
read_of (Err refusal) = bad refusal.cause refusal.place

-- A number from least to most, and else the cause: the tests of n, of a size and of p.
unfoldable pub range_test : ℕ → ℕ → Cause → ℕ → Test
range_test least most c v = if (or (ltb v least) (ltb most v)) (fault c) fine

-- An answer says whether something holds.
abbrev pub Decides : Bool → Type 0 → Type 0
Decides b P = (b ≡ true → P) × (b ≡ false → P → ⊥)
