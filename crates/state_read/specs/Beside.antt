-- "Version 3 is laid out like version 2 and forbids an all-zero row": what is answered of the same bytes after a first 03 and after a first 02.
use Rattle.std.specs.Prelude.{true, List, ◌∷◌, ◌↔◌, ◌⊎◌, ◌≡◌, ℕ}
use Rattle.format.specs.Parse.{Octets}
use Rattle.format.specs.Writable.{no_blank_row}
use Rattle.state.specs.View.{view}
use Rattle.state.specs.Read.{read_sheet}

-- Every answer, its state included, is that of version 2, or is 26. Of what version 2 accepts, version 3 accepts exactly what has no all-zero row.
pub record BesideVersion2 (rest : List ℕ) : Type 0 where
  pub same_or_26 : (read_sheet (3 ∷ rest) ≡ read_sheet (2 ∷ rest)) ⊎ ((read_sheet (3 ∷ rest)).number ≡ 26)
  pub accepted_filled : (read_sheet (2 ∷ rest)).number ≡ 0
      → ((read_sheet (3 ∷ rest)).number ≡ 0) ↔ (no_blank_row (view (read_sheet (2 ∷ rest)).state) ≡ true)

unfoldable pub Version3Beside2 : Type 0
Version3Beside2 = (rest : List ℕ) → Octets (3 ∷ rest) → BesideVersion2 rest
