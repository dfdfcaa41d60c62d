-- What a version fixes for the writer.
use Rattle.std.specs.Prelude.{Bool, List, ◌≡◌, ℕ, ◌≤◌}
use Rattle.head.specs.declared.Head.{Head}
use Rattle.head.specs.Held.{held}
use Rattle.format.specs.Layout.{Lookup, found, unknown, layout_of}
use Rattle.format.specs.Builds.{width_in}
use Rattle.format.specs.Writable.{fits_version, filled_in}
use Rattle.write_version.specs.declared.layout.Fixed.{Fixed}

-- The largest size in a layout.
unfoldable pub most_in : Lookup → ℕ
most_in (found L) = L.values_at_most
most_in unknown = 0

-- A row has at most the four bytes of a word.
pub record Fixes (k : Lookup) (f : Fixed) : Type 0 where
  pub bytes_are : f.bytes ≡ width_in k
  pub bytes_most : f.bytes ≤ 4
  pub most_is : f.most ≡ most_in k
  pub filled_is : f.filled ≡ filled_in k

-- Whether every head with these sizes fits a version, whatever else it and the rows are.
abbrev pub FitsIs : ℕ → ℕ → List ℕ → Bool → Type 0
FitsIs version n sizes fits =
    (h : Head) (rows : List ℕ) → h.n ≡ n → h.sizes ≡ sizes → fits ≡ fits_version (layout_of version) (held h rows)
