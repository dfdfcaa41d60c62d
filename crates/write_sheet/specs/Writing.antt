-- The bytes that writing a head and rows comes to.
use Rattle.std.specs.Prelude.{List, ◌≡◌, ℕ, length}
use Rattle.network.specs.Sheet.{sheet_of}
use Rattle.head.specs.declared.Head.{Head}
use Rattle.head.specs.Held.{held}
use Rattle.format.specs.Layout.{Layout, layout_of}
use Rattle.format.specs.Print.{print, print_in}

-- The sheet of the network that they hold, in a version; no bytes in an unknown one.
unfoldable pub bytes_held : ℕ → Head → List ℕ → List ℕ
bytes_held version h rows = print_in (layout_of version) (sheet_of (held h rows))

-- So many bytes has the sheet of every head with these sizes and stated pairs, whatever else it and the rows are, in every layout with k bytes to a row.
abbrev pub LengthIs : ℕ → ℕ → List ℕ → List ℕ → ℕ → Type 0
LengthIs k n sizes stated bytes =
    (L : Layout) (h : Head) (rows : List ℕ) → L.bytes_per_row ≡ k → h.n ≡ n → h.sizes ≡ sizes → h.stated ≡ stated
    → bytes ≡ length (print L (sheet_of (held h rows)))
