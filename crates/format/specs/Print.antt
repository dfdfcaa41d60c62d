-- The printer: the bytes of a sheet.
use Rattle.std.specs.Prelude.{List, [], ◌∷◌, ◌++◌, ℕ, zero, suc, ◌/◌, ◌%◌, ◌^◌, length}
use Rattle.network.specs.Sheet.{Table, Sheet}
use Rattle.format.specs.Layout.{Layout, Lookup, found, unknown}

-- A number in k bytes, big-endian.
unfoldable pub bytes_of : ℕ → ℕ → List ℕ
bytes_of zero v = []
bytes_of (suc k) v = v / 256 ^ k % 256 ∷ bytes_of k v

-- Each item printed, one after the other.
unfoldable pub print_all : {A : Type 0} → (A → List ℕ) → List A → List ℕ
print_all print [] = []
print_all print (x ∷ xs) = print x ++ print_all print xs

unfoldable pub print_table : Layout → Table → List ℕ
print_table L t = t.first ∷ t.second ∷ print_all (bytes_of L.bytes_per_row) t.rows

-- n, the sizes, p, the tables.
unfoldable pub print_body : Layout → Sheet → List ℕ
print_body L s = length s.sizes ∷ (s.sizes ++ (length s.tables ∷ print_all (print_table L) s.tables))

-- The version, and the count of the bytes that follow.
unfoldable pub print : Layout → Sheet → List ℕ
print L s = L.version ∷ (bytes_of 2 (length (print_body L s)) ++ print_body L s)

-- "The writer is told the version": the bytes in its layout, and none where there is none.
unfoldable pub print_in : Lookup → Sheet → List ℕ
print_in unknown s = []
print_in (found L) s = print L s
