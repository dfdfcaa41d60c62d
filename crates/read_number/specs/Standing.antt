-- The bytes of a row as a word of the machine takes them.
use Rattle.std.specs.Prelude.{List, ℕ, zero, suc, ◌+◌, ◌*◌, get_or}

-- The number in k bytes whose first stands in the lowest bits.
unfoldable pub standing_at : ℕ → List ℕ → ℕ → ℕ
standing_at zero bytes at = 0
standing_at (suc k) bytes at = standing_at k bytes (suc at) * 256 + get_or bytes at 0
