-- A place, or nothing for 0: no table stands at the first byte.
use Rattle.std.specs.Prelude.{ℕ, zero, suc, Option, Some, None}

unfoldable pub place_named : ℕ → Option ℕ
place_named zero = None
place_named (suc k) = Some (suc k)
