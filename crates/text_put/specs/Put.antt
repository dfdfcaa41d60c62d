-- What it means that a text was put into a buffer: byte by byte, as far as there is room.
use Rattle.std.specs.Prelude.{List, [], ◌∷◌, ◌++◌, ◌≡◌, ℕ, zero, suc, ◌+◌, ltb, length, set}
use Rattle.bounded.specs.Bool.{if}

-- A buffer, and the place in it where the next byte goes.
pub record Place : Type 0 where
  pub buffer : List ℕ
  pub at : ℕ

-- A byte past the end is left out.
unfoldable pub put_byte : Place → ℕ → Place
put_byte p byte = if (ltb p.at (length p.buffer)) (record { buffer = set p.buffer p.at byte; at = p.at + 1 }) p

unfoldable pub put_all : Place → List ℕ → Place
put_all p [] = p
put_all p (byte ∷ text) = put_all (put_byte p byte) text

-- The text was put at a place of the buffer; the next byte goes to r. Where all of it has room this is `Wrote` of the crate buffers (`put-wrote`).
pub record Put (before after text : List ℕ) (at r : ℕ) : Type 0 where
  pub is_put : ◌≡◌ {A = Place} (record { buffer = after; at = r }) (put_all (record { buffer = before; at = at }) text)
  pub keeps : length after ≡ length before

-- The texts of 0, 1, .., n - 1, one after the other.
unfoldable pub each : (ℕ → List ℕ) → ℕ → List ℕ
each text zero = []
each text (suc k) = each text k ++ text k
