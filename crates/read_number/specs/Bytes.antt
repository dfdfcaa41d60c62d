-- How many bytes a number may have.
use Rattle.std.specs.Prelude.{◌≡◌, ℕ, ◌%◌, ◌≤◌}

-- The bytes that a row has in some layout: two or four.
abbrev pub RowBytes : ℕ → Type 0
RowBytes k = (2 ≤ k) × (k ≤ 4) × (k % 2 ≡ 0)
