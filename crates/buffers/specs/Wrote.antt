-- What it means that a text was written into a buffer.
use Rattle.std.specs.Prelude.{List, ◌++◌, ◌≡◌, ℕ, ◌+◌, ◌≤◌, length, take, drop}

-- The text stands at a place of the buffer and ends at r; the rest is as it was.
pub record Wrote (before after text : List ℕ) (at r : ℕ) : Type 0 where
  pub holds : after ≡ take at before ++ (text ++ drop r before)
  pub ends : r ≡ at + length text
  pub room : r ≤ length before
  pub keeps : length after ≡ length before
