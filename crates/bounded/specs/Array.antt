-- Arrays of numbers: what the type of an array says of the list that it holds.
use Rattle.std.specs.Prelude.{List, ◌≡◌, ℕ, ◌<◌, length, get_or}

-- n numbers below b.
pub record Array (n b : ℕ) (l : List ℕ) : Type 0 where
  pub array_length : length l ≡ n
  pub element_lt : (k : ℕ) → get_or l k 0 < b
