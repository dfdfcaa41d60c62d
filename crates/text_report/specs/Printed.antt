-- What is printed: a text at the start of an array, and the numbers whose text fits there.
use Rattle.std.specs.Prelude.{List, ◌++◌, ◌≡◌, ℕ, ◌-◌, ◌≤◌, ◌<◌, length, get_or, replicate}
use Rattle.answers.specs.Answers.{verdict_solution}
use Rattle.state.specs.Cut.{CutTold}

-- An array of so many bytes holds a text of n bytes, and zeros past it, of which there is one at least: it ends as a string of C does.
pub record Printed (size : ℕ) (text bytes : List ℕ) (n : ℕ) : Type 0 where
  pub ends : n ≡ length text
  pub zero_past : n < size
  pub holds : bytes ≡ text ++ replicate (size - length text) 0

-- The numbers that a text shows have as many digits at most as reading and reducing give them: a place is within the largest sheet, of 15,621 bytes;
-- there are at most 16 options, and so fewer steps; leaders and values are bytes.
pub record Printable (c : CutTold) : Type 0 where
  pub number_lt : c.number < 100
  pub place_le : c.place ≤ 15621
  pub options_le : c.state.n ≤ 16
  pub steps_lt : c.steps < 16
  pub leaders_lt : (k : ℕ) → get_or c.state.leaders k 0 < 256
  pub values_lt : (k : ℕ) → get_or (verdict_solution c.verdict) k 0 < 256

-- The same but for what the types of an answer's bytes say.
pub record Narrow (c : CutTold) : Type 0 where
  pub number_lt : c.number < 100
  pub place_le : c.place ≤ 15621
  pub options_le : c.state.n ≤ 16
  pub steps_lt : c.steps < 16
