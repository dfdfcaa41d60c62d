-- What a cut leaves of two leaders' pair, by what goes with each value of the first.
use Rattle.std.specs.Prelude.{Bool, List, ℕ}
use Rattle.bounded.specs.Bool.{and, implies}
use Rattle.words.specs.Word.{has}
use Rattle.pairs.specs.Pairs.{allows_of}
use Rattle.step_sides.specs.declared.sides.Side.{Side}

unfoldable pub cut_by : ℕ → List ℕ → Side → ℕ → Bool → (ℕ → ℕ → Bool) → ℕ → ℕ → Bool
cut_by w rows first q was told a b = and (has first.values a) (and (told a b) (implies was (allows_of w rows first.leader q a b)))
