-- What refuses a step of two variables.
use Rattle.std.specs.Prelude.{Bool, ℕ}
use Rattle.bounded.specs.Bool.{or, not, if}

-- The number that refuses a step of two variables that differ, by whether each is free, their pair is stated, and it is functional: 11 "one not live", 12
-- "pair not stated", 13 "not functional".
unfoldable pub pair_number : Bool → Bool → Bool → Bool → ℕ
pair_number leads follows stated single = if (or (not leads) (not follows)) 11 (if (not stated) 12 (if (not single) 13 0))
