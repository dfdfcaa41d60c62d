-- What the writer tests of the version that it is told.
use Rattle.std.specs.Prelude.{Bool, false, ℕ, leb}
use Rattle.bounded.specs.Bool.{implies}
use Rattle.bounded.specs.Fold.{every, some}
use Rattle.network.specs.Network.{Network}
use Rattle.format.specs.Layout.{Lookup, found, unknown}

-- "The writer refuses with 24, after 18 and before 17, an unknown version or a size above 16 in version 1": where this test fails.
unfoldable pub fits_version : Lookup → Network → Bool
fits_version unknown N = false
fits_version (found L) N = every N.n (λ (i : ℕ). leb (N.size i) L.values_at_most)

-- A stated pair has no all-zero row for its lower-numbered variable i: each of its values goes with some value of j. Columns may be empty.
unfoldable pub rows_are_filled : Network → ℕ → ℕ → Bool
rows_are_filled N i j = every (N.size i) (λ (a : ℕ). some (N.size j) (N.allows i j a))

unfoldable pub no_blank_row : Network → Bool
no_blank_row N = every N.n (λ (j : ℕ). every j (λ (i : ℕ). implies (N.stated i j) (rows_are_filled N i j)))

-- An all-zero row is banned; in an unknown version nothing is.
unfoldable pub filled_in : Lookup → Bool
filled_in unknown = false
filled_in (found L) = L.filled

-- "The writer in version 3 refuses a state where a stated table has such a row for its lower-numbered option." With 26, "after 24 and before 17 in writing":
-- where this test fails.
unfoldable pub rows_pass : Lookup → Network → Bool
rows_pass k N = implies (filled_in k) (no_blank_row N)
