-- Reading.
use Rattle.std.specs.Prelude.{List, ℕ}
use Rattle.cause.specs.declared.Cause.TheVariants.{NotPaired}
use Rattle.cause.specs.Number.{number_of}
use Rattle.network.specs.Sheet.{Sheet, network_of}
use Rattle.format.specs.Parse.{Parse, got, bad, parse}
use Rattle.format.specs.Profile.{parse_paired}
use Rattle.state.specs.View.{pack, state_of_zeros}
use Rattle.state.specs.Answers.{ReadTold}

-- An accepted sheet gives the state of its network; the place is then 0. A refusal gives its number, its place and the zero state.
unfoldable pub read_as : Parse Sheet → ReadTold
read_as (got s next) = record { number = 0; place = 0; state = pack (network_of s) }
read_as (bad c at) = record { number = number_of c; place = at; state = state_of_zeros }

unfoldable pub read_sheet : List ℕ → ReadTold
read_sheet bytes = read_as (parse bytes)

-- "A reading call of its own, beside the old one, refuses with 31 and the zero state a sheet that has another kind of table, naming the place of the first
-- such pair, after all other tests of reading" (document 02).
unfoldable pub read_paired : List ℕ → ReadTold
read_paired bytes = read_as (parse_paired NotPaired bytes)
