-- "after all other tests of reading" (document 02, L14): the tables are looked at in a sheet that the parser takes.
use Rattle.std.specs.Prelude.{List, ◌≡◌, ℕ}
use Rattle.network.specs.Sheet.{Sheet}
use Rattle.format.specs.Parse.{got, parse}

pub record Accepted (bytes : List ℕ) : Type 0 where
  pub sheet : Sheet
  pub end : ℕ
  pub read : parse bytes ≡ got sheet end
