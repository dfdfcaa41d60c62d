-- What the search of a sound state promises.
use Rattle.std.specs.Prelude.{List, Option, MatchOption, ◌≡◌, ℕ}
use Rattle.bounded.specs.Table.{tabulate}
use Rattle.network.specs.Network.{Network}
use Rattle.network.specs.Search.{none, searched, sought}
use Rattle.pairs.specs.Pairs.{variables}

-- It "finds the first build, live options compared in ascending number and lower values first, or says there is none". "A build is returned as the verdict's
-- is, zero past n".
abbrev pub FoundIn : Network → Option (List ℕ) → Type 0
FoundIn N r = MatchOption r (searched N ≡ none) (λ solution. (searched N ≡ none → ⊥) × (solution ≡ tabulate variables (sought N)))
