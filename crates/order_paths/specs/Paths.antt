-- Who reaches and who governs whom, one word for each variable (document 02, L13).
use Rattle.std.specs.Prelude.{List, ℕ}
use Rattle.bounded.specs.Table.{tabulate}
use Rattle.words.specs.Word.{width, word}
use Rattle.network.specs.Network.{Network}
use Rattle.network.specs.Reach.{leads_to, reach}
use Rattle.network.specs.Order.{governs}
use Rattle.pairs.specs.Pairs.{variables}

-- "tables functional along the way": the variables to which a stated table is functional from i.
unfoldable pub edges_of : Network → List ℕ
edges_of N = tabulate variables (λ (i : ℕ). word width (leads_to N i))

-- The variables to which there is a path from i.
unfoldable pub paths_of : Network → List ℕ
paths_of N = tabulate variables (λ (i : ℕ). word width (reach N i))

-- The variables that govern i: there is a path from them to i, and none back.
unfoldable pub over_of : Network → List ℕ
over_of N = tabulate variables (λ (i : ℕ). word width (λ (j : ℕ). governs N.n (reach N) j i))
