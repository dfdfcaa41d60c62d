-- The paired profile (document 02, L14): "tables functional both ways on the full lists, what source document 001 simply calls functional".
use Rattle.std.specs.Prelude.{Bool, ℕ}
use Rattle.bounded.specs.Bool.{and, not}
use Rattle.bounded.specs.Fold.{every, some, first}
use Rattle.network.specs.Network.{Network, functional}

-- i and j are stated together, and not functional both ways: "another kind of table". Of a sheet just read, whose domains are full.
unfoldable pub unpaired : Network → ℕ → ℕ → Bool
unpaired N i j = and (N.stated i j) (not (and (functional N i j) (functional N j i)))

-- i has such a table.
unfoldable pub has_unpaired : Network → ℕ → Bool
has_unpaired N i = some N.n (unpaired N i)

-- "Retrofit kits use only tables functional both ways on the full lists".
unfoldable pub paired : Network → Bool
paired N = every N.n (λ (i : ℕ). not (has_unpaired N i))

-- "the first such pair": "Pairs ascend, by a and then by b".
unfoldable pub unpaired_first : Network → ℕ
unpaired_first N = first N.n (has_unpaired N)

unfoldable pub unpaired_second : Network → ℕ
unpaired_second N = first N.n (unpaired N (unpaired_first N))
