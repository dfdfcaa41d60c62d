-- Sheets and what their survey says: the number of solutions, and the word of each variable's values.
use Rattle.std.specs.Prelude.{Bool, true, List, [], ◌∷◌, ℕ, eqb, get_or}
use Rattle.bounded.specs.Bool.{and}
use Rattle.bounded.specs.Fold.{every}
use Rattle.words.specs.Word.{word}
use Rattle.network.specs.Network.{Network}
use Rattle.network.specs.Reduction.{Reduced, reduce}
use Rattle.network.specs.Sheet.{Table, Sheet, network_of}
use Rattle.network.specs.Survey.{Tally, surveyed}

-- The survey t of N says this count and these words.
unfoldable pub tally_says : Network → Tally → ℕ → List ℕ → Bool
tally_says N t c words = and (eqb t.count c) (every N.n (λ (i : ℕ). eqb (word (N.size i) (t.used i)) (get_or words i 0)))

unfoldable pub survey_says : Network → ℕ → List ℕ → Bool
survey_says N c words = tally_says N (surveyed N) c words

unfoldable pub different : ℕ → ℕ → Table
different a b = record { first = a; second = b; rows = 6 ∷ 5 ∷ 3 ∷ [] }

-- Sheet G, as read,
unfoldable pub sheet_g : Network
sheet_g = network_of (record { sizes = 2 ∷ 2 ∷ []; tables = record { first = 1; second = 2; rows = 3 ∷ 3 ∷ [] } ∷ [] })

-- H, which has no table,
unfoldable pub sheet_h : Network
sheet_h = network_of (record { sizes = 2 ∷ 2 ∷ []; tables = [] })

-- A, reduced,
unfoldable pub reduced_a : Network
reduced_a =
    (reduce (network_of (record {
      sizes = 2 ∷ 3 ∷ 2 ∷ [];
      tables = record { first = 1; second = 2; rows = 1 ∷ 4 ∷ [] } ∷ record { first = 2; second = 3; rows = 2 ∷ 1 ∷ 1 ∷ [] } ∷ [];
    }))).network

-- four variables of three values that must all differ,
unfoldable pub all_differ : Network
all_differ =
    network_of (record {
      sizes = 3 ∷ 3 ∷ 3 ∷ 3 ∷ [];
      tables = different 1 2 ∷ different 1 3 ∷ different 1 4 ∷ different 2 3 ∷ different 2 4 ∷ different 3 4 ∷ [];
    })

-- and one with a value in the list and in no solution.
unfoldable pub nobody_fits : Network
nobody_fits =
    network_of (record {
      sizes = 2 ∷ 2 ∷ 3 ∷ [];
      tables = record { first = 1; second = 3; rows = 6 ∷ 2 ∷ [] } ∷ record { first = 2; second = 3; rows = 5 ∷ 1 ∷ [] } ∷ [];
    })

unfoldable pub surveyed_sheets : Bool
surveyed_sheets =
    and (survey_says sheet_g 4 (3 ∷ 3 ∷ []))
    (and (survey_says sheet_h 4 (3 ∷ 3 ∷ []))
    (and (survey_says reduced_a 2 (3 ∷ 5 ∷ 3 ∷ []))
    (and (survey_says all_differ 0 [])
    (survey_says nobody_fits 1 (1 ∷ 1 ∷ 4 ∷ [])))))
