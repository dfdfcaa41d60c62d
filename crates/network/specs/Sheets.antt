-- The twelve sheets A to L of document 01: one table, and a test for one row of it.
use Rattle.std.specs.Prelude.{Bool, true, false, List, [], ◌∷◌, ℕ, suc, eqb, get_or}
use Rattle.bounded.specs.Bool.{and}
use Rattle.bounded.specs.Fold.{every}
use Rattle.words.specs.Word.{word}
use Rattle.network.specs.Network.{Network, free}
use Rattle.network.specs.Step.{refusal}
use Rattle.network.specs.Reduction.{Reduced, reduce}
use Rattle.network.specs.Completion.{Verdict, NONE, BUILT, OPEN, verdict, shown}
use Rattle.network.specs.Sheet.{Table, Sheet, network_of}

-- What a variable is after the reduction: free, with its domain, or a follower, with its leader's number.
pub data Role : Type 0 where
  LIVE : ℕ → Role
  FOLLOWS : ℕ → Role

-- A step asked of the sheet just read, leader and follower counted from 1, and the number that answers it.
pub record Asked : Type 0 where
  pub leader : ℕ
  pub follower : ℕ
  pub number : ℕ

-- A row: the sheet, steps asked at first, and the result "after full reduction".
pub record Example : Type 0 where
  pub sheet : Sheet
  pub asked : List Asked
  pub steps : ℕ
  pub roles : List Role
  pub ending : Verdict
  pub build : List ℕ

-- One row's test.
unfoldable pub plays : Network → ℕ → Role → Bool
plays M i (LIVE list) = and (free M i) (eqb (word 16 (M.domain i)) list)
plays M i (FOLLOWS l) = eqb (M.leader i) l

unfoldable pub play_all : Network → ℕ → List Role → Bool
play_all M i [] = eqb i M.n
play_all M i (r ∷ rs) = and (plays M i r) (play_all M (suc i) rs)

unfoldable pub same_verdict : Verdict → Verdict → Bool
same_verdict NONE NONE = true
same_verdict NONE BUILT = false
same_verdict NONE OPEN = false
same_verdict BUILT NONE = false
same_verdict BUILT BUILT = true
same_verdict BUILT OPEN = false
same_verdict OPEN NONE = false
same_verdict OPEN BUILT = false
same_verdict OPEN OPEN = true

unfoldable pub answers : Network → List Asked → Bool
answers N [] = true
answers N (q ∷ qs) = and (eqb (refusal N q.leader q.follower) q.number) (answers N qs)

-- The verdict's solution of 16 values: as given, and zero past n.
unfoldable pub reduced_as : Example → Reduced → Bool
reduced_as e r =
    and (eqb r.steps e.steps)
    (and (play_all r.network 0 e.roles)
    (and (same_verdict (verdict r.network) e.ending)
    (every 16 (λ (i : ℕ). eqb (shown r.network i) (get_or e.build i 0)))))

unfoldable pub holds : Example → Bool
holds e = and (answers (network_of e.sheet) e.asked) (reduced_as e (reduce (network_of e.sheet)))

unfoldable pub hold_all : List Example → Bool
hold_all [] = true
hold_all (e ∷ es) = and (holds e) (hold_all es)

-- The table of document 01.
table : ℕ → ℕ → List ℕ → Table
table a b rows = record { first = a; second = b; rows = rows }

example : List ℕ → List Table → List Asked → ℕ → List Role → Verdict → List ℕ → Example
example sizes tables asked steps roles ending build =
    record {
      sheet = record { sizes = sizes; tables = tables };
      asked = asked;
      steps = steps;
      roles = roles;
      ending = ending;
      build = build;
    }

-- C to F differ in the table of 2 and 4 alone.
square : List ℕ → ℕ → Verdict → List ℕ → Example
square rows list ending build =
    example (3 ∷ 3 ∷ 3 ∷ 3 ∷ [])
    (table 1 2 (1 ∷ 2 ∷ 4 ∷ []) ∷ table 1 3 (1 ∷ 2 ∷ 4 ∷ []) ∷ table 2 4 rows ∷ table 3 4 (1 ∷ 4 ∷ 2 ∷ []) ∷ [])
    []
    3
    (LIVE list ∷ FOLLOWS 1 ∷ FOLLOWS 1 ∷ FOLLOWS 1 ∷ [])
    ending
    build

unfoldable pub twelve : List Example
unfolding table example square
twelve =
    -- A
    example (2 ∷ 3 ∷ 2 ∷ [])
    (table 1 2 (0x0001 ∷ 0x0004 ∷ []) ∷ table 2 3 (0x0002 ∷ 0x0001 ∷ 0x0001 ∷ []) ∷ [])
    []
    2
    (LIVE 0x0003 ∷ FOLLOWS 1 ∷ FOLLOWS 1 ∷ [])
    BUILT
    (0 ∷ 0 ∷ 1 ∷ [])
    -- B: "2 following 1 is refused at first, 13"
    ∷ example (2 ∷ 3 ∷ 2 ∷ [])
    (table 1 2 (0x0001 ∷ 0x0006 ∷ []) ∷ table 2 3 (0x0001 ∷ 0x0002 ∷ 0x0002 ∷ []) ∷ [])
    (record { leader = 1; follower = 2; number = 13 } ∷ [])
    2
    (FOLLOWS 2 ∷ LIVE 0x0007 ∷ FOLLOWS 2 ∷ [])
    BUILT
    (0 ∷ 0 ∷ 0 ∷ [])
    -- C
    ∷ square (0x0001 ∷ 0x0004 ∷ 0x0002 ∷ []) 0x0007 BUILT (0 ∷ 0 ∷ 0 ∷ 0 ∷ [])
    -- D
    ∷ square (0x0001 ∷ 0x0002 ∷ 0x0004 ∷ []) 0x0001 BUILT (0 ∷ 0 ∷ 0 ∷ 0 ∷ [])
    -- E
    ∷ square (0x0002 ∷ 0x0004 ∷ 0x0001 ∷ []) 0x0002 BUILT (1 ∷ 1 ∷ 1 ∷ 2 ∷ [])
    -- F
    ∷ square (0x0002 ∷ 0x0001 ∷ 0x0004 ∷ []) 0x0000 NONE []
    -- G
    ∷ example (2 ∷ 2 ∷ []) (table 1 2 (0x0003 ∷ 0x0003 ∷ []) ∷ []) [] 0 (LIVE 0x0003 ∷ LIVE 0x0003 ∷ []) OPEN []
    -- H: "Case H becomes BUILT 0 0" (document 02)
    ∷ example (2 ∷ 2 ∷ []) [] [] 0 (LIVE 0x0003 ∷ LIVE 0x0003 ∷ []) BUILT (0 ∷ 0 ∷ [])
    -- I
    ∷ example (1 ∷ []) [] [] 0 (LIVE 0x0001 ∷ []) BUILT (0 ∷ [])
    -- J
    ∷ example (2 ∷ 1 ∷ []) (table 1 2 (0x0001 ∷ 0x0000 ∷ []) ∷ []) [] 1 (LIVE 0x0001 ∷ FOLLOWS 1 ∷ []) BUILT (0 ∷ 0 ∷ [])
    -- K
    ∷ example (2 ∷ 2 ∷ 2 ∷ [])
    (table 1 3 (0x0001 ∷ 0x0002 ∷ []) ∷ table 2 3 (0x0001 ∷ 0x0002 ∷ []) ∷ [])
    []
    2
    (LIVE 0x0003 ∷ FOLLOWS 1 ∷ FOLLOWS 1 ∷ [])
    BUILT
    (0 ∷ 0 ∷ 0 ∷ [])
    -- L
    ∷ example (2 ∷ 2 ∷ []) (table 1 2 (0x0001 ∷ 0x0001 ∷ []) ∷ []) [] 1 (LIVE 0x0003 ∷ FOLLOWS 1 ∷ []) BUILT (0 ∷ 0 ∷ [])
    ∷ []
