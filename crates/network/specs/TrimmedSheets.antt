-- Sheets whose lists are trimmed: of followers (L8) and of free variables against each other (L9). One table, and a test for one row of it.
use Rattle.std.specs.Prelude.{Bool, true, List, [], ◌∷◌, ℕ, ◌+◌, eqb, get_or}
use Rattle.bounded.specs.Bool.{and}
use Rattle.bounded.specs.Fold.{every}
use Rattle.words.specs.Word.{word}
use Rattle.network.specs.Network.{Network}
use Rattle.network.specs.Reduction.{free_count}
use Rattle.network.specs.Completion.{Verdict, NONE, BUILT, OPEN, verdict, shown}
use Rattle.network.specs.Sheet.{Table, Sheet, network_of}
use Rattle.network.specs.Sheets.{same_verdict}
use Rattle.network.specs.Calls.{Call, follow_step, full_reduction, trimmed_reduction, add_table, after}

-- A sheet, calls, and what they leave: the steps taken, each variable's list and leader, the verdict and the build shown.
pub record Trial : Type 0 where
  pub sheet : Sheet
  pub calls : List Call
  pub steps : ℕ
  pub lists : List ℕ
  pub leaders : List ℕ
  pub ending : Verdict
  pub build : List ℕ

-- One row's test.
unfoldable pub leaves : Trial → Network → Bool
leaves t M =
    and (eqb (free_count M + t.steps) M.n)
    (and (every M.n (λ (i : ℕ). eqb (word 4 (M.domain i)) (get_or t.lists i 0)))
    (and (every M.n (λ (i : ℕ). eqb (M.leader i) (get_or t.leaders i 0)))
    (and (same_verdict (verdict M) t.ending) (every M.n (λ (i : ℕ). eqb (shown M i) (get_or t.build i 0))))))

unfoldable pub leave_all : List Trial → Bool
leave_all [] = true
leave_all (t ∷ ts) = and (leaves t (after (network_of t.sheet) t.calls)) (leave_all ts)

table : ℕ → ℕ → List ℕ → Table
table a b rows = record { first = a; second = b; rows = rows }

trial : List ℕ → List Table → List Call → ℕ → List ℕ → List ℕ → Verdict → List ℕ → Trial
trial sizes tables calls steps lists leaders ending build =
    record {
      sheet = record { sizes = sizes; tables = tables };
      calls = calls;
      steps = steps;
      lists = lists;
      leaders = leaders;
      ending = ending;
      build = build;
    }

-- L8.
unfoldable pub follower_lists : List Trial
unfolding table trial
follower_lists =
    -- A: the follower 2 loses value 1
    trial (2 ∷ 3 ∷ 2 ∷ [])
    (table 1 2 (0x0001 ∷ 0x0004 ∷ []) ∷ table 2 3 (0x0002 ∷ 0x0001 ∷ 0x0001 ∷ []) ∷ [])
    (full_reduction ∷ [])
    2 (0x0003 ∷ 0x0005 ∷ 0x0003 ∷ []) (0 ∷ 1 ∷ 1 ∷ []) BUILT (0 ∷ 0 ∷ 1 ∷ [])
    -- F: an empty leader's list leaves its followers' empty
    ∷ trial (3 ∷ 3 ∷ 3 ∷ 3 ∷ [])
    (table 1 2 (1 ∷ 2 ∷ 4 ∷ []) ∷ table 1 3 (1 ∷ 2 ∷ 4 ∷ []) ∷ table 2 4 (2 ∷ 1 ∷ 4 ∷ []) ∷ table 3 4 (1 ∷ 4 ∷ 2 ∷ []) ∷ [])
    (full_reduction ∷ [])
    3 (0 ∷ 0 ∷ 0 ∷ 0 ∷ []) (0 ∷ 1 ∷ 1 ∷ 1 ∷ []) NONE []
    -- L
    ∷ trial (2 ∷ 2 ∷ []) (table 1 2 (0x0001 ∷ 0x0001 ∷ []) ∷ []) (full_reduction ∷ [])
    1 (0x0003 ∷ 0x0001 ∷ []) (0 ∷ 1 ∷ []) BUILT (0 ∷ 0 ∷ [])
    -- 3 follows 2, then 2 follows 1: the old follower 3 of 2 is trimmed too
    ∷ trial (2 ∷ 2 ∷ 1 ∷ [])
    (table 1 2 (0x0003 ∷ 0x0001 ∷ []) ∷ table 2 3 (0x0001 ∷ 0x0000 ∷ []) ∷ [])
    (follow_step 2 3 ∷ follow_step 1 2 ∷ [])
    2 (0x0003 ∷ 0x0001 ∷ 0x0001 ∷ []) (0 ∷ 1 ∷ 1 ∷ []) BUILT (0 ∷ 0 ∷ 0 ∷ [])
    -- 3 follows 2, then 2 follows 1 and loses a value: 3, which comes with it, loses the partner
    ∷ trial (1 ∷ 2 ∷ 2 ∷ [])
    (table 1 2 (0x0001 ∷ []) ∷ table 2 3 (0x0001 ∷ 0x0002 ∷ []) ∷ [])
    (follow_step 2 3 ∷ follow_step 1 2 ∷ [])
    2 (0x0001 ∷ 0x0001 ∷ 0x0001 ∷ []) (0 ∷ 1 ∷ 1 ∷ []) BUILT (0 ∷ 0 ∷ 0 ∷ [])
    -- 2 follows 1, which then loses a value as 3 follows it: its old follower 2 loses the partner
    ∷ trial (2 ∷ 2 ∷ 1 ∷ [])
    (table 1 2 (0x0001 ∷ 0x0002 ∷ []) ∷ table 1 3 (0x0001 ∷ 0x0000 ∷ []) ∷ [])
    (follow_step 1 2 ∷ follow_step 1 3 ∷ [])
    2 (0x0001 ∷ 0x0001 ∷ 0x0001 ∷ []) (0 ∷ 1 ∷ 1 ∷ []) BUILT (0 ∷ 0 ∷ 0 ∷ [])
    -- C reduced, and a table added between two followers of one leader
    ∷ trial (3 ∷ 3 ∷ 3 ∷ 3 ∷ [])
    (table 1 2 (1 ∷ 2 ∷ 4 ∷ []) ∷ table 1 3 (1 ∷ 2 ∷ 4 ∷ []) ∷ table 2 4 (1 ∷ 4 ∷ 2 ∷ []) ∷ table 3 4 (1 ∷ 4 ∷ 2 ∷ []) ∷ [])
    (full_reduction ∷ add_table 2 4 (1 ∷ 2 ∷ 4 ∷ []) ∷ [])
    3 (1 ∷ 1 ∷ 1 ∷ 1 ∷ []) (0 ∷ 1 ∷ 1 ∷ 1 ∷ []) BUILT (0 ∷ 0 ∷ 0 ∷ 0 ∷ [])
    -- the same with a table that no value of the leader meets
    ∷ trial (3 ∷ 3 ∷ 3 ∷ 3 ∷ [])
    (table 1 2 (1 ∷ 2 ∷ 4 ∷ []) ∷ table 1 3 (1 ∷ 2 ∷ 4 ∷ []) ∷ table 2 4 (1 ∷ 4 ∷ 2 ∷ []) ∷ table 3 4 (1 ∷ 4 ∷ 2 ∷ []) ∷ [])
    (full_reduction ∷ add_table 4 1 (2 ∷ 1 ∷ 4 ∷ []) ∷ [])
    3 (0 ∷ 0 ∷ 0 ∷ 0 ∷ []) (0 ∷ 1 ∷ 1 ∷ 1 ∷ []) NONE []
    ∷ []

-- L9.
unfoldable pub live_lists : List Trial
unfolding table trial
live_lists =
    -- no step is legal at first, and after trimming two are
    trial (2 ∷ 2 ∷ 3 ∷ [])
    (table 1 3 (0x0006 ∷ 0x0002 ∷ []) ∷ table 2 3 (0x0005 ∷ 0x0001 ∷ []) ∷ [])
    (full_reduction ∷ trimmed_reduction ∷ [])
    2 (0x0001 ∷ 0x0001 ∷ 0x0004 ∷ []) (0 ∷ 1 ∷ 1 ∷ []) BUILT (0 ∷ 0 ∷ 2 ∷ [])
    -- one step, and open
    ∷ trial (2 ∷ 2 ∷ 3 ∷ [])
    (table 1 2 (0x0002 ∷ 0x0003 ∷ []) ∷ table 1 3 (0x0006 ∷ 0x0001 ∷ []) ∷ table 2 3 (0x0003 ∷ 0x0005 ∷ []) ∷ [])
    (trimmed_reduction ∷ [])
    1 (0x0003 ∷ 0x0003 ∷ 0x0005 ∷ []) (3 ∷ 0 ∷ 0 ∷ []) OPEN []
    -- an empty list empties those that it is stated with, and theirs
    ∷ trial (2 ∷ 2 ∷ 2 ∷ 2 ∷ [])
    (table 1 2 (0x0003 ∷ 0x0003 ∷ []) ∷ table 2 3 (0x0000 ∷ 0x0000 ∷ []) ∷ [])
    (trimmed_reduction ∷ [])
    2 (0 ∷ 0 ∷ 0 ∷ 0x0003 ∷ []) (0 ∷ 1 ∷ 1 ∷ 0 ∷ []) NONE []
    ∷ []
