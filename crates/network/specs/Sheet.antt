-- A sheet as a list of sizes and a list of tables, and the network that it means.
use Rattle.std.specs.Prelude.{Bool, false, List, [], ◌∷◌, ◌++◌, ℕ, zero, suc, ◌-◌, eqb, ltb, length, get_or}
use Rattle.bounded.specs.Bool.{and, or, not, if}
use Rattle.bounded.specs.Fold.{every}
use Rattle.bounded.specs.Table.{tabulate}
use Rattle.words.specs.Word.{has, word}
use Rattle.network.specs.Network.{Network, free}

-- "A table is a pair a, b (.. options counted from 1, a below b) and one .. row for each value of a, value 0 first."
pub record Table : Type 0 where
  pub first : ℕ
  pub second : ℕ
  pub rows : List ℕ

pub record Sheet : Type 0 where
  pub sizes : List ℕ
  pub tables : List Table

-- t is the table of the variables i and j, counted from 0, in this order.
unfoldable pub is_for : Table → ℕ → ℕ → Bool
is_for t i j = and (eqb t.first (suc i)) (eqb t.second (suc j))

-- There is a table of i and j, in this order.
unfoldable pub tabled : List Table → ℕ → ℕ → Bool
tabled [] i j = false
tabled (t ∷ ts) i j = or (is_for t i j) (tabled ts i j)

-- The row for value a of i in the table of i and j, in this order; 0, which allows nothing, where there is none.
unfoldable pub row_for : List Table → ℕ → ℕ → ℕ → ℕ
row_for [] i j a = 0
row_for (t ∷ ts) i j a = if (is_for t i j) (get_or t.rows a 0) (row_for ts i j a)

-- "A sheet just read has full lists, no leader, and exactly the tables of the file are stated",
-- "read alike from both sides". "Bit v of a row (weight 2 to the v) says that value v of b is allowed."
unfoldable pub network_of : Sheet → Network
network_of s =
    record {
      n = length s.sizes;
      size = λ (i : ℕ). get_or s.sizes i 0;
      domain = λ (i a : ℕ). ltb a (get_or s.sizes i 0);
      leader = λ (i : ℕ). 0;
      stated = λ (i j : ℕ). or (tabled s.tables i j) (tabled s.tables j i);
      allows = λ (i j a b : ℕ). or (has (row_for s.tables i j a) b) (has (row_for s.tables j i b) a);
    }

-- f at k, k + 1, .., count numbers in all, joined.
unfoldable pub collect : {A : Type 0} → ℕ → ℕ → (ℕ → List A) → List A
collect zero k f = []
collect (suc count) k f = f k ++ collect count (suc k) f

-- The table of i and j, where they are stated together.
unfoldable pub table_of : Network → ℕ → ℕ → List Table
table_of N i j =
    if (N.stated i j)
    (record { first = suc i; second = suc j; rows = tabulate (N.size i) (λ (a : ℕ). word (N.size j) (N.allows i j a)) } ∷ [])
    []

-- The sheet that the writer writes: "Pairs ascend, by a and then by b".
unfoldable pub sheet_of : Network → Sheet
sheet_of N =
    record {
      sizes = tabulate N.n N.size;
      tables = collect N.n 0 (λ (i : ℕ). collect (N.n - suc i) (suc i) (table_of N i));
    }

-- A network as just read. Otherwise the writer refuses with 18: "a follower exists or a list is not full".
unfoldable pub fresh : Network → Bool
fresh N = every N.n (λ (i : ℕ). and (free N i) (every (N.size i) (N.domain i)))
