-- The rows of a table in its bytes, and what reading them leaves behind in an array of rows of w bits.
use Rattle.std.specs.Prelude.{Bool, true, List, ◌≡◌, ℕ, ◌+◌, ◌*◌, ◌≤◌, ◌<◌, ltb, length, Result}
use Rattle.bounded.specs.Fold.{every, some}
use Rattle.bounded.specs.Table.{tabulate}
use Rattle.words.specs.Word.{has, word}
use Rattle.pairs.specs.Frames.{Stored}
use Rattle.cause.specs.declared.Refusal.{Refusal}
use Rattle.read_field.specs.declared.field.Field.{Field}
use Rattle.read_field.specs.Fields.{read_as, Decides}
use Rattle.format.specs.Layout.{Test, fine}
use Rattle.format.specs.Parse.{number_at, fields}

-- The row of value a, the first row standing at a place and each having k bytes.
unfoldable pub row_in : ℕ → List ℕ → ℕ → ℕ → ℕ
row_in k bytes from a = number_at k bytes (from + k * a)

-- The rows of the values below count stand in the array, and no other row is touched.
abbrev pub RowsStored : ℕ → ℕ → List ℕ → ℕ → ℕ → ℕ → ℕ → List ℕ → List ℕ → Type 0
RowsStored w k bytes from i j count before after = Stored w before after i j (λ (a b : ℕ). has (row_in k bytes from a) b) count

-- They were stored; the union is what they have together, and filled says whether none is all-zero.
pub record RowsJoined (w k : ℕ) (bytes : List ℕ) (from i j count : ℕ) (before after : List ℕ) (union : ℕ) (filled : Bool) : Type 0 where
  pub stored : RowsStored w k bytes from i j count before after
  pub union_is : union ≡ word w (λ (v : ℕ). some count (λ (a : ℕ). has (row_in k bytes from a) v))
  pub filled_is : filled ≡ every count (λ (a : ℕ). ltb 0 (row_in k bytes from a))

-- All rows are there, and each passes its test.
pub record RowsFine (k : ℕ) (test : ℕ → Test) (bytes : List ℕ) (from count : ℕ) : Type 0 where
  pub there : from + k * count ≤ length bytes
  pub pass : (a : ℕ) → a < count → test (row_in k bytes from a) ≡ fine

-- Whether they are fine; where they are, they are stored.
pub record RowsTaken (w k : ℕ) (test : ℕ → Test) (bytes : List ℕ) (from i j count : ℕ) (before after : List ℕ) (r : Bool) : Type 0 where
  pub told : Decides r (RowsFine k test bytes from count)
  pub stored : r ≡ true → RowsStored w k bytes from i j count before after

-- The rows parsed, by a row test, are those in the bytes.
abbrev pub RowsWalked : ℕ → (ℕ → Test) → List ℕ → ℕ → ℕ → Result Field Refusal → Type 0
RowsWalked k test bytes from count r = fields k test count bytes from ≡ read_as r (tabulate count (row_in k bytes from))
