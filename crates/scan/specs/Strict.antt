-- Lines in strict form: decimal numbers, a comma between two.
use Rattle.std.specs.Prelude.{Bool, true, List, [], ◌∷◌, ◌++◌, ◌≡◌, ℕ, ◌≤◌, length, replicate}
use Rattle.std.proofs.lemmas.List.Edits.{sets}
use Rattle.bounded.specs.Bool.{and}
use Rattle.buffers.specs.Digits.{decimal}
use Rattle.scan.specs.declared.Line.{Line}
use Rattle.scan.specs.Bytes.{is_blank}
use Rattle.scan.specs.Line.{line_of}

unfoldable pub numbers_text : List ℕ → List ℕ
numbers_text [] = []
numbers_text (x ∷ []) = decimal x
numbers_text (x ∷ y ∷ ys) = decimal x ++ (44 ∷ numbers_text (y ∷ ys))

-- "`D,option,value,count`" and "`C,count,v1,..,vn`": a letter, and its numbers.
unfoldable pub entry_text : (letter : ℕ) → List ℕ → List ℕ
entry_text letter xs = letter ∷ 44 ∷ numbers_text xs

-- Nothing is wrong with the line; it has these numbers, behind a letter of this kind.
unfoldable pub line_with : (kind : ℕ) → List ℕ → Line
line_with kind xs = record { fault = 0; place = 0; kind = kind; count = length xs; cells = sets (replicate 17 0) 0 xs }

-- The bytes say this line; "CR LF taken": also with a carriage return at their end.
pub record ReadAs (numbers : Bool) (bytes : List ℕ) (line : Line) : Type 0 where
  pub plain : line_of numbers bytes ≡ line
  pub with_return : line_of numbers (bytes ++ (13 ∷ [])) ≡ line

-- All of a list are numbers of 32 bits.
unfoldable pub Small : List ℕ → Type 0
Small [] = Unit {0}
Small (x ∷ xs) = (x ≤ 4294967295) × Small xs

-- Nothing but blanks.
unfoldable pub all_blank : List ℕ → Bool
all_blank [] = true
all_blank (b ∷ bs) = and (is_blank b) (all_blank bs)
