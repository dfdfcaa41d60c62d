-- A word read as a set: v is a member where the bit of weight 2 to the v is set.
use Rattle.std.specs.Prelude.{Bool, ℕ, ◌*◌, ◌/◌, ◌%◌, ◌^◌, eqb}
use Rattle.bounded.specs.Bool.{bit}
use Rattle.bounded.specs.Fold.{sum}

-- How many bits a word has: the values that a domain or a row can tell, and the variables that `stated` can.
abbrev pub width : ℕ
width = 32

-- The value v is a member of the word x.
unfoldable pub has : ℕ → ℕ → Bool
has x v = eqb (x / 2 ^ v % 2) 1

-- The word whose members are the values below w that pass p.
unfoldable pub word : ℕ → (ℕ → Bool) → ℕ
word w p = sum w (λ (v : ℕ). bit (p v) * 2 ^ v)
