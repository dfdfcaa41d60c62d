-- What the functions that store the rows of a pair leave behind, said of every pair from both of its sides.
use Rattle.std.specs.Prelude.{Bool, false, List, ◌⊎◌, ◌≡◌, ℕ, ◌+◌, ◌^◌, ◌≤◌, ◌<◌, length, get_or}
use Rattle.words.specs.Word.{has}
use Rattle.pairs.specs.Pairs.{allows_of}

-- Every row is a word of w bits.
abbrev pub Words : ℕ → List ℕ → Type 0
Words w rows = (k : ℕ) → get_or rows k 0 < 2 ^ w

-- The two are not i and j, in either order.
pub record Other (i j x y : ℕ) : Type 0 where
  pub not_ij : x ≡ i → y ≡ j → ⊥
  pub not_ji : x ≡ j → y ≡ i → ⊥

-- Value a of i goes with exactly the members of x. What its other values go with, and every other pair, are as before.
pub record RowPut (w : ℕ) (before after : List ℕ) (i j a x : ℕ) : Type 0 where
  pub put : (b : ℕ) → b < w → allows_of w after i j a b ≡ has x b
  pub left : (c b : ℕ) → (c ≡ a → ⊥) → allows_of w after i j c b ≡ allows_of w before i j c b
  pub rest : (x y c b : ℕ) → Other i j x y → allows_of w after x y c b ≡ allows_of w before x y c b
  pub size : length after ≡ length before
  pub words : Words w before → Words w after

-- The first n values of i go with what f says. The others, and every other pair, are as before. It serves each turn of a loop and, where n is w, a whole
-- call.
pub record Stored (w : ℕ) (before after : List ℕ) (i j : ℕ) (f : ℕ → ℕ → Bool) (n : ℕ) : Type 0 where
  pub done : (a b : ℕ) → a < n → a < w → b < w → allows_of w after i j a b ≡ f a b
  pub left : (a b : ℕ) → n ≤ a → allows_of w after i j a b ≡ allows_of w before i j a b
  pub rest : (x y a b : ℕ) → Other i j x y → allows_of w after x y a b ≡ allows_of w before x y a b
  pub size : length after ≡ length before
  pub words : Words w before → Words w after

-- The pair allows nothing any more.
abbrev pub Cleared : ℕ → List ℕ → List ℕ → ℕ → ℕ → Type 0
Cleared w before after i j = Stored w before after i j (λ (a b : ℕ). false) w

-- The first n rows from a place on are g 0, g 1, ..; every other row is as before.
pub record RunPut (before after : List ℕ) (at : ℕ) (g : ℕ → ℕ) (n : ℕ) : Type 0 where
  pub done : (a : ℕ) → a < n → get_or after (at + a) 0 ≡ g a
  pub rest : (k : ℕ) → (k < at) ⊎ (at + n ≤ k) → get_or after k 0 ≡ get_or before k 0
  pub size : length after ≡ length before
