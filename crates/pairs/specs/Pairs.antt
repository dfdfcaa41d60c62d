-- What the array of rows says of two variables. Each pair is held once, from its lower variable: w rows, one for each of its values. The number of
-- variables is 16; w is the number of bits of a word, 32 today.
use Rattle.std.specs.Prelude.{Bool, List, ℕ, ◌+◌, ◌-◌, ◌*◌, ◌/◌, ◌%◌, leb, ltb, get_or}
use Rattle.bounded.specs.Bool.{and, implies, if}
use Rattle.bounded.specs.Fold.{every, some, count}
use Rattle.bounded.specs.Table.{tabulate}
use Rattle.words.specs.Word.{has, word}

-- How many variables an array of rows tells of,
abbrev pub variables : ℕ
variables = 16

-- and so how many pairs.
abbrev pub pair_count : ℕ
pair_count = 120

-- The place of a pair among them, i below j: by its higher variable and then by its lower, so that the pairs of the first n variables come first.
unfoldable pub slot : ℕ → ℕ → ℕ
slot i j = j * (j - 1) / 2 + i

-- The row of value a of the lower variable i: the values of the higher j that go with it.
unfoldable pub row_at : ℕ → List ℕ → ℕ → ℕ → ℕ → ℕ
row_at w rows i j a = get_or rows (slot i j * w + a) 0

-- Two variables and two values that the array tells of: what is past them would be read off the rows of another pair.
unfoldable pub inside : ℕ → ℕ → ℕ → ℕ → ℕ → Bool
inside w i j a b = and (and (ltb i variables) (ltb j variables)) (and (ltb a w) (ltb b w))

-- Value a of i goes with value b of j: "which values go together, read alike from both sides". No variable goes with itself.
unfoldable pub allows_of : ℕ → List ℕ → ℕ → ℕ → ℕ → ℕ → Bool
allows_of w rows i j a b =
    and (inside w i j a b) (if (ltb i j) (has (row_at w rows i j a) b) (and (ltb j i) (has (row_at w rows j i b) a)))

-- The values of j that go with some value in a set of values of i.
unfoldable pub partners_of : ℕ → List ℕ → ℕ → ℕ → ℕ → ℕ
partners_of w rows i j set = word w (λ (b : ℕ). some w (λ (a : ℕ). and (has set a) (allows_of w rows i j a b)))

-- How many partners value a of i has in the domain dj of j.
unfoldable pub partners_at : ℕ → List ℕ → ℕ → ℕ → ℕ → ℕ → ℕ
partners_at w rows i j dj a = count w (λ (b : ℕ). and (has dj b) (allows_of w rows i j a b))

-- Each value in the domain di of i has from least to most partners in the domain dj of j: 0 to 1 is functional, 1 to 1 is what a follower needs.
unfoldable pub partners_within : ℕ → List ℕ → ℕ → ℕ → ℕ → ℕ → ℕ → ℕ → Bool
partners_within w rows i j di dj least most =
    every w (λ (a : ℕ). implies (has di a) (and (leb least (partners_at w rows i j dj a)) (leb (partners_at w rows i j dj a) most)))

-- The pair at a place: its higher and its lower variable.
unfoldable pub upper_of : ℕ → ℕ
upper_of s = count variables (λ (j : ℕ). leb (slot 0 j) s) - 1

unfoldable pub lower_of : ℕ → ℕ
lower_of s = s - slot 0 (upper_of s)

-- The array that allows what a rule allows.
unfoldable pub rows_of : ℕ → (ℕ → ℕ → ℕ → ℕ → Bool) → List ℕ
rows_of w allows = tabulate (pair_count * w) (λ (k : ℕ). word w (allows (lower_of (k / w)) (upper_of (k / w)) (k % w)))

-- ---- runs of rows

-- The values a whose row, of those from a place on, has a member of the set.
unfoldable pub hits_at : ℕ → List ℕ → ℕ → ℕ → ℕ
hits_at w rows at set = word w (λ (a : ℕ). some w (λ (v : ℕ). and (has (get_or rows (at + a) 0) v) (has set v)))

-- What the rows of the values in a set have together.
unfoldable pub union_at : ℕ → List ℕ → ℕ → ℕ → ℕ
union_at w rows at set = word w (λ (v : ℕ). some w (λ (a : ℕ). and (has set a) (has (get_or rows (at + a) 0) v)))

-- What the n rows from a place on have together.
unfoldable pub join_of : ℕ → List ℕ → ℕ → ℕ → ℕ
join_of w rows at n = word w (λ (v : ℕ). some n (λ (k : ℕ). has (get_or rows (at + k) 0) v))
