-- The bins' counts in an array, in the bins' order, and what is done to them.
use Rattle.std.specs.Prelude.{Bool, List, [], ◌∷◌, ℕ, zero, suc, ◌+◌, ◌-◌, ◌^◌, ◌<◌, ltb, get_or, set}
use Rattle.bounded.specs.Bool.{if}
use Rattle.bounded.specs.Fold.{sum, first}
use Rattle.bins.specs.declared.Bin.{Bin}
use Rattle.bins.specs.Bins.{Place, no_bin, places}

-- The record of a place, with a count,
abbrev pub bin_of_place : Place → ℕ → Bin
bin_of_place p count = record { variable = p.0; value = p.1; count = count }

-- and the records of some places, the k-th with the k-th count.
unfoldable pub bins_at : List Place → (ℕ → ℕ) → List Bin
bins_at [] count = []
bins_at (p ∷ ps) count = bin_of_place p (count 0) ∷ bins_at ps (λ (k : ℕ). count (suc k))

-- The bins of n variables: "one for each value below each option's size, ascending by option and then by value".
unfoldable pub bins_by : (n : ℕ) → (sizes counts : List ℕ) → List Bin
bins_by n sizes counts = bins_at (places n (λ (i : ℕ). get_or sizes i 0)) (λ (k : ℕ). get_or counts k 0)

-- The first bin that passes.
abbrev pub first_of : (Bin → Bool) → List Bin → Bin
first_of f [] = no_bin
first_of f (b ∷ bs) = if (f b) b (first_of f bs)

-- Where the count of a value stands: all values of the o variables before its own come first.
unfoldable pub spot : (sizes : List ℕ) → (o value : ℕ) → ℕ
spot sizes o value = sum o (λ (i : ℕ). get_or sizes i 0) + value

-- Each variable's value has a count in an array of 512.
abbrev pub Inside : (n : ℕ) → (sizes values : List ℕ) → Type 0
Inside n sizes values = (o : ℕ) → o < n → spot sizes o (get_or values o 0) < 512

-- One element changed,
unfoldable pub changed_at : (ℕ → ℕ) → List ℕ → ℕ → List ℕ
changed_at change xs i = set xs i (change (get_or xs i 0))

-- and those of the values of the first m variables.
unfoldable pub changed_each : (ℕ → ℕ) → (sizes values xs : List ℕ) → ℕ → List ℕ
changed_each change sizes values xs zero = xs
changed_each change sizes values xs (suc m) = changed_at change (changed_each change sizes values xs m) (spot sizes m (get_or values m 0))

-- A sum of 64 bits that stays at its highest number.
unfoldable pub plus : (amount x : ℕ) → ℕ
plus amount x = if (ltb (x + amount) (2 ^ 64)) (x + amount) (2 ^ 64 - 1)

abbrev pub minus : (amount x : ℕ) → ℕ
minus amount x = x - amount

-- The first of n variables whose value has too low a count, or n.
unfoldable pub is_low : (sizes values counts : List ℕ) → (amount o : ℕ) → Bool
is_low sizes values counts amount o = ltb (get_or counts (spot sizes o (get_or values o 0)) 0) amount

unfoldable pub lowest : (n : ℕ) → (sizes values counts : List ℕ) → (amount : ℕ) → ℕ
lowest n sizes values counts amount = first n (is_low sizes values counts amount)
