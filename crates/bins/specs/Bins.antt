-- Document 02, L11: the bins, what is added to them and what is drawn.
use Rattle.std.specs.Prelude.{Bool, true, false, List, [], ◌∷◌, map, ◌++◌, ℕ, zero, suc, ◌+◌, ◌-◌, eqb, ltb, get_or}
use Rattle.bounded.specs.Bool.{and, or, if}
use Rattle.bins.specs.declared.Bin.{Bin}

-- The variable, counted from 1, and the value of a record.
abbrev pub Place : Type 0
Place = ℕ × ℕ

abbrev pub place : Bin → Place
place b = (b.variable, b.value)

-- k values of a variable, from v on,
unfoldable pub values_from : (variable v k : ℕ) → List Place
values_from variable v zero = []
values_from variable v (suc k) = (variable, v) ∷ values_from variable (suc v) k

-- all values of m variables, from the one after o on (o of them stand before it),
unfoldable pub places_from : (ℕ → ℕ) → (o m : ℕ) → List Place
places_from size o zero = []
places_from size o (suc m) = values_from (suc o) 0 (size o) ++ places_from size (suc o) m

-- "one for each value below each option's size, ascending by option and then by value".
unfoldable pub places : ℕ → (ℕ → ℕ) → List Place
places n size = places_from size 0 n

-- "the records .. exactly those options and values in that order": `map place bins ≡ ps`, as a test.
abbrev pub stand_at : List Bin → List Place → Bool
stand_at [] [] = true
stand_at [] (p ∷ ps) = false
stand_at (b ∷ bs) [] = false
stand_at (b ∷ bs) (p ∷ ps) = and (and (eqb b.variable p.0) (eqb b.value p.1)) (stand_at bs ps)

-- Some bin passes.
abbrev pub any : (Bin → Bool) → List Bin → Bool
any f [] = false
any f (b ∷ bs) = or (f b) (any f bs)

-- The bin of one value,
unfoldable pub is_of : (variable value : ℕ) → Bin → Bool
is_of variable value b = and (eqb b.variable variable) (eqb b.value value)

-- and "the bin of each of its values": those of a solution.
unfoldable pub of_solution : List ℕ → Bin → Bool
of_solution solution b = and (ltb 0 b.variable) (eqb (get_or solution (b.variable - 1) 0) b.value)

-- Stands for a bin past the last.
abbrev pub no_bin : Bin
no_bin = record { variable = 0; value = 0; count = 0 }

-- A bin with another count,
abbrev pub with_count : Bin → ℕ → Bin
with_count b count = record { variable = b.variable; value = b.value; count = count }

-- an amount added to the bins that pass, and drawn from them.
abbrev pub added : (Bin → Bool) → ℕ → List Bin → List Bin
added which amount bins = map (λ (b : Bin). if (which b) (with_count b (b.count + amount)) b) bins

abbrev pub drawn : (Bin → Bool) → ℕ → List Bin → List Bin
drawn which amount bins = map (λ (b : Bin). if (which b) (with_count b (b.count - amount)) b) bins
