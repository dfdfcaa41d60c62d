-- What an entry as plain data finds in the bins, one record after the other, and makes of them. A reader needs none of it: `Bins` and the definitions of
-- `state_bins` say what the calls do.
use Rattle.std.specs.Prelude.{Bool, true, false, List, [], ◌∷◌, ℕ, ◌+◌, ◌-◌, ◌^◌, eqb, leb, ltb, get_or}
use Rattle.bounded.specs.Bool.{and, or, not, if}
use Rattle.bins.specs.declared.Bin.{Bin}
use Rattle.bins.specs.declared.Plan.{Plan}
use Rattle.bins.specs.declared.Seen.{Seen}
use Rattle.bins.specs.Bins.{is_of, of_solution, any, with_count, added, drawn}

-- The bin is one that the entry draws from or adds to.
unfoldable pub named : Plan → Bin → Bool
named p b = if p.adds (is_of p.variable p.value b) (of_solution p.values b)

abbrev pub size_of : Plan → ℕ → ℕ
size_of p o = get_or p.sizes o 0

-- The record is that of value v of the variable after o,
unfoldable pub is_next : Plan → ℕ → ℕ → Bin → Bool
is_next p o v b = and (ltb v (size_of p o)) (is_of (o + 1) v b)

-- and the place after it.
unfoldable pub next_variable : Plan → ℕ → ℕ → ℕ
next_variable p o v = if (ltb (v + 1) (size_of p o)) o (o + 1)

unfoldable pub next_value : Plan → ℕ → ℕ → ℕ
next_value p o v = if (ltb (v + 1) (size_of p o)) (v + 1) 0

-- The records from there on are exactly the variables and values, in order.
abbrev pub exact : Plan → ℕ → ℕ → List Bin → Bool
exact p o v [] = leb p.n o
exact p o v (b ∷ bs) = and (is_next p o v b) (exact p (next_variable p o v) (next_value p o v) bs)

-- "a count that would exceed 32 bits", "a bin too low"
unfoldable pub too_high : Plan → Bin → Bool
too_high p b = and (named p b) (and p.adds (leb (2 ^ 32) (b.count + p.amount)))

unfoldable pub too_low : Plan → Bin → Bool
too_low p b = and (named p b) (and (not p.adds) (ltb b.count p.amount))

-- The number, by what was found,
unfoldable pub number_found : Plan → (exact high low : Bool) → ℕ
number_found p exact high low =
    if (eqb p.refusal 9) 9
    (if (not exact) 27
    (if (or (not (eqb p.refusal 0)) high) 28
    (if low 29 0)))

abbrev pub plan_number : Plan → List Bin → ℕ
plan_number p bs = number_found p (exact p 0 0 bs) (any (too_high p) bs) (any (too_low p) bs)

-- and the bins after it.
abbrev pub changed : Plan → List Bin → List Bin
changed p bs = if p.adds (added (named p) p.amount bs) (drawn (named p) p.amount bs)

abbrev pub plan_bins : Plan → List Bin → List Bin
plan_bins p bs = if (eqb (plan_number p bs) 0) (changed p bs) bs

-- ---- record by record
abbrev pub start_of : Seen
start_of = record { variable = 0; value = 0; exact = true; high = false; low = false }

unfoldable pub looked_of : Plan → Seen → Bin → Seen
looked_of p s b =
    if (is_next p s.variable s.value b)
    (record {
      variable = next_variable p s.variable s.value;
      value = next_value p s.variable s.value;
      exact = s.exact;
      high = or s.high (too_high p b);
      low = or s.low (too_low p b);
    })
    (record { variable = s.variable; value = s.value; exact = false; high = s.high; low = s.low })

unfoldable pub settled_of : Plan → Seen → ℕ
settled_of p s = number_found p (and s.exact (leb p.n s.variable)) s.high s.low

abbrev pub run : Plan → Seen → List Bin → Seen
run p s [] = s
run p s (b ∷ bs) = run p (looked_of p s b) bs

-- The bin after the entry; a count that would not fit stays, and then the entry is refused.
unfoldable pub count_of : Plan → ℕ → ℕ
count_of p c = if p.adds (if (leb (2 ^ 32) (c + p.amount)) c (c + p.amount)) (if (ltb c p.amount) c (c - p.amount))

unfoldable pub moved_of : Plan → Bin → Bin
moved_of p b = if (named p b) (with_count b (count_of p b.count)) b
