-- What the test of one record after the other finds is what the definitions over the list of bins say.
use mathlib.Core.Path.{◌≡◌, refl, sym, ap, ◌∙◌}
use Prim.Native.Nat.{ℕ, suc, ◌+◌, ◌-◌, ◌^◌}
use mathlib.Core.Bool.{Bool, true, false}
use mathlib.Core.Bool as machine
use mathlib.Core.List.{List, [], ◌∷◌, map}
use native.Mathlib.Omega.{arith}
use lib.Dec.{T, eqb, leb, ltb, eqb→eq}
use Rattle.bounded.specs.Bool.{and, or, not, if}
use Rattle.bounded.proofs.Bool.{if-true, if-false, or-false-l, or-false-r}
use Rattle.bins.specs.declared.Bin.{Bin}
use Rattle.bins.specs.declared.Plan.{Plan}
use Rattle.bins.specs.declared.Seen.{Seen}
use Rattle.bins.specs.Bins.{any, with_count}
use Rattle.bins.specs.Plans.{named, is_next, next_variable, next_value, exact, too_high, too_low, number_found, plan_number, changed, plan_bins, start_of, looked_of, settled_of, count_of, moved_of, run}

or-none : (a : Bool) → or a false ≡ a
unfolding or
or-none true = refl
or-none false = refl

or-or : (a b c : Bool) → or (or a b) c ≡ or a (or b c)
unfolding or
or-or true b c = refl
or-or false b c = refl

by_bool : (P : Bool → Type 0) → P true → P false → (t : Bool) → P t
by_bool P y n true = y
by_bool P y n false = n

module _ (p : Plan) where
  abbrev seen : ℕ → ℕ → Bool → Bool → Bool → Seen
  seen o v e h l = record { variable = o; value = v; exact = e; high = h; low = l }

  -- A record that is not where it must be.
  lost : (bs : List Bin) (o v : ℕ) (h l : Bool) → settled_of p (run p (seen o v false h l) bs) ≡ if (eqb p.refusal 9) 9 27
  unfolding settled_of number_found looked_of if and or not
  lost [] o v h l = refl
  lost (b ∷ bs) o v h l =
      by_bool (λ t. settled_of p (run p (if t (seen (next_variable p o v) (next_value p o v) false (or h (too_high p b)) (or l (too_low p b))) (seen o v false h l)) bs) ≡ if (eqb p.refusal 9) 9 27)
      (lost bs (next_variable p o v) (next_value p o v) (or h (too_high p b)) (or l (too_low p b))) (lost bs o v h l) (is_next p o v b)

  from : (bs : List Bin) (o v : ℕ) (h l : Bool) → settled_of p (run p (seen o v true h l) bs) ≡ number_found p (exact p o v bs) (or h (any (too_high p) bs)) (or l (any (too_low p) bs))
  unfolding settled_of number_found looked_of if and or not
  from [] o v h l = λ i. number_found p (leb p.n o) (sym (or-none h) i) (sym (or-none l) i)
  from (b ∷ bs) o v h l =
      by_bool (λ t. settled_of p (run p (if t (seen (next_variable p o v) (next_value p o v) true (or h (too_high p b)) (or l (too_low p b))) (seen o v false h l)) bs)
      ≡ number_found p (and t (exact p (next_variable p o v) (next_value p o v) bs)) (or h (or (too_high p b) (any (too_high p) bs))) (or l (or (too_low p b) (any (too_low p) bs))))
      (from bs (next_variable p o v) (next_value p o v) (or h (too_high p b)) (or l (too_low p b))
      ∙ (λ i. number_found p (exact p (next_variable p o v) (next_value p o v) bs) (or-or h (too_high p b) (any (too_high p) bs) i) (or-or l (too_low p b) (any (too_low p) bs) i)))
      (lost bs o v h l) (is_next p o v b)

  pub settles : (bs : List Bin) → settled_of p (run p start_of bs) ≡ plan_number p bs
  unfolding or
  settles bs = from bs 0 0 false false

-- ---- An accepted entry fits.
none : {k : ℕ} → suc k ≡ 0 → ⊥
none e = omega (arith, e)

fits : (a e x h l : Bool) → if {A = ℕ} a 9 (if (not e) 27 (if (or (not x) h) 28 (if l 29 0))) ≡ 0 → (a ≡ false) × (e ≡ true) × (x ≡ true) × (h ≡ false) × (l ≡ false)
unfolding if or not
fits true e x h l z = absurd (none z)
fits false false x h l z = absurd (none z)
fits false true false h l z = absurd (none z)
fits false true true true l z = absurd (none z)
fits false true true false true z = absurd (none z)
fits false true true false false z = (refl, refl, refl, refl, refl)

same : (h a : Bool) (b : Bin) (k : ℕ) → and h (and a (leb (2 ^ 32) (b.count + k))) ≡ false → and h (and (not a) (ltb b.count k)) ≡ false
    → if h (with_count b (if a (if (leb (2 ^ 32) (b.count + k)) b.count (b.count + k)) (if (ltb b.count k) b.count (b.count - k)))) b
    ≡ if a (if h (with_count b (b.count + k)) b) (if h (with_count b (b.count - k)) b)
unfolding if and not
same false true b k high low = refl
same false false b k high low = refl
same true true b k high low = ap (λ (t : Bool). with_count b (if t b.count (b.count + k))) high
same true false b k high low = ap (λ (t : Bool). with_count b (if t b.count (b.count - k))) low

map-if : (a : Bool) (f g : Bin → Bin) (bs : List Bin) → map (λ (b : Bin). if a (f b) (g b)) bs ≡ if a (map f bs) (map g bs)
unfolding if
map-if true f g bs = refl
map-if false f g bs = refl

module _ (p : Plan) where
  abbrev up : Bin → Bin
  up b = if (named p b) (with_count b (b.count + p.amount)) b

  abbrev down : Bin → Bin
  down b = if (named p b) (with_count b (b.count - p.amount)) b

  moves : (bs : List Bin) → any (too_high p) bs ≡ false → any (too_low p) bs ≡ false → map (moved_of p) bs ≡ map (λ (b : Bin). if p.adds (up b) (down b)) bs
  unfolding moved_of count_of too_high too_low
  moves [] high low = refl
  moves (b ∷ bs) high low = λ i. same (named p b) p.adds b p.amount (or-false-l _ _ high) (or-false-l _ _ low) i ∷ moves bs (or-false-r _ _ high) (or-false-r _ _ low) i

  all_fit : (bs : List Bin) → plan_number p bs ≡ 0 → map (moved_of p) bs ≡ changed p bs
  unfolding number_found
  all_fit bs z =
      let f = fits (eqb p.refusal 9) (exact p 0 0 bs) (eqb p.refusal 0) (any (too_high p) bs) (any (too_low p) bs) z in
      moves bs f.3 f.4 ∙ map-if p.adds up down bs

is_true : (t : Bool) → T t → t ≡ true
is_true true h = refl
is_true false h = absurd h

is_false : (t : Bool) → T (machine.not t) → t ≡ false
is_false true h = absurd h
is_false false h = refl

-- What an accepted entry, and a refused one, leave.
pub accepted : (p : Plan) (ys : List Bin) (r : ℕ) → r ≡ plan_number p ys → T (eqb r 0) → map (moved_of p) ys ≡ plan_bins p ys
accepted p ys r e t = all_fit p ys (sym e ∙ eqb→eq r 0 t) ∙ sym (if-true _ (changed p ys) ys (ap (λ (k : ℕ). eqb k 0) (sym e) ∙ is_true (eqb r 0) t))

pub refused : (p : Plan) (ys : List Bin) (r : ℕ) → r ≡ plan_number p ys → T (machine.not (eqb r 0)) → ys ≡ plan_bins p ys
refused p ys r e t = sym (if-false _ (changed p ys) ys (ap (λ (k : ℕ). eqb k 0) (sym e) ∙ is_false (eqb r 0) t))
