-- One entry more in what the end tells.
use mathlib.Core.Bool.{Bool, true, false}
use mathlib.Core.List.{List, [], ◌∷◌, ◌++◌}
use mathlib.Core.Path.{◌≡◌, refl, sym, ap, ◌∙◌}
use Prim.Native.Nat.{ℕ, ◌+◌, ◌≤◌, ◌<◌, ◌^◌}
use native.Mathlib.Omega.{arith}
use lib.Dec.{eqb}
use lib.ListN.{length, length-append}
use borrow.Author.Tests.{ne_eqb}
use Rattle.bounded.specs.Bool.{and, bit, if}
use Rattle.bounded.proofs.Bool.{by_cases, bit-true, bit-false, bit_le, if-true, if-false}
use Rattle.bins.specs.Bins.{Place}
use Rattle.bins_counts.proofs.Changed.{plus-is}
use Rattle.state_bins.specs.Year.{Entry, delivery, call_off, Recorded, delivered_to, called_off_from, accepted_sum}
use Rattle.year_entries.specs.declared.Shortage.{Shortage}
use Rattle.year_entries.specs.Year.{Told, amount_of, answered, tally, recorded_of, first_short}
use Rattle.year_act.specs.Kept.{counted_if}

assoc : (x y z : ℕ) → x + (y + z) ≡ (x + y) + z
assoc x y z = omega arith

pub length_more : (ts : List Told) (t : Told) → length (ts ++ (t ∷ [])) ≡ length ts + 1
length_more ts t = length-append ts (t ∷ [])

module _ (which : Told → Bool) where
  pub tally-more : (ts : List Told) (t : Told) → tally which (ts ++ (t ∷ [])) ≡ tally which ts + bit (which t)
  unfolding tally
  tally-more [] t = omega arith
  tally-more (x ∷ ts) t = ap (λ (k : ℕ). bit (which x) + k) (tally-more ts t) ∙ assoc (bit (which x)) (tally which ts) (bit (which t))

  pub tally-le : (ts : List Told) → tally which ts ≤ length ts
  unfolding tally
  tally-le [] = omega arith
  tally-le (x ∷ ts) = let b = bit_le (which x) in let h = tally-le ts in omega (arith, b, h)

  -- Counted in 64 bits.
  pub counted-more : (ts : List Told) (t : Told) (x : ℕ) (b : Bool) → x ≡ tally which ts → b ≡ which t → length ts < 2 ^ 32
      → counted_if b x ≡ tally which (ts ++ (t ∷ []))
  unfolding counted_if
  counted-more ts t x b e f l =
      by_cases b
      (λ h. let k : x + 1 < 2 ^ 64 = omega (arith, e, tally-le ts, l) in
      let q : bit (which t) ≡ 1 = bit-true (which t) (sym f ∙ h) in
      if-true _ _ _ h ∙ plus-is 1 x k ∙ (let r : x + 1 ≡ tally which (ts ++ (t ∷ [])) = omega (arith, tally-more ts t, e, q) in r))
      (λ h. let q : bit (which t) ≡ 0 = bit-false (which t) (sym f ∙ h) in
      if-false _ _ _ h ∙ (let r : x ≡ tally which (ts ++ (t ∷ [])) = omega (arith, tally-more ts t, e, q) in r))

-- What an entry adds to a sum over the recorded list.
abbrev pub adds : (Entry → ℕ) → Told → ℕ
adds f t = if (eqb t.fault 0) (if (eqb t.number 0) (f t.entry) 0) 0

module _ (f : Entry → ℕ) where
  one : (t : Told) → accepted_sum f (recorded_of (t ∷ [])) ≡ adds f t
  unfolding recorded_of
  one t =
      by_cases (eqb t.fault 0)
      (λ h. ap (accepted_sum f) (if-true _ (record { entry = t.entry; number = t.number } ∷ []) [] h) ∙ plain (if (eqb t.number 0) (f t.entry) 0) ∙ sym (if-true _ _ 0 h))
      (λ h. ap (accepted_sum f) (if-false _ (record { entry = t.entry; number = t.number } ∷ []) [] h) ∙ sym (if-false _ _ 0 h))
    where
      plain : (k : ℕ) → k + 0 ≡ k
      plain k = omega arith

  pub sum_more : (ts : List Told) (t : Told) → accepted_sum f (recorded_of (ts ++ (t ∷ []))) ≡ accepted_sum f (recorded_of ts) + adds f t
  unfolding recorded_of
  sum_more [] t = one t ∙ (let e : adds f t ≡ 0 + adds f t = omega arith in e)
  sum_more (x ∷ ts) t =
      by_cases (eqb x.fault 0)
      (λ h. ap (accepted_sum f) (if-true _ (record { entry = x.entry; number = x.number } ∷ recorded_of (ts ++ (t ∷ []))) _ h)
      ∙ ap (λ (k : ℕ). if (eqb x.number 0) (f x.entry) 0 + k) (sum_more ts t) ∙ assoc _ (accepted_sum f (recorded_of ts)) (adds f t)
      ∙ ap (λ (rs : List Recorded). accepted_sum f rs + adds f t) (sym (if-true _ (record { entry = x.entry; number = x.number } ∷ recorded_of ts) _ h)))
      (λ h. ap (accepted_sum f) (if-false _ (record { entry = x.entry; number = x.number } ∷ recorded_of (ts ++ (t ∷ []))) _ h) ∙ sum_more ts t
      ∙ ap (λ (rs : List Recorded). accepted_sum f rs + adds f t) (sym (if-false _ (record { entry = x.entry; number = x.number } ∷ recorded_of ts) _ h)))

  pub adds-le : (t : Told) → ((e : Entry) → f e ≤ amount_of e) → adds f t ≤ amount_of t.entry
  adds-le t h =
      by_cases (eqb t.fault 0)
      (λ a. by_cases (eqb t.number 0)
      (λ b. let q : adds f t ≡ f t.entry = if-true _ _ 0 a ∙ if-true _ _ 0 b in omega (arith, q, h t.entry))
      (λ b. let q : adds f t ≡ 0 = if-true _ _ 0 a ∙ if-false _ _ 0 b in omega (arith, q)))
      (λ a. let q : adds f t ≡ 0 = if-false _ _ 0 a in omega (arith, q))

if-le : (b : Bool) (k : ℕ) → if b k 0 ≤ k
unfolding if
if-le true k = omega arith
if-le false k = omega arith

pub delivered-le : (p : Place) (e : Entry) → delivered_to p e ≤ amount_of e
unfolding delivered_to
delivered-le p (delivery variable value amount) = if-le _ amount
delivered-le p (call_off solution amount) = omega arith

pub called-le : (p : Place) (e : Entry) → called_off_from p e ≤ amount_of e
unfolding called_off_from
called-le p (delivery variable value amount) = omega arith
called-le p (call_off solution amount) = if-le _ amount

-- The first 29, where one more is told.
abbrev pub shortage : Told → Shortage
shortage t = record { line = t.line; low = t.low; asked = amount_of t.entry }

pub first_more : (ts : List Told) (t : Told) → first_short (ts ++ (t ∷ [])) ≡ if (and (answered 29 t) (eqb (tally (answered 29) ts) 0)) (shortage t) (first_short ts)
unfolding first_short tally and bit
first_more [] t =
    by_cases (answered 29 t)
    (λ h. if-true _ (shortage t) _ h ∙ sym (if-true _ (shortage t) _ (ap (λ (b : Bool). and b true) h)))
    (λ h. if-false _ (shortage t) _ h ∙ sym (if-false _ (shortage t) _ (ap (λ (b : Bool). and b true) h)))
first_more (x ∷ ts) t =
    by_cases (answered 29 x)
    (λ h. if-true _ (shortage x) _ h
    ∙ sym (if-false _ (shortage t) _ (no_more (answered 29 t) (bit (answered 29 x) + tally (answered 29) ts) (some (answered 29 x) h)) ∙ if-true _ (shortage x) _ h))
    (λ h. if-false _ (shortage x) _ h ∙ first_more ts t
    ∙ (λ i. if (and (answered 29 t) (eqb (sym (none (answered 29 x) h) i) 0)) (shortage t) (sym (if-false (answered 29 x) (shortage x) (first_short ts) h) i)))
  where
    no_more : (b : Bool) (k : ℕ) → (k ≡ 0 → ⊥) → and b (eqb k 0) ≡ false
    no_more true k d = ne_eqb k 0 d
    no_more false k d = refl

    some : (b : Bool) → b ≡ true → bit b + tally (answered 29) ts ≡ 0 → ⊥
    some b h z = omega (arith, bit-true b h, z)

    none : (b : Bool) → b ≡ false → bit b + tally (answered 29) ts ≡ tally (answered 29) ts
    none b h = omega (arith, bit-false b h)
