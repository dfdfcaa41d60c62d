-- The balance of a year: by induction on the list, one entry at a time.
use mathlib.Core.Bool.{Bool, true, false}
use mathlib.Core.List.{List, [], ◌∷◌, map, ◌++◌}
use mathlib.Core.Path.{◌≡◌, refl, sym, ap, subst, ◌∙◌}
use Prim.Native.Nat.{ℕ, ◌+◌, ◌-◌, ◌<◌}
use native.Mathlib.Omega.{arith}
use lib.Dec.{eqb, ltb}
use lib.ListN.{length, get_or, length-map}
use borrow.Author.Tests.{eqb-true, eqb-false, eq-eqb, ne_eqb, ltb-true, ltb-false}
use Rattle.bounded.specs.Bool.{and, if}
use Rattle.bounded.proofs.Bool.{by_cases, not-true→false, and_l, and_r, if-true, if-false}
use Rattle.bins.specs.declared.Bin.{Bin}
use Rattle.bins.specs.Bins.{Place, place, no_bin, is_of, of_solution, with_count}
use Rattle.bins.proofs.Lists.{get_d_map, map-place}
use Rattle.state.specs.declared.state.State.{State}
use Rattle.state_bins.specs.Bins.{delivered_bins, lacks, called_off_bins}
use Rattle.state_bins.specs.Year.{Entry, delivery, call_off, Called, number_of, bins_after, last_bins, recorded, delivered_to, called_off_from, accepted_sum, YearLaw, called_with}
use Rattle.state_bins.proofs.Refuses.{call-off-refuses}

-- ---- one entry, one bin
changes : Entry → Bin → Bin
changes (delivery variable value amount) b = if (is_of variable value b) (with_count b (b.count + amount)) b
changes (call_off solution amount) b = if (of_solution solution b) (with_count b (b.count - amount)) b

if-place : (t : Bool) (b : Bin) (k : ℕ) → place (if t (with_count b k) b) ≡ place b
unfolding if
if-place true b k = refl
if-place false b k = refl

changes-place : (e : Entry) (b : Bin) → place (changes e b) ≡ place b
unfolding changes
changes-place (delivery variable value amount) b = if-place (is_of variable value b) b (b.count + amount)
changes-place (call_off solution amount) b = if-place (of_solution solution b) b (b.count - amount)

-- what a bin lacks
short : Entry → Bin → Bool
short (delivery variable value amount) b = false
short (call_off solution amount) b = lacks solution amount b

up : (t : Bool) (b : Bin) (k : ℕ) → b.count + if t k 0 ≡ (if t (with_count b (b.count + k)) b).count + 0
unfolding if
up true b k = omega arith
up false b k = omega arith

down : (t : Bool) (b : Bin) (k : ℕ) → and t (ltb b.count k) ≡ false → b.count + 0 ≡ (if t (with_count b (b.count - k)) b).count + if t k 0
unfolding if and
down true b k n = omega (arith, ltb-false b.count k n)
down false b k n = refl

one : (e : Entry) (b : Bin) → short e b ≡ false → b.count + delivered_to (place b) e ≡ (changes e b).count + called_off_from (place b) e
unfolding changes short lacks delivered_to called_off_from is_of of_solution
one (delivery variable value amount) b n = up (is_of variable value b) b amount
one (call_off solution amount) b n = down (of_solution solution b) b amount n

-- ---- one entry, all bins
module _ (s : State) where
  after-taken : (bins : List Bin) (e : Entry) → number_of s bins e ≡ 0 → bins_after s bins e ≡ map (changes e) bins
  unfolding number_of bins_after delivered_bins called_off_bins changes
  after-taken bins (delivery variable value amount) z = if-true _ _ _ (eq-eqb _ 0 z)
  after-taken bins (call_off solution amount) z = if-true _ _ _ (eq-eqb _ 0 z)

  after-refused : (bins : List Bin) (e : Entry) → (number_of s bins e ≡ 0 → ⊥) → bins_after s bins e ≡ bins
  unfolding number_of bins_after delivered_bins called_off_bins
  after-refused bins (delivery variable value amount) d = if-false _ _ bins (ne_eqb _ 0 d)
  after-refused bins (call_off solution amount) d = if-false _ _ bins (ne_eqb _ 0 d)

  none-short : (bins : List Bin) (e : Entry) → number_of s bins e ≡ 0 → (i : ℕ) → i < length bins → short e (get_or bins i no_bin) ≡ false
  unfolding number_of short lacks of_solution
  none-short bins (delivery variable value amount) z i l = refl
  none-short bins (call_off solution amount) z i l =
      not-true→false _ (λ t. ((call-off-refuses s bins solution amount).number_0.0 z).1.1.1 (record {
        which = i;
        inside = l;
        from_1 = ltb-true 0 _ (and_l _ _ (and_l _ _ t));
        its_value = eqb-true _ _ (and_r _ _ (and_l _ _ t));
        too_few = ltb-true _ amount (and_r _ _ t);
      }))

  -- What one entry makes of the bin at i.
  record Turned (bins : List Bin) (e : Entry) (i : ℕ) : Type 0 where
    stays : place (get_or (bins_after s bins e) i no_bin) ≡ place (get_or bins i no_bin)
    counts : (get_or bins i no_bin).count + if (eqb (number_of s bins e) 0) (delivered_to (place (get_or bins i no_bin)) e) 0
        ≡ (get_or (bins_after s bins e) i no_bin).count + if (eqb (number_of s bins e) 0) (called_off_from (place (get_or bins i no_bin)) e) 0

  turned : (bins : List Bin) (e : Entry) (i : ℕ) → i < length bins → Turned bins e i
  turned bins e i l =
      by_cases (eqb (number_of s bins e) 0)
      (λ t. let z = eqb-true (number_of s bins e) 0 t in
      let at : get_or (bins_after s bins e) i no_bin ≡ changes e b = ap (λ (bs : List Bin). get_or bs i no_bin) (after-taken bins e z) ∙ get_d_map (changes e) bins i l in
      record {
        stays = ap place at ∙ changes-place e b;
        counts = ap (λ (k : ℕ). b.count + k) (if-true _ _ 0 t) ∙ one e b (none-short bins e z i l) ∙ (λ j. (sym at j).count + sym (if-true _ (called_off_from (place b) e) 0 t) j);
      })
      (λ t. let at : get_or (bins_after s bins e) i no_bin ≡ b = ap (λ (bs : List Bin). get_or bs i no_bin) (after-refused bins e (eqb-false (number_of s bins e) 0 t)) in
      record {
        stays = ap place at;
        counts = ap (λ (k : ℕ). b.count + k) (if-false _ _ 0 t) ∙ (λ j. (sym at j).count + sym (if-false _ (called_off_from (place b) e) 0 t) j);
      })
    where
      b : Bin
      b = get_or bins i no_bin

  after-length : (bins : List Bin) (e : Entry) → length (bins_after s bins e) ≡ length bins
  after-length bins e =
      by_cases (eqb (number_of s bins e) 0)
      (λ t. ap length (after-taken bins e (eqb-true (number_of s bins e) 0 t)) ∙ length-map bins (changes e))
      (λ t. ap length (after-refused bins e (eqb-false (number_of s bins e) 0 t)))

  after-places : (bins : List Bin) (e : Entry) → map place (bins_after s bins e) ≡ map place bins
  after-places bins e =
      by_cases (eqb (number_of s bins e) 0)
      (λ t. ap (map place) (after-taken bins e (eqb-true (number_of s bins e) 0 t)) ∙ map-place (changes e) (changes-place e) bins)
      (λ t. ap (map place) (after-refused bins e (eqb-false (number_of s bins e) 0 t)))

-- ---- the list
joins : (c c₁ z x y X Y : ℕ) → c + x ≡ c₁ + y → c₁ + X ≡ z + Y → c + (x + X) ≡ z + (y + Y)
joins c c₁ z x y X Y p q = omega (arith, p, q)

balances : (cs : List Called) (bins : List Bin) (i : ℕ) → i < length bins
    → (get_or bins i no_bin).count + accepted_sum (delivered_to (place (get_or bins i no_bin))) (recorded bins cs)
    ≡ (get_or (last_bins bins cs) i no_bin).count + accepted_sum (called_off_from (place (get_or bins i no_bin))) (recorded bins cs)
balances [] bins i l = refl
balances (c ∷ cs) bins i l =
    let next : List Bin = bins_after c.state bins c.entry in
    let t : Turned c.state bins c.entry i = turned c.state bins c.entry i l in
    joins _ (get_or next i no_bin).count _ _ _ _ _ t.counts
    (subst
    (λ (p : Place). (get_or next i no_bin).count + accepted_sum (delivered_to p) (recorded next cs) ≡ (get_or (last_bins next cs) i no_bin).count + accepted_sum (called_off_from p) (recorded next cs))
    t.stays (balances cs next i (subst (λ (k : ℕ). i < k) (sym (after-length c.state bins c.entry)) l)))

places-stay : (cs : List Called) (bins : List Bin) → map place (last_bins bins cs) ≡ map place bins
places-stay [] bins = refl
places-stay (c ∷ cs) bins = places-stay cs (bins_after c.state bins c.entry) ∙ after-places c.state bins c.entry

runs_on : (cs more : List Called) (bins : List Bin) → last_bins bins (cs ++ more) ≡ last_bins (last_bins bins cs) more
runs_on [] more bins = refl
runs_on (c ∷ cs) more bins = runs_on cs more (bins_after c.state bins c.entry)

-- For every list of entries, each with any state, from any bins.
pub year-law : (bins : List Bin) (cs : List Called) → YearLaw bins cs
year-law bins cs =
    record {
      same_places = places-stay cs bins;
      balance = balances cs bins;
      refused_none = λ c. after-refused c.state (last_bins bins cs) c.entry;
      goes_on = λ more. runs_on cs more bins;
    }

-- The case of one state.
pub one-state-law : (s : State) (bins : List Bin) (es : List Entry) → YearLaw bins (called_with s es)
one-state-law s bins es = year-law bins (called_with s es)
