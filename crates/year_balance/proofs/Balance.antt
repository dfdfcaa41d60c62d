-- The year of any lines is a run of L11's calls, and so it balances.
use mathlib.Core.Bool.{Bool, true, false}
use mathlib.Core.List.{List, [], ◌∷◌, ◌++◌, map, append-nil}
use mathlib.Core.Path.{◌≡◌, refl, sym, ap, subst, ◌∙◌}
use Prim.Native.Nat.{ℕ, suc, ◌+◌, ◌<◌}
use native.Mathlib.Omega.{arith}
use lib.Dec.{eqb}
use borrow.Author.Tests.{eqb-true, eq-eqb}
use lib.ListN.{length, get_or, length-map, get_or-map}
use Rattle.bounded.specs.Bool.{if}
use Rattle.bounded.proofs.Bool.{by_cases, clash, not-true→false, and_i, and_l, and_r, if-true, if-false}
use Rattle.bins.specs.declared.Bin.{Bin}
use Rattle.bins.specs.Bins.{Place, place, no_bin, places, is_of}
use Rattle.bins_counts.specs.Counts.{bin_of_place, spot, first_of}
use Rattle.bins_counts.proofs.Spots.{no_place}
use Rattle.bins_counts.proofs.Bins.{bins-length, bins-places, bin_at, spot-inside, at-index, first-of}
use Rattle.stock.specs.Stock.{bins_of}
use Rattle.year_end.specs.End.{count_there}
use Rattle.state.specs.declared.state.State.{State}
use Rattle.state_bins.specs.Year.{Entry, Called, Recorded, number_of, bins_after, last_bins, recorded, called_with, delivered_to, called_off_from, accepted_sum}
use Rattle.state_bins.proofs.Year.{one-state-law}
use Rattle.scan.specs.declared.Line.{Line}
use Rattle.year_entries.specs.Year.{Told, Year, is_entry, entry_of, fault_of, told_as, new_year, entered, passed, has_ended, act, recorded_of}
use Rattle.year_balance.specs.Balance.{brought_to, taken_from, year_after, RanAs, Balances, LinesBalance}

-- One entry more.
called_more : (s : State) (es : List Entry) (e : Entry) → called_with s (es ++ (e ∷ [])) ≡ called_with s es ++ (record { state = s; entry = e } ∷ [])
called_more s [] e = refl
called_more s (x ∷ es) e = ap (λ (cs : List Called). record { state = s; entry = x } ∷ cs) (called_more s es e)

recorded_more : (bins : List Bin) (cs : List Called) (c : Called)
    → recorded bins (cs ++ (c ∷ [])) ≡ recorded bins cs ++ (record { entry = c.entry; number = number_of c.state (last_bins bins cs) c.entry } ∷ [])
recorded_more bins [] c = refl
recorded_more bins (x ∷ cs) c =
    ap (λ (rs : List Recorded). record { entry = x.entry; number = number_of x.state bins x.entry } ∷ rs) (recorded_more (bins_after x.state bins x.entry) cs c)

told_more : (ts : List Told) (t : Told) → recorded_of (ts ++ (t ∷ [])) ≡ recorded_of ts ++ recorded_of (t ∷ [])
unfolding recorded_of
told_more [] t = refl
told_more (x ∷ ts) t =
    by_cases (eqb x.fault 0)
    (λ h. if-true _ _ _ h ∙ ap (λ (rs : List Recorded). record { entry = x.entry; number = x.number } ∷ rs) (told_more ts t)
    ∙ ap (λ (rs : List Recorded). rs ++ recorded_of (t ∷ [])) (sym (if-true _ (record { entry = x.entry; number = x.number } ∷ recorded_of ts) (recorded_of ts) h)))
    (λ h. if-false _ _ _ h ∙ told_more ts t
    ∙ ap (λ (rs : List Recorded). rs ++ recorded_of (t ∷ [])) (sym (if-false _ (record { entry = x.entry; number = x.number } ∷ recorded_of ts) (recorded_of ts) h)))

module _ (s : State) (opening : List Bin) where
  -- A line without a fault is one call more,
  ran-entry : (y : Year) (l : Line) → eqb (fault_of y.line l) 0 ≡ true → RanAs s opening y → RanAs s opening (entered s y l)
  unfolding entered told_as recorded_of
  ran-entry y l h R =
      let cs : List Called = called_with s R.entries in
      let c : Called = record { state = s; entry = entry_of l } in
      let L = one-state-law s opening R.entries in
      record {
        entries = R.entries ++ (entry_of l ∷ []);
        bins_are = if-true _ _ _ h ∙ ap (λ (bs : List Bin). bins_after s bs (entry_of l)) R.bins_are
            ∙ sym (ap (last_bins opening) (called_more s R.entries (entry_of l)) ∙ L.goes_on (c ∷ []));
        recorded_are =
            told_more y.told (told_as s y.bins y.line l)
            ∙ (λ i. R.recorded_are i ++ (if-true _ (record { entry = entry_of l; number = if (eqb (fault_of y.line l) 0) (number_of s y.bins (entry_of l)) 0 } ∷ []) [] h
            ∙ (λ j. record { entry = entry_of l; number = (if-true _ (number_of s y.bins (entry_of l)) 0 h ∙ ap (λ (bs : List Bin). number_of s bs (entry_of l)) R.bins_are) j } ∷ [])) i)
            ∙ sym (ap (recorded opening) (called_more s R.entries (entry_of l)) ∙ recorded_more opening cs c);
      }

  -- and one with a fault is none.
  ran-fault : (y : Year) (l : Line) → eqb (fault_of y.line l) 0 ≡ false → RanAs s opening y → RanAs s opening (entered s y l)
  unfolding entered told_as recorded_of
  ran-fault y l h R =
      record {
        entries = R.entries;
        bins_are = if-false _ _ _ h ∙ R.bins_are;
        recorded_are =
            told_more y.told (told_as s y.bins y.line l)
            ∙ ap (λ (rs : List Recorded). recorded_of y.told ++ rs) (if-false _ (record { entry = entry_of l; number = if (eqb (fault_of y.line l) 0) (number_of s y.bins (entry_of l)) 0 } ∷ []) [] h)
            ∙ append-nil (recorded_of y.told) ∙ R.recorded_are;
      }

  ran-passed : (y : Year) → RanAs s opening y → RanAs s opening (passed y)
  unfolding passed
  ran-passed y R = record { entries = R.entries; bins_are = R.bins_are; recorded_are = R.recorded_are }

  ran-more : (y : Year) (l : Line) → RanAs s opening y → RanAs s opening (act s y l)
  unfolding act
  ran-more y l R =
      by_cases (is_entry l)
      (λ h. by_cases (has_ended y)
      (λ e. subst (RanAs s opening) (sym (if-true _ _ _ h ∙ if-true _ _ _ e)) R)
      (λ e. subst (RanAs s opening) (sym (if-true _ _ _ h ∙ if-false _ _ _ e))
      (by_cases (eqb (fault_of y.line l) 0) (λ f. ran-entry y l f R) (λ f. ran-fault y l f R))))
      (λ h. subst (RanAs s opening) (sym (if-false _ _ _ h)) (ran-passed y R))

  ran_on : (ls : List Line) (y : Year) → RanAs s opening y → RanAs s opening (year_after s y ls)
  ran_on [] y R = R
  ran_on (l ∷ ls) y R = ran_on ls (act s y l) (ran-more y l R)

  -- THEOREM. The lines come to a run of L11's calls,
  pub ran-as : (ls : List Line) → RanAs s opening (year_after s (new_year opening) ls)
  unfolding new_year recorded_of
  ran-as ls = ran_on ls (new_year opening) (record { entries = []; bins_are = refl; recorded_are = refl })

  -- THEOREM. and the four numbers of each bin balance.
  pub balance : (ls : List Line) → Balances s opening ls
  balance ls i l =
      let R = ran-as ls in
      let p = place (get_or opening i no_bin) in
      let law = (one-state-law s opening R.entries).balance i l in
      let b = ap (accepted_sum (delivered_to p)) R.recorded_are in
      let c = ap (accepted_sum (called_off_from p)) R.recorded_are in
      let d = ap (λ (bs : List Bin). (get_or bs i no_bin).count) R.bins_are in
      omega (arith, law, b, c, d)

-- ---- by variable and value
is-of : (o v : ℕ) (b c : Bin) → place b ≡ place c → is_of o v b ≡ is_of o v c
unfolding is_of
is-of o v b c e = ap (λ (p : Place). is_of o v (bin_of_place p 0)) e

module _ (s : State) (counts : List ℕ) (bins : List Bin) (same : map place bins ≡ map place (bins_of s counts)) where
  same_length : length bins ≡ length (bins_of s counts)
  same_length = sym (length-map bins place) ∙ ap length same ∙ length-map (bins_of s counts) place

  same_place : (i : ℕ) → place (get_or bins i no_bin) ≡ place (get_or (bins_of s counts) i no_bin)
  same_place i = sym (get_or-map place bins i no_bin) ∙ ap (λ (ps : List Place). get_or ps i no_place) same ∙ get_or-map place (bins_of s counts) i no_bin

  -- The bin of a value is the one at its index.
  pub count_at : (o v : ℕ) → o < s.n → v < get_or s.sizes o 0 → count_there bins (suc o, v) ≡ (get_or bins (spot s.sizes o v) no_bin).count
  unfolding count_there is_of
  count_at o v l b =
      ap (λ (x : Bin). x.count)
      (first-of (is_of (suc o) v) bins (spot s.sizes o v) (omega (arith, same_length, spot-inside s.n s.sizes o v l b counts))
      (is-of (suc o) v (get_or bins (spot s.sizes o v) no_bin) (get_or (bins_of s counts) (spot s.sizes o v) no_bin) (same_place (spot s.sizes o v)) ∙ ap (is_of (suc o) v) (bin_at s.n s.sizes o v l b counts) ∙ and_i _ _ (eq-eqb (suc o) (suc o) refl) (eq-eqb v v refl))
      (λ j m. is-of (suc o) v (get_or bins j no_bin) (get_or (bins_of s counts) j no_bin) (same_place j)
      ∙ at-index s.n s.sizes counts (λ (k : ℕ) (x : Bin). k < spot s.sizes o v → is_of (suc o) v x ≡ false)
      (λ x w lx bw h. not-true→false _ (λ t.
      let q : x ≡ o = omega (arith, eqb-true (suc x) (suc o) (and_l _ _ t)) in
      let e : spot s.sizes x w ≡ spot s.sizes o v = λ i. spot s.sizes (q i) (eqb-true w v (and_r _ _ t) i) in
      let no : ⊥ = omega (arith, e, h) in no))
      j (omega (arith, spot-inside s.n s.sizes o v l b counts, m)) m))

-- THEOREM. The four numbers of each BIN line balance.
pub lines-balance : (s : State) (counts : List ℕ) (ls : List Line) → LinesBalance s counts ls
lines-balance s counts ls o v l b =
    let R = ran-as s (bins_of s counts) ls in
    let stays : map place (year_after s (new_year (bins_of s counts)) ls).bins ≡ map place (bins_of s counts) =
    ap (map place) R.bins_are ∙ (one-state-law s (bins_of s counts) R.entries).same_places in
    let p : place (get_or (bins_of s counts) (spot s.sizes o v) no_bin) ≡ (suc o, v) = ap place (bin_at s.n s.sizes o v l b counts) in
    let opened : count_there (bins_of s counts) (suc o, v) ≡ (get_or (bins_of s counts) (spot s.sizes o v) no_bin).count = count_at s counts (bins_of s counts) refl o v l b in
    let hand = count_at s counts (year_after s (new_year (bins_of s counts)) ls).bins stays o v l b in
    let law = balance s (bins_of s counts) ls (spot s.sizes o v) (spot-inside s.n s.sizes o v l b counts) in
    let b1 = ap (brought_to (year_after s (new_year (bins_of s counts)) ls).told) p in
    let b2 = ap (taken_from (year_after s (new_year (bins_of s counts)) ls).told) p in
    omega (arith, opened, hand, law, b1, b2)
