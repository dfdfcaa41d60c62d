-- The walk over the bytes finds the first table that is not functional both ways in the network that the parser gets.
use mathlib.Core.Bool.{Bool, true, false, false≢true}
use mathlib.Core.List.{List, ◌∷◌}
use mathlib.Core.Path.{◌≡◌, refl, sym, ◌∙◌, ap, ap₂, subst}
use Prim.Native.Nat.{ℕ, zero, suc, ◌+◌, ◌-◌, ◌*◌, ◌≤◌, ◌<◌}
use native.Mathlib.Omega.{arith}
use lib.Dec.{leb, ltb}
use lib.ListN.{length, get_or}
use borrow.Author.Tests.{eq-eqb, ne_eqb, lt-ltb, ltb-true, ltb-false, le-leb, leb-true}
use Rattle.bounded.specs.Bool.{and, not}
use Rattle.bounded.specs.Fold.{every, some, count}
use Rattle.bounded.proofs.Bool.{by_cases, clash, bool-ext, not-true→false, and_i, and_l, and_r, and-holds, or_elim, or_l, not-i, not-e, not-false-i, implies_true, if-true, if-false}
use Rattle.bounded.proofs.Fold.{every-i, every-e, some-i, some-e, every-cong, count-cong, count-two, count-unique}
use Rattle.words.specs.Word.{has}
use Rattle.cause.specs.declared.Cause.{Cause}
use Rattle.network.specs.Network.{Network, partner, functional}
use Rattle.network.specs.Sound.{Sound}
use Rattle.network.specs.Sheet.{Table, Sheet, is_for, tabled, row_for, network_of}
use Rattle.network.specs.Reduction.{reduce, Run, done}
use Rattle.network.specs.Paired.{unpaired, paired, unpaired_first, unpaired_second}
use Rattle.network.proofs.Sheet.{Proper, proper_none, proper_more, allows-of-row, tabled-ordered}
use Rattle.network.proofs.Tables.{is_for-e, tabled-here, tabled_later, tabled-cases, row_for-here, row_for-there}
use Rattle.network.proofs.Reduction.{keeps-trans, run-keeps, run_sound, reduce-run}
use Rattle.network.proofs.Paired.{Paired, profile-decided, paired-e, paired_none, first-before, second-before, first-unpaired}
use Rattle.format.specs.Layout.{Layout, found, layout_of, longest}
use Rattle.format.specs.Parse.{Parse, Octets, got, bad, pair_of, size_of, parse}
use Rattle.format.specs.Print.{print_all, print_table, print_body}
use Rattle.format.specs.WellFormed.{All, TableFits, Ascend}
use Rattle.format.specs.Builds.{byte, option_size, tables, first_table, next_table, table_row, place_among, table_place, has_table}
use Rattle.format.specs.Profile.{rows_paired, table_paired, unpaired_among, unpaired_place, place_past, FirstOther, then_paired, parse_paired}
use Rattle.format.proofs.Numbers.{Stands, stands-front, stands-back}
use Rattle.format.proofs.All.{all_map}
use Rattle.format.proofs.Lengths.{largest-sheet}
use Rattle.format.proofs.RoundTrip.{tables-stand, SheetRead, parsed}
use Rattle.format.proofs.SheetOf.{wellformed-sound}
use Rattle.format.proofs.Builds.{past-untabled, tables-proper, option_size-is, tables-counted, first-stands, first_byte, second-byte, rows_are, next-table, table-row, own_pair, tables-are}
use Rattle.format.proofs.Decided.{Decides, decided-decides}

not-not : (b : Bool) → not (not b) ≡ b
unfolding not
not-not true = refl
not-not false = refl

rows_same : (m k : ℕ) (row other : ℕ → ℕ) → ((a : ℕ) → a < m → row a ≡ other a) → rows_paired m k row ≡ rows_paired m k other
unfolding rows_paired
rows_same m k row other h =
    ap₂ and
    (every-cong m _ _ λ a l. ap (λ (r : ℕ). leb (count k (has r)) 1) (h a l))
    (every-cong k _ _ λ b m'. ap (λ (c : ℕ). leb c 1) (count-cong m _ _ λ a l. ap (λ (r : ℕ). has r b) (h a l)))

-- The test of the rows in one pass: no row has two values, or one that a row before it has.
pub rows_pass : (m k : ℕ) (row : ℕ → ℕ)
    → rows_paired m k row
    ≡ every m (λ (a : ℕ). and (leb (count k (has (row a))) 1) (every k (λ (b : ℕ). not (and (has (row a) b) (some a (λ (c : ℕ). has (row c) b))))))
unfolding rows_paired
rows_pass m k row = bool-ext _ _
    (λ h. every-i m _ λ a l. and_i _ _ (every-e m _ (and_l _ _ h) a l)
    (every-i k _ λ b n. not-i _ (not-true→false _ λ t. some-e a _ (and_r _ _ t) λ c o u.
    let x : ⊥ = omega (arith, count-two m (λ (a : ℕ). has (row a) b) (leb-true _ 1 (every-e k _ (and_r _ _ h) b n)) c a (omega arith) l u (and_l _ _ t)) in x)))
    (λ h. let new : (b : ℕ) → b < k → (c a : ℕ) → c < a → a < m → has (row c) b ≡ true → has (row a) b ≡ true → ⊥ = λ b n c a o l u t.
    clash (and_i _ _ t (some-i a _ c o u)) (not-e _ (every-e k _ (and_r _ _ (every-e m _ h a l)) b n)) in
    and_i _ _ (every-i m _ λ a l. and_l _ _ (every-e m _ h a l))
    (every-i k _ λ b n. le-leb _ 1 (count-unique m (λ (a : ℕ). has (row a) b) λ c a lc la tc ta.
    by_cases (ltb c a)
    (λ t. absurd (new b n c a (ltb-true c a t) la tc ta))
    (λ t. by_cases (ltb a c)
    (λ u. absurd (new b n a c (ltb-true a c u) lc ta tc))
    (λ u. omega (arith, ltb-false c a t, ltb-false a c u))))))

-- In the network just read a tabled pair is functional both ways exactly so.
module _ (s : Sheet) (n : ℕ) (P : Proper n s.tables) (S : Sound (network_of s)) where
  full : (i a : ℕ) → a < get_or s.sizes i 0 → (network_of s).domain i a ≡ true
  unfolding network_of
  full i a l = lt-ltb _ _ l

  -- The partners of a value are what the pair allows it.
  full-functional : (i j : ℕ) → functional (network_of s) i j
      ≡ every (get_or s.sizes i 0) (λ (a : ℕ). leb (count (get_or s.sizes j 0) ((network_of s).allows i j a)) 1)
  unfolding functional partner network_of
  full-functional i j = every-cong (get_or s.sizes i 0) _ _ λ a la.
      implies_true _ _ (lt-ltb _ _ la)
      ∙ ap (λ (c : ℕ). leb c 1) (count-cong (get_or s.sizes j 0) _ _ λ b lb. and-holds _ _ (lt-ltb _ _ lb))

  tabled-stated : (i j : ℕ) → tabled s.tables i j ≡ true → (network_of s).stated i j ≡ true
  unfolding network_of
  tabled-stated i j t = or_l _ _ t

  tabled-unpaired : (i j : ℕ) → tabled s.tables i j ≡ true
      → unpaired (network_of s) i j ≡ not (rows_paired (get_or s.sizes i 0) (get_or s.sizes j 0) (row_for s.tables i j))
  unfolding unpaired rows_paired
  tabled-unpaired i j t =
      let sized : ℕ → ℕ = λ (x : ℕ). get_or s.sizes x 0 in
      and-holds _ _ (tabled-stated i j t)
      ∙ ap not (ap₂ and
      (full-functional i j
      ∙ every-cong (sized i) _ _ λ a la. ap (λ (c : ℕ). leb c 1)
      (count-cong (sized j) _ _ λ b lb. allows-of-row s n P i j a b t))
      (full-functional j i
      ∙ every-cong (sized j) _ _ λ b lb. ap (λ (c : ℕ). leb c 1)
      (count-cong (sized i) _ _ λ a la. S.allows_sym j i b a ∙ allows-of-row s n P i j a b t)))

-- The tables of a sheet, each found again by its pair.
pub record Own (ts : List Table) (t : Table) : Type 0 where
  pub its_pair : tabled ts (t.first - 1) (t.second - 1) ≡ true
  pub its_row : (a : ℕ) → row_for ts (t.first - 1) (t.second - 1) a ≡ get_or t.rows a 0

own-for : (t : Table) → 1 ≤ t.first → 1 ≤ t.second → is_for t (t.first - 1) (t.second - 1) ≡ true
unfolding is_for
own-for t a b = and_i _ _ (eq-eqb t.first (suc (t.first - 1)) (omega arith)) (eq-eqb t.second (suc (t.second - 1)) (omega arith))

all_own : {n : ℕ} {ts : List Table} → Proper n ts → All (Own ts) ts
all_own proper_none = All.none
all_own (proper_more {t = t} {ts = ts} p q r d ps) =
    let mine = own-for t p (omega arith) in
    All.more (record { its_pair = tabled-here t ts _ _ mine; its_row = λ a. row_for-here t ts _ _ a mine }) (lifted (all_own ps))
  where
    lift : (u : Table) → Own ts u → Own (t ∷ ts) u
    lift u o =
        let other : is_for t (u.first - 1) (u.second - 1) ≡ false = not-true→false _ λ y. clash o.its_pair (d _ _ y) in
        record { its_pair = tabled_later t ts _ _ o.its_pair; its_row = λ a. row_for-there t ts _ _ a other ∙ o.its_row a }

    lifted : {us : List Table} → All (Own ts) us → All (Own (t ∷ ts)) us
    lifted h = all_map (lift) h

-- The walk and the tables go together.
module _
    (L : Layout) (bytes : List ℕ) (v : layout_of (get_or bytes 0 0) ≡ found L) (s : Sheet) (end : ℕ) (h : Stands bytes 3 (print_body L s) end)
    (P : Proper (length s.sizes) s.tables) (S : Sound (network_of s))
  where
    -- The test of one table.
    module _ (t : Table) (fits : TableFits L s.sizes t) (own : Own s.tables t) (at next : ℕ) (k : Stands bytes at (print_table L t) next) where
      second-size : option_size bytes (byte bytes (at + 1)) ≡ get_or s.sizes (t.second - 1) 0
      unfolding size_of
      second-size =
          rw (second-byte L bytes v s end h t fits at next k)
          (option_size-is L bytes v s end h t.second (let x : 1 ≤ t.second = omega (arith, fits.ordered) in x) fits.second_in)

      first-size : option_size bytes (byte bytes at) ≡ get_or s.sizes (t.first - 1) 0
      unfolding size_of
      first-size =
          rw (first_byte L bytes v s end h t fits at next k)
          (option_size-is L bytes v s end h t.first fits.first_in (let x : t.first ≤ length s.sizes = omega (arith, fits.ordered, fits.second_in) in x))

      table-paired : table_paired bytes at ≡ not (unpaired (network_of s) (t.first - 1) (t.second - 1))
      unfolding table_paired rows_paired
      table-paired =
          let i = t.first - 1 in
          let j = t.second - 1 in
          let m = get_or s.sizes i 0 in
          ap₂ (λ (x y : ℕ). rows_paired x y (table_row bytes at)) first-size second-size
          ∙ (rows_same m (get_or s.sizes j 0) (table_row bytes at) (row_for s.tables i j)
          (λ a l. table-row L bytes v s end h t fits at next k a (subst (λ (x : ℕ). a < x) (sym first-size ∙ rows_are L bytes v s end h t fits at next k) l)
          ∙ sym (own.its_row a))
          ∙ sym (ap not (tabled-unpaired s (length s.sizes) P S i j own.its_pair) ∙ not-not _))

    -- Where no table of the rest is of another kind the walk finds none, and what it finds is a place.
    pub walk_none : {ts : List Table} → All (TableFits L s.sizes) ts → All (Own s.tables) ts
        → All (λ (t : Table). unpaired (network_of s) (t.first - 1) (t.second - 1) ≡ false) ts
        → (at : ℕ) → Stands bytes at (print_all (print_table L) ts) end
        → unpaired_among bytes (length ts) at ≡ 0
    unfolding unpaired_among print_all
    walk_none All.none All.none All.none at k = refl
    walk_none (All.more {x = t} {xs = ts} f fs) (All.more o os) (All.more u us) at k =
        let next = at + length (print_table L t) in
        let front = stands-front bytes at end (print_table L t) (print_all (print_table L) ts) k in
        let back = stands-back bytes at end (print_table L t) (print_all (print_table L) ts) k in
        if-true _ _ _ (table-paired t f o at next front ∙ not-i _ u)
        ∙ (ap (unpaired_among bytes (length ts)) (next-table L bytes v s end h t f at next front) ∙ walk_none fs os us next back)

    -- What it finds lies within the bytes.
    pub walk-within : {ts : List Table} → All (TableFits L s.sizes) ts → (at : ℕ) → Stands bytes at (print_all (print_table L) ts) end
        → unpaired_among bytes (length ts) at ≤ length bytes
    unfolding unpaired_among print_all
    walk-within All.none at k = omega arith
    walk-within (All.more {x = t} {xs = ts} f fs) at k =
        let next = at + length (print_table L t) in
        let front = stands-front bytes at end (print_table L t) (print_all (print_table L) ts) k in
        let back = stands-back bytes at end (print_table L t) (print_all (print_table L) ts) k in
        by_cases (table_paired bytes at)
        (λ p. rw (if-true _ (unpaired_among bytes (length ts) (next_table bytes at)) at p, next-table L bytes v s end h t f at next front)
        (walk-within fs next back))
        (λ p. rw (if-false _ (unpaired_among bytes (length ts) (next_table bytes at)) at p) (omega (arith, front.within)))

    -- It finds the place of the first pair of another kind, that is i, j.
    module _ (i j : ℕ) (is : unpaired (network_of s) i j ≡ true) (narrow : j < 256)
        (lowest : (x y : ℕ) → y < 256 → suc x * 256 + suc y < suc i * 256 + suc j → unpaired (network_of s) x y ≡ false) where
      pub walk_first : {ts : List Table} {previous : ℕ} → All (TableFits L s.sizes) ts → All (Own s.tables) ts → Ascend previous ts
          → length s.sizes < 256
          → tabled ts i j ≡ true
          → (at : ℕ) → Stands bytes at (print_all (print_table L) ts) end
          → unpaired_among bytes (length ts) at ≡ place_among bytes (suc i) (suc j) (length ts) at
      unfolding unpaired_among print_all place_among tabled pair_of
      walk_first All.none All.none asc small e at k = absurd (false≢true e)
      walk_first (All.more {x = t} {xs = ts} f fs) (All.more o os) (Ascend.more l u) small e at k =
          let next = at + length (print_table L t) in
          let front = stands-front bytes at end (print_table L t) (print_all (print_table L) ts) k in
          let back = stands-back bytes at end (print_table L t) (print_all (print_table L) ts) k in
          let x = t.first - 1 in
          let y = t.second - 1 in
          by_cases (is_for t i j)
          (λ q.
          let sx : x ≡ i = omega (arith, (is_for-e t i j q).0) in
          let sy : y ≡ j = omega (arith, (is_for-e t i j q).1) in
          let bad : unpaired (network_of s) x y ≡ true = ap₂ (unpaired (network_of s)) sx sy ∙ is in
          if-false _ _ _ (table-paired t f o at next front ∙ not-false-i _ bad)
          ∙ sym (if-true _ _ _ (own_pair L bytes v s end h t f at next front i j ∙ q)))
          (λ q.
          let later : tabled ts i j ≡ true = tabled-cases t ts i j e (λ z. clash z q) (λ z. z) in
          let ahead : t.first * 256 + t.second < suc i * 256 + suc j =
          by_cases (ltb (t.first * 256 + t.second) (suc i * 256 + suc j))
          (λ b. ltb-true _ _ b)
          (λ b. clash later (past-untabled u i j (ltb-false _ _ b))) in
          let fine : unpaired (network_of s) x y ≡ false =
          lowest x y (omega (arith, f.second_in)) (omega (arith, f.first_in, f.ordered)) in
          if-true _ _ _ (table-paired t f o at next front ∙ not-i _ fine)
          ∙ (ap (unpaired_among bytes (length ts)) (next-table L bytes v s end h t f at next front)
          ∙ (walk_first fs os u small later next back
          ∙ sym (if-false _ _ _ (own_pair L bytes v s end h t f at next front i j ∙ q)
          ∙ ap (place_among bytes (suc i) (suc j) (length ts)) (next-table L bytes v s end h t f at next front)))))

-- ---- the first in the file, whatever the bytes are

module _ (bytes : List ℕ) where
  next-later : (at : ℕ) → 0 < next_table bytes at
  unfolding next_table
  next-later at = omega arith

  one_more : (at : ℕ) → table_paired bytes at ≡ true → (k : ℕ)
      → ((m : ℕ) → m < k → table_paired bytes (place_past bytes m (next_table bytes at)) ≡ true)
      → (m : ℕ) → m < suc k → table_paired bytes (place_past bytes m at) ≡ true
  unfolding place_past
  one_more at t k b zero h = t
  one_more at t k b (suc m) h = b m (omega arith)

  -- Where the walk finds none, all are functional both ways.
  among-paired : (p at : ℕ) → 0 < at → unpaired_among bytes p at ≡ 0 → (k : ℕ) → k < p → table_paired bytes (place_past bytes k at) ≡ true
  unfolding unpaired_among
  among-paired zero at z e k l = absurd (let x : ⊥ = omega arith in x)
  among-paired (suc p) at z e k l =
      by_cases (table_paired bytes at)
      (λ t. one_more at t p
      (among-paired p (next_table bytes at) (next-later at) (sym (if-true _ (unpaired_among bytes p (next_table bytes at)) at t) ∙ e)) k l)
      (λ t. absurd (let q : at ≡ 0 = sym (if-false _ (unpaired_among bytes p (next_table bytes at)) at t) ∙ e in let x : ⊥ = omega arith in x))

  -- The one that it finds is one of them, and those before it are.
  among_first : (p at : ℕ) → (unpaired_among bytes p at ≡ 0 → ⊥)
      → (k : ℕ) × (k < p) × (unpaired_among bytes p at ≡ place_past bytes k at) × (table_paired bytes (unpaired_among bytes p at) ≡ false)
      × ((m : ℕ) → m < k → table_paired bytes (place_past bytes m at) ≡ true)
  unfolding unpaired_among place_past
  among_first zero at n = absurd (n refl)
  among_first (suc p) at n =
      by_cases (table_paired bytes at)
      (λ t.
      let e : unpaired_among bytes (suc p) at ≡ unpaired_among bytes p (next_table bytes at) = if-true _ _ _ t in
      let (k, l, q, o, b) = among_first p (next_table bytes at) (λ z. n (e ∙ z)) in
      (suc k, omega arith, e ∙ q, ap (table_paired bytes) e ∙ o, one_more at t k b))
      (λ t.
      let e : unpaired_among bytes (suc p) at ≡ at = if-false _ _ _ t in
      (0, omega arith, e, ap (table_paired bytes) e ∙ t, λ m h. absurd (let x : ⊥ = omega arith in x)))

  pub none_other : unpaired_place bytes ≡ 0 → (k : ℕ) → k < tables bytes → table_paired bytes (place_past bytes k (first_table bytes)) ≡ true
  unfolding unpaired_place first_table
  none_other e k l = among-paired (tables bytes) (first_table bytes) (omega arith) e k l

  pub first-other : (unpaired_place bytes ≡ 0 → ⊥) → FirstOther bytes (unpaired_place bytes)
  unfolding unpaired_place
  first-other n =
      let (k, l, q, o, b) = among_first (tables bytes) (first_table bytes) n in
      record { before = k; in_file = l; stands = q; other_kind = o; all_before = b }

-- ---- what the reading call answers, by the place

-- "after all other tests of reading"
pub refused_alike : (c d : Cause) (bytes : List ℕ) (at : ℕ) → parse bytes ≡ bad d at → parse_paired c bytes ≡ bad d at
unfolding parse_paired then_paired
refused_alike c d bytes at e = ap (then_paired c (unpaired_place bytes)) e

module _ (c : Cause) (bytes : List ℕ) (s : Sheet) (end : ℕ) (e : parse bytes ≡ got s end) where
  pub no_place : unpaired_place bytes ≡ 0 → parse_paired c bytes ≡ got s end
  unfolding parse_paired then_paired
  no_place z = ap (then_paired c (unpaired_place bytes)) e ∙ if-true _ _ _ (eq-eqb _ 0 z)

  pub a-place : (unpaired_place bytes ≡ 0 → ⊥) → parse_paired c bytes ≡ bad c (unpaired_place bytes)
  unfolding parse_paired then_paired
  a-place n = ap (then_paired c (unpaired_place bytes)) e ∙ if-false _ _ _ (ne_eqb _ 0 n)

-- Of a sheet that was parsed.
module _ (bytes : List ℕ) (octets : Octets bytes) (s : Sheet) (end : ℕ) (e : parse bytes ≡ got s end) where
  read : SheetRead bytes s end
  read = parsed bytes octets s end e

  proper : Proper (length s.sizes) s.tables
  proper = tables-proper read.layout s.sizes read.body.well_formed.tables_fit read.body.well_formed.ascending

  sound : Sound (network_of s)
  sound = wellformed-sound read.layout read.usable s read.body.well_formed

  -- No place is named where all tables are functional both ways,
  pub place_none : paired (network_of s) ≡ true → unpaired_place bytes ≡ 0
  unfolding unpaired_place
  place_none p =
      let h = read.body.stands in
      let v = read.layout_found in
      let w = read.body.well_formed in
      rw (tables-counted _ bytes v s end h, first-stands _ bytes v s end h)
      (walk_none _ bytes v s end h proper sound w.tables_fit (all_own proper)
      (all_map (λ t _. paired_none (network_of s) sound p (t.first - 1) (t.second - 1)) w.tables_fit) _ (tables-stand _ bytes s end h))

  -- and it is one that an answer can hold.
  pub place-most : unpaired_place bytes ≤ longest
  unfolding unpaired_place
  place-most =
      let h = read.body.stands in
      let v = read.layout_found in
      let w = read.body.well_formed in
      let short : length bytes ≤ longest =
      subst (λ (l : List ℕ). length l ≤ longest) read.printed (largest-sheet read.layout s w read.usable) in
      let found = walk-within _ bytes v s end h proper sound w.tables_fit (4 + length s.sizes + 1) (tables-stand _ bytes s end h) in
      rw (tables-counted _ bytes v s end h, first-stands _ bytes v s end h) (omega (arith, found))

  -- Otherwise it is that of the first pair that is not.
  module _ (p : paired (network_of s) ≡ false) where
    abbrev i : ℕ
    i = unpaired_first (network_of s)

    abbrev j : ℕ
    j = unpaired_second (network_of s)

    is-unpaired : unpaired (network_of s) i j ≡ true
    is-unpaired = (first-unpaired (network_of s) sound p).0

    first-tabled : tabled s.tables i j ≡ true
    unfolding network_of unpaired
    first-tabled =
        or_elim _ _ (and_l _ _ is-unpaired) (λ t. t)
        (λ t. absurd (let x : ⊥ = omega (arith, (tabled-ordered proper j i t).0, (first-unpaired (network_of s) sound p).1) in x))

    nothing-lower : j < 256 → (x y : ℕ) → y < 256 → suc x * 256 + suc y < suc i * 256 + suc j → unpaired (network_of s) x y ≡ false
    nothing-lower b x y c l = not-true→false _ λ u.
        let a : i ≤ x = first-before (network_of s) sound x y u in
        let same : x ≡ i = omega arith in
        let d : j ≤ y = second-before (network_of s) sound y (subst (λ (z : ℕ). unpaired (network_of s) z y ≡ true) same u) in
        omega arith

    pub place-first : unpaired_place bytes ≡ table_place bytes (suc i) (suc j)
    unfolding unpaired_place table_place
    place-first =
        let h = read.body.stands in
        let v = read.layout_found in
        let w = read.body.well_formed in
        let few : length s.sizes ≤ 16 = w.most_variables in
        let in_n : j < length s.sizes = (tabled-ordered proper i j first-tabled).1 in
        let b : j < 256 = omega arith in
        rw (tables-counted _ bytes v s end h, first-stands _ bytes v s end h)
        (walk_first _ bytes v s end h proper sound i j is-unpaired b (nothing-lower b) w.tables_fit (all_own proper) w.ascending (omega arith)
        first-tabled _ (tables-stand _ bytes s end h))

    pub place-there : 0 < unpaired_place bytes
    unfolding has_table
    place-there = rw place-first (ltb-true _ _ (tables-are bytes octets s end e i j ∙ first-tabled))

  -- What the reading call answers: the sheet, or the place of the first pair of another kind.
  pub paired-accepted : (c : Cause) → paired (network_of s) ≡ true → parse_paired c bytes ≡ got s end
  paired-accepted c p = no_place c bytes s end e (place_none p)

  pub unpaired-refused : (c : Cause) → paired (network_of s) ≡ false
      → parse_paired c bytes ≡ bad c (table_place bytes (suc (unpaired_first (network_of s))) (suc (unpaired_second (network_of s))))
  unpaired-refused c p = a-place c bytes s end e (λ q. omega (arith, place-there p)) ∙ ap (bad c) (place-first p)

-- What the call accepts the old one accepts, and it is of the profile.
pub accepted_paired : (c : Cause) (bytes : List ℕ) → Octets bytes → (s : Sheet) (end : ℕ) → parse_paired c bytes ≡ got s end
    → (parse bytes ≡ got s end) × (paired (network_of s) ≡ true)
accepted_paired c bytes octets s end h =
    parse-cases (parse bytes)
    (λ d at e. absurd (bad-not-got d at (sym (refused_alike c d bytes at e) ∙ h)))
    (λ u next e. by_cases (paired (network_of u))
    (λ t. let same = sym (paired-accepted bytes octets u next e c t) ∙ h in
    (e ∙ same, subst (λ (z : Sheet). paired (network_of z) ≡ true) (got_same same) t))
    (λ t. absurd (bad-not-got c _ (sym (unpaired-refused bytes octets u next e c t) ∙ h))))
  where
    parse-cases : {A : Type 0} (p : Parse Sheet) → ((d : Cause) (at : ℕ) → p ≡ bad d at → A) → ((u : Sheet) (next : ℕ) → p ≡ got u next → A) → A
    parse-cases (got u next) f g = g u next refl
    parse-cases (bad d at) f g = f d at refl

    bad-not-got : (d : Cause) (at : ℕ) → ◌≡◌ {A = Parse Sheet} (bad d at) (got s end) → ⊥
    bad-not-got d at q = let x : ◌≡◌ {A = ℕ} 0 1 = cc in let y : ⊥ = omega arith in y

    got_same : {u : Sheet} {next : ℕ} → ◌≡◌ {A = Parse Sheet} (got u next) (got s end) → u ≡ s
    got_same q = cc

module _ (c : Cause) (bytes : List ℕ) (octets : Octets bytes) (s : Sheet) (end : ℕ) (h : parse_paired c bytes ≡ got s end) where
  -- "A sheet of this profile is never OPEN after reduction under the rule for unrelated groups, and NONE is said exactly when no build exists": of the bytes
  -- that the call accepts, after any run of legal steps, and a reduction.
  pub profile-decides : (M : Network) (k : ℕ) → Run (network_of s) M k → Decides bytes (reduce M).network
  profile-decides M k R =
      let a = accepted_paired c bytes octets s end h in
      let S = sound bytes octets s end a.0 in
      let P : Paired (network_of s) = unfold Paired in (λ x y fx fy. paired-e (network_of s) S a.1 x y) in
      decided-decides bytes octets s end a.0 (reduce M).network
      (keeps-trans (network_of s) M (reduce M).network (run-keeps S R) (run-keeps (run_sound S R) (reduce-run M)))
      (profile-decided (network_of s) M S R P)

  -- So of the sheet reduced.
  pub profile-reduced : Decides bytes (reduce (network_of s)).network
  profile-reduced = profile-decides (network_of s) 0 done
