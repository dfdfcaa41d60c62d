-- Well-formed sheets and fresh sound networks are the same things: `network_of` and `sheet_of` undo one another.
use mathlib.Core.Bool.{true, false, false≢true}
use mathlib.Core.List.{List, [], ◌∷◌, ◌++◌}
use mathlib.Core.Path.{◌≡◌, refl, sym, ◌∙◌, ap, ap₂, subst}
use Prim.Native.Nat.{ℕ, zero, suc, ◌+◌, ◌-◌, ◌*◌, ◌/◌, ◌^◌, ◌≤◌, ◌<◌}
use native.Mathlib.Omega.{arith}
use lib.Dec.{ltb}
use lib.Pow.{pow_pos, pow_mono}
use lib.ListN.{length, get_or, length-append, get_or-eq_default}
use lib.Seq.{ext_get_or}
use native.Mathlib.Nat.{mul-suc, suc-mul}
use borrow.Author.Tests.{lt-ltb, ltb-true, ltb-false}
use Rattle.bounded.specs.Bool.{if}
use Rattle.bounded.proofs.Bool.{by_cases, clash, not-true→false, and_i, and-holds}
use Rattle.bounded.specs.Table.{tabulate}
use Rattle.bounded.proofs.Table.{length-tabulate, is-table}
use Rattle.words.specs.Word.{has, word}
use Rattle.words.proofs.Laws.{has-zero, has-below, word_lt, is_word, same-members}
use Rattle.network.specs.Sound.{Sound}
use Rattle.network.specs.Network.{Network}
use Rattle.network.specs.Sheet.{Table, Sheet, is_for, tabled, row_for, network_of, collect, table_of, sheet_of, fresh}
use Rattle.network.proofs.Tables.{is_for-e, is_for-i, tabled-here, tabled-there, row_for-here, row_for-there, row_for-none, row-tabled}
use Rattle.network.proofs.SheetOf.{Same}
use Rattle.network.proofs.SheetOf.{n-sheet_of, size-sheet_of, tabled-sheet_of, row-sheet_of, tabled-network_of, row-network_of}
use Rattle.network.proofs.SheetOf.{Fits, network_of-sound}
use Rattle.format.specs.Layout.{Layout, fine, row_test, largest_size}
use Rattle.format.specs.Parse.{pair_of, size_of}
use Rattle.format.specs.WellFormed.{All, none, more, TableFits, Ascend, WellFormed}
use Rattle.format.proofs.All.{all_get_d, all-tabulate, all-collect}
use Rattle.format.proofs.Layouts.{Usable}
use Rattle.format.proofs.Lengths.{size_most}
use Rattle.format.proofs.Parse.{row-of-fine}

-- ---- look-ups

-- A look-up that finds a table finds one of the list.
found-table : {A : Type 0} {P : Table → Type 0} {ts : List Table} (i j : ℕ) → All P ts → tabled ts i j ≡ true
    → ((t : Table) → P t → t.first ≡ suc i → t.second ≡ suc j → ((a : ℕ) → row_for ts i j a ≡ get_or t.rows a 0) → A)
    → A
unfolding tabled
found-table i j none h f = absurd (false≢true h)
found-table i j (more {x = t} {xs = ts} p ps) h f =
    by_cases (is_for t i j)
    (λ e. f t p (is_for-e t i j e).0 (is_for-e t i j e).1 (λ a. row_for-here t ts i j a e))
    (λ e. found-table i j ps (sym (tabled-there t ts i j e) ∙ h) (λ u q x y r. f u q x y (λ a. row_for-there t ts i j a e ∙ r a)))

-- The pair of a table that is for i and j, as one number.
pair-for : (t : Table) (i j : ℕ) → is_for t i j ≡ true → pair_of t ≡ suc i * 256 + suc j
unfolding pair_of
pair-for t i j h = let p = is_for-e t i j h in rw (p.0, p.1)

-- The size of a variable, counted from 1 and from 0.
size_of-suc : (sizes : List ℕ) (x i : ℕ) → x ≡ suc i → size_of sizes x ≡ get_or sizes i 0
unfolding size_of
size_of-suc sizes x i h = ap (λ (k : ℕ). get_or sizes k 0) (let e : x - 1 ≡ i = omega arith in e)

-- ---- the network of a well-formed sheet

module _ (L : Layout) (U : Usable L) (sizes : List ℕ) (t : Table) (F : TableFits L sizes t) where
  -- A row is a word of the width of the second variable,
  row_lt : (j a : ℕ) → t.second ≡ suc j → get_or t.rows a 0 < 2 ^ get_or sizes j 0
  row_lt j a y =
      by_cases (ltb a (length t.rows))
      (λ l. rw (← size_of-suc sizes t.second j y) (row-of-fine _ _ _ (all_get_d F.rows_fit a 0 (ltb-true _ _ l)).0).0)
      (λ l. rw (get_or-eq_default t.rows 0 {n = a} (ltb-false _ _ l)) (pow_pos (get_or sizes j 0)))

  -- and what it allows lies within the sizes.
  row-members : (i j a b : ℕ) → t.first ≡ suc i → t.second ≡ suc j → has (get_or t.rows a 0) b ≡ true
      → (a < get_or sizes i 0) × (b < get_or sizes j 0)
  row-members i j a b x y h = (
    by_cases (ltb a (length t.rows))
        (λ l. omega (arith, ltb-true a (length t.rows) l, F.row_count, size_of-suc sizes t.first i x))
        (λ l. clash h (rw (get_or-eq_default t.rows 0 {n = a} (ltb-false _ _ l)) (has-zero b))),
    has-below (get_or sizes j 0) (get_or t.rows a 0) b h (row_lt j a y),
  )

sheet-fits : (L : Layout) → Usable L → (s : Sheet) → WellFormed L s → Fits s
sheet-fits L U s W =
    record {
      some_variable = W.some_variable;
      some_value = λ i h. (all_get_d W.sizes_fit i 0 h).0;
      pair_in = λ i j h. found-table i j W.tables_fit h (λ t F x y _. omega (arith, F.ordered, F.second_in));
      row_in = λ i j a b h. found-table i j W.tables_fit (row-tabled s.tables i j a b h) (λ t F x y r.
          row-members L U s.sizes t F i j a b x y (rw (r a) at h));
    }

-- ---- the tables of a network

-- The table of i and j.
abbrev pub table_for : Network → ℕ → ℕ → Table
table_for N i j =
    record { first = suc i; second = suc j; rows = tabulate (N.size i) (λ (a : ℕ). word (N.size j) (N.allows i j a)) }

-- What holds of the table of a stated pair holds of all that `table_of` gives.
table_of-case : (N : Network) (i j : ℕ) (P : List Table → Type 0) → (N.stated i j ≡ true → P (table_for N i j ∷ [])) → P []
    → P (table_of N i j)
unfolding table_of if
table_of-case N i j P f g = by_cases (N.stated i j) (λ t. rw t (f t)) (λ t. rw t g)

-- What holds of the table of each stated pair in order holds of all tables.
pub tables-all : (N : Network) {P : Table → Type 0} → ((i j : ℕ) → i < j → j < N.n → N.stated i j ≡ true → P (table_for N i j))
    → All P (sheet_of N).tables
unfolding sheet_of
tables-all N {P} h =
    all-collect _ N.n 0 (λ i _ _. all-collect (table_of N i) (N.n - suc i) (suc i) (λ j a b.
    table_of-case N i j (All P) (λ t. more (h i j a (omega arith) t) none) none))

-- ---- ascending pairs

ascend-from : {low lower : ℕ} {ts : List Table} → lower ≤ low → Ascend low ts → Ascend lower ts
ascend-from h none = none
ascend-from {lower = lower} h (more {t = t} l a) = let k : lower < pair_of t = omega arith in more k a

ascend-append : {low mid : ℕ} {ts us : List Table} → low ≤ mid → Ascend low ts → All (λ (t : Table). pair_of t ≤ mid) ts → Ascend mid us
    → Ascend low (ts ++ us)
ascend-append h none b c = ascend-from h c
ascend-append h (more l a) (more m b) c = more l (ascend-append m a b c)

-- Parts ascend together where each stands between its bounds.
record Between (bound : ℕ → ℕ) (f : ℕ → List Table) (l : ℕ) : Type 0 where
  pub grows : bound l ≤ bound (suc l)
  pub ascends : Ascend (bound l) (f l)
  pub stays : All (λ (t : Table). pair_of t ≤ bound (suc l)) (f l)

ascend-collect : (bound : ℕ → ℕ) (f : ℕ → List Table) (c k : ℕ) → ((l : ℕ) → k ≤ l → l < k + c → Between bound f l)
    → Ascend (bound k) (collect c k f)
unfolding collect
ascend-collect bound f zero k h = none
ascend-collect bound f (suc c) k h =
    let b : Between bound f k = h k (omega arith) (omega arith) in
    ascend-append b.grows b.ascends b.stays (ascend-collect bound f c (suc k) (λ l p q. h l (omega arith) (omega arith)))

tables-ascend : (N : Network) → N.n ≤ 16 → Ascend 0 (sheet_of N).tables
unfolding sheet_of pair_of
tables-ascend N m =
    ascend-from {low = 256} (omega arith)
    (ascend-collect (λ (i : ℕ). suc i * 256) _ N.n 0 (λ i _ below.
    record {
      grows = omega arith;
      ascends = ascend-from {low = suc i * 256 + suc i} (omega arith)
          (ascend-collect (λ (j : ℕ). suc i * 256 + j) (table_of N i) (N.n - suc i) (suc i) (λ j _ _.
          record {
            grows = omega arith;
            ascends = table_of-case N i j (Ascend _) (λ _. more (omega arith) none) none;
            stays = table_of-case N i j (All _) (λ _. more (omega arith) none) none;
          }));
      stays = all-collect (table_of N i) (N.n - suc i) (suc i) (λ j _ after. table_of-case N i j (All _) (λ _. more (omega arith) none) none);
    }))

-- ---- how many tables

length-collect : {A : Type 0} (f : ℕ → List A) (c k : ℕ) → ((l : ℕ) → length (f l) ≤ 1) → length (collect c k f) ≤ c
unfolding collect
length-collect f zero k h = omega arith
length-collect f (suc c) k h = omega (arith, length-append (f k) (collect c (suc k) f), h k, length-collect f c (suc k) h)

less_one : (c : ℕ) → suc c * (suc c - 1) ≡ suc c * c
less_one c = ap (λ (x : ℕ). suc c * x) (let e : suc c - 1 ≡ c = omega arith in e)

triangle : (c : ℕ) → c * (c - 1) + 2 * c ≡ suc c * (suc c - 1)
triangle zero = refl
triangle (suc d) = omega (arith, less_one d, less_one (suc d), mul-suc (suc (suc d)) d, suc-mul (suc d) d)

-- "p above n(n-1)/2" is never so: from variable k on there are c of them, and i has at most n - 1 - i tables with later ones.
count-tables : (N : Network) (c k : ℕ) → k + c ≡ N.n
    → 2 * length (collect c k (λ (i : ℕ). collect (N.n - suc i) (suc i) (table_of N i))) ≤ c * (c - 1)
unfolding collect
count-tables N zero k e = omega arith
count-tables N (suc c) k e =
    let own : length (collect (N.n - suc k) (suc k) (table_of N k)) ≤ N.n - suc k = length-collect (table_of N k) (N.n - suc k) (suc k)
    (λ j. table_of-case N k j (λ (ts : List Table). length ts ≤ 1) (λ _. omega arith) (omega arith)) in
    omega (
      arith,
      own,
      count-tables N c (suc k) (omega arith),
      triangle c,
      length-append (collect (N.n - suc k) (suc k) (table_of N k)) (collect c (suc k) (λ (i : ℕ). collect (N.n - suc i) (suc i) (table_of N i))),
    )

tables-count : (N : Network) → length (sheet_of N).tables ≤ N.n * (N.n - 1) / 2
unfolding sheet_of
tables-count N = omega (arith, count-tables N N.n 0 (omega arith))

-- ---- the sheet of a network is well-formed

-- What a layout takes of a network: its sizes, and the rows of its pairs.
pub record Takes (L : Layout) (N : Network) : Type 0 where
  pub sizes_taken : (i : ℕ) → N.size i ≤ L.values_at_most
  pub rows_taken : (i j a : ℕ) → i < j → N.stated i j ≡ true → a < N.size i
      → row_test L.filled (N.size j) (word (N.size j) (N.allows i j a)) ≡ fine

module _ (L : Layout) (U : Usable L) (N : Network) (S : Sound N) (few : N.n ≤ 16) (T : Takes L N) where
  -- The size of the variable i, as the sheet has it for i + 1.
  size-of : (i : ℕ) → size_of (sheet_of N).sizes (suc i) ≡ N.size i
  size-of i = size_of-suc (sheet_of N).sizes (suc i) i refl ∙ size-sheet_of N S i

  table_fits : (i j : ℕ) → i < j → j < N.n → N.stated i j ≡ true → TableFits L (sheet_of N).sizes (table_for N i j)
  table_fits i j l m t =
      record {
        first_in = omega arith;
        ordered = omega arith;
        second_in = omega (arith, n-sheet_of N);
        row_count = length-tabulate (N.size i) _ ∙ sym (size-of i);
        rows_fit = all-tabulate (N.size i) _ (λ a b. (
          rw (size-of j) (T.rows_taken i j a l t b),
          omega (arith, word_lt (N.size j) (N.allows i j a), pow_mono (T.sizes_taken j), U.room_for_row),
        ));
      }

  sizes_fit : All (λ (k : ℕ). (1 ≤ k) × (k ≤ L.values_at_most)) (sheet_of N).sizes
  unfolding sheet_of
  sizes_fit = all-tabulate N.n N.size (λ i l. (S.sizes i l, T.sizes_taken i))

  pub sheet_of-wellformed : WellFormed L (sheet_of N)
  sheet_of-wellformed =
      record {
        some_variable = omega (arith, n-sheet_of N, S.some_variable);
        most_variables = omega (arith, n-sheet_of N);
        sizes_fit = sizes_fit;
        tables_fit = tables-all N table_fits;
        ascending = tables-ascend N few;
        table_count = rw (n-sheet_of N) (tables-count N);
      }

-- ---- the sheet of the network of a sheet

-- What is found past a pair is a later one.
tabled-after : {low : ℕ} {ts : List Table} (i j : ℕ) → Ascend low ts → tabled ts i j ≡ true → low < suc i * 256 + suc j
unfolding tabled
tabled-after i j none h = absurd (false≢true h)
tabled-after i j (more {t = t} {ts = ts} l a) h =
    by_cases (is_for t i j)
    (λ e. omega (arith, pair-for t i j e))
    (λ e. omega (arith, tabled-after i j a (sym (tabled-there t ts i j e) ∙ h)))

-- Ascending lists with equal first tables have the same past them where they have the same.
same-tail : (t : Table) (ts us : List Table) (i j : ℕ) → Ascend (pair_of t) ts → Ascend (pair_of t) us → Same i j (t ∷ ts) (t ∷ us)
    → Same i j ts us
same-tail t ts us i j a b h =
    by_cases (is_for t i j)
    (λ e.
    let gone : (vs : List Table) → Ascend (pair_of t) vs → tabled vs i j ≡ false = λ vs c.
    not-true→false _ (λ x. let y : ⊥ = omega (arith, tabled-after i j c x, pair-for t i j e) in y) in
    record {
      table = gone ts a ∙ sym (gone us b);
      row = λ v. row_for-none ts i j v (gone ts a) ∙ sym (row_for-none us i j v (gone us b));
    })
    (λ e. record {
      table = sym (tabled-there t ts i j e) ∙ h.table ∙ tabled-there t us i j e;
      row = λ v. sym (row_for-there t ts i j v e) ∙ h.row v ∙ row_for-there t us i j v e;
    })

same-sym : (i j : ℕ) (ts us : List Table) → Same i j ts us → Same i j us ts
same-sym i j ts us h = record { table = sym h.table; row = λ a. sym (h.row a) }

module _ (L : Layout) (sizes : List ℕ) (few : length sizes ≤ 16) where
  -- A table that fits is for the two variables of its pair.
  is-for-own : (t : Table) → TableFits L sizes t → is_for t (t.first - 1) (t.second - 1) ≡ true
  is-for-own t F = is_for-i t _ _ (omega (arith, F.first_in)) (omega (arith, F.first_in, F.ordered))

  -- No pair of an ascending list comes before that of its first table.
  first_pair : (t u : Table) (ts us : List Table) → TableFits L sizes t → TableFits L sizes u → Ascend (pair_of u) us
      → ((i j : ℕ) → Same i j (t ∷ ts) (u ∷ us))
      → pair_of u ≤ pair_of t
  unfolding pair_of
  first_pair t u ts us F G a h =
      let i = t.first - 1 in
      let j = t.second - 1 in
      let l : pair_of u - 1 < pair_of u = omega (arith, G.first_in) in
      let before : pair_of u - 1 < suc i * 256 + suc j = tabled-after i j (more l a) (sym (h i j).table ∙ tabled-here t ts i j (is-for-own t F)) in
      omega (arith, before, F.first_in, F.ordered)

  -- So the first tables of two ascending lists with the same look-ups are equal,
  same_first : (t u : Table) (ts us : List Table) → TableFits L sizes t → TableFits L sizes u
      → Ascend (pair_of t) ts → Ascend (pair_of u) us → ((i j : ℕ) → Same i j (t ∷ ts) (u ∷ us))
      → t ≡ u
  unfolding pair_of
  same_first t u ts us F G a b h =
      let i = t.first - 1 in
      let j = t.second - 1 in
      let l : pair_of u ≤ pair_of t = first_pair t u ts us F G b h in
      let m : pair_of t ≤ pair_of u = first_pair u t us ts G F a (λ x y. same-sym x y _ _ (h x y)) in
      let first : t.first ≡ u.first = omega (arith, F.second_in, G.second_in) in
      let second : t.second ≡ u.second = omega (arith, F.second_in, G.second_in) in
      let own : is_for u i j ≡ true = rw (first, second) (is-for-own u G) in
      let rows : t.rows ≡ u.rows = ext_get_or 0 t.rows u.rows
      (F.row_count ∙ ap (size_of sizes) first ∙ sym G.row_count)
      (λ v _. sym (row_for-here t ts i j v (is-for-own t F)) ∙ (h i j).row v ∙ row_for-here u us i j v own) in
      λ k. record { first = first k; second = second k; rows = rows k }

  -- and so are the lists.
  same_tables : {low lower : ℕ} {ts us : List Table} → Ascend low ts → Ascend lower us
      → All (TableFits L sizes) ts → All (TableFits L sizes) us → ((i j : ℕ) → Same i j ts us)
      → ts ≡ us
  unfolding tabled
  same_tables none none none none h = refl
  same_tables none (more {t = u} {ts = us} m b) none (more G Gs) h = clash (tabled-here u us _ _ (is-for-own u G)) (sym (h _ _).table)
  same_tables (more {t = t} {ts = ts} l a) none (more F Fs) none h = clash (tabled-here t ts _ _ (is-for-own t F)) (h _ _).table
  same_tables (more {t = t} {ts = ts} l a) (more {t = u} {ts = us} m b) (more F Fs) (more G Gs) h =
      let e : t ≡ u = same_first t u ts us F G a b h in
      let k : (i j : ℕ) → Same i j (t ∷ ts) (t ∷ us) = subst (λ (x : Table). (i j : ℕ) → Same i j (t ∷ ts) (x ∷ us)) (sym e) h in
      let c : Ascend (pair_of t) us = subst (λ (x : Table). Ascend (pair_of x) us) (sym e) b in
      ap₂ (λ (x : Table) (xs : List Table). x ∷ xs) e (same_tables a c Fs Gs (λ i j. same-tail t ts us i j a c (k i j)))

-- Well-formed sheets with the same sizes and the same look-ups are equal.
module _ (L : Layout) (U : Usable L) where
  row-bound : (s : Sheet) → WellFormed L s → (i j a : ℕ) → row_for s.tables i j a < 2 ^ get_or s.sizes j 0
  row-bound s W i j a =
      by_cases (tabled s.tables i j)
      (λ t. found-table i j W.tables_fit t (λ u F x y r. rw (r a) (row_lt L U s.sizes u F j a y)))
      (λ t. rw (row_for-none s.tables i j a t) (pow_pos (get_or s.sizes j 0)))

  same-sheet : (s u : Sheet) → WellFormed L s → WellFormed L u → s.sizes ≡ u.sizes
      → ((i j : ℕ) → tabled s.tables i j ≡ tabled u.tables i j)
      → ((i j a b : ℕ) → has (row_for s.tables i j a) b ≡ has (row_for u.tables i j a) b)
      → s ≡ u
  same-sheet s u W X sizes tables members =
      let rows : (i j a : ℕ) → row_for s.tables i j a ≡ row_for u.tables i j a = λ i j a.
      same-members (get_or u.sizes j 0) _ _ (rw sizes at (row-bound s W i j a)) (row-bound u X i j a) (λ b _. members i j a b) in
      let same : s.tables ≡ u.tables = same_tables L u.sizes X.most_variables W.ascending X.ascending
      (rw sizes at W.tables_fit) X.tables_fit (λ i j. record { table = tables i j; row = rows i j }) in
      λ k. record { sizes = sizes k; tables = same k }

  module _ (s : Sheet) (W : WellFormed L s) where
    pub wellformed-fits : Fits s
    wellformed-fits = sheet-fits L U s W

    -- A well-formed sheet means a sound network, within the bounds,
    pub wellformed-sound : Sound (network_of s)
    wellformed-sound = network_of-sound s wellformed-fits

    pub wellformed-n : (network_of s).n ≤ 16
    unfolding network_of
    wellformed-n = W.most_variables

    pub wellformed-size : (i : ℕ) → (network_of s).size i ≤ largest_size
    unfolding network_of
    wellformed-size i = omega (arith, size_most L s W i, U.most_values)

    -- whose rows are those of the tables, so that the layout takes it again,
    row_same : (i j a : ℕ) → i < j → word ((network_of s).size j) ((network_of s).allows i j a) ≡ row_for s.tables i j a
    unfolding network_of
    row_same i j a l =
        sym (is_word (get_or s.sizes j 0) _ _ (row-bound s W i j a) (λ b _.
        sym (row-network_of s wellformed-fits i j a b) ∙ and-holds _ _ (lt-ltb i j l)))

    pub wellformed-takes : Takes L (network_of s)
    unfolding network_of
    wellformed-takes =
        record {
          sizes_taken = size_most L s W;
          rows_taken = λ i j a l t b.
              let h : tabled s.tables i j ≡ true = sym (tabled-network_of s wellformed-fits i j) ∙ and_i _ _ (lt-ltb i j l) t in
              found-table i j W.tables_fit h (λ u F x y r.
              rw (row_same i j a l, r a, ← size_of-suc s.sizes u.second j y)
              (all_get_d F.rows_fit a 0 (omega (arith, b, F.row_count, size_of-suc s.sizes u.first i x))).0);
        }

    -- and it is the sheet of its network.
    pub wellformed-sheet_of : sheet_of (network_of s) ≡ s
    unfolding network_of sheet_of
    wellformed-sheet_of =
        let F = wellformed-fits in
        let S : Sound (network_of s) = wellformed-sound in
        same-sheet (sheet_of (network_of s)) s
        (sheet_of-wellformed L U (network_of s) S wellformed-n wellformed-takes)
        W
        (sym (is-table (length s.sizes) _ s.sizes 0 refl (λ k _. refl)))
        (λ i j. tabled-sheet_of (network_of s) S i j ∙ tabled-network_of s F i j)
        (λ i j a b. row-sheet_of (network_of s) S i j a b ∙ row-network_of s F i j a b)
