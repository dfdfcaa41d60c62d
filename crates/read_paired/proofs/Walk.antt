-- The tables of an accepted sheet, one after the other: each stands within the bytes, and its rows below the size of b, so that all bits of a row count.
use mathlib.Core.Bool.{Bool, true, false}
use mathlib.Core.List.{List}
use mathlib.Core.Path.{◌≡◌, refl, sym, ap, ◌∙◌, fun_ext}
use Prim.Native.Nat.{ℕ, zero, suc, ◌+◌, ◌-◌, ◌*◌, ◌^◌, ◌≤◌, ◌<◌}
use native.Mathlib.Omega.{arith}
use lib.Dec.{eqb}
use lib.ListN.{length, get_or}
use borrow.Author.Tests.{eqb-true, eqb-false}
use Rattle.bounded.specs.Bool.{if}
use Rattle.bounded.proofs.Bool.{by_cases, if-true, if-false}
use Rattle.words.specs.Word.{width}
use Rattle.network.specs.Sheet.{Table, Sheet}
use Rattle.format.specs.Layout.{Layout, found, unknown, layout_of, version1, version2, version3}
use Rattle.format.specs.Parse.{Octets, number_at, size_of}
use Rattle.format.specs.Print.{print_all, print_table, print_body}
use Rattle.format.specs.WellFormed.{All, TableFits, WellFormed}
use Rattle.format.specs.Builds.{width_in, byte, options, option_size, tables, first_table, table_row, next_table}
use Rattle.format.specs.Profile.{rows_paired, table_paired, unpaired_among, unpaired_place}
use Rattle.format.proofs.All.{all_get_d}
use Rattle.format.proofs.Layouts.{Usable, version1-found, version2-found, version3-found, other-unknown}
use Rattle.format.proofs.Numbers.{Stands, stands-front, stands-back}
use Rattle.format.proofs.Parse.{row-of-fine}
use Rattle.format.proofs.RoundTrip.{parsed, tables-stand, table-count-stands}
use Rattle.format.proofs.Builds.{option_size-is, tables-counted, first-stands, row_width-is, big_endian-is, first_byte, second-byte, rows_are, next-table, table-row}
use Rattle.read_number.specs.Bytes.{RowBytes}
use Rattle.read_paired.specs.Accepted.{Accepted}
use Rattle.read_paired.proofs.OnePass.{rows-widen}

-- What the walk needs of the table whose pair stands at a place, rows having k bytes.
pub record TableAt (bytes : List ℕ) (k at : ℕ) : Type 0 where
  pub size_in : 3 + byte bytes at < length bytes
  pub rows_in : at + 2 + k * option_size bytes (byte bytes at) ≤ length bytes
  pub told : table_paired bytes at ≡ rows_paired (option_size bytes (byte bytes at)) width (λ (a : ℕ). number_at k bytes (at + 2 + k * a))
  pub next_is : next_table bytes at ≡ at + 2 + k * option_size bytes (byte bytes at)

-- So many tables, the first at a place.
pub data Walk (bytes : List ℕ) (k : ℕ) : ℕ → ℕ → Type 0 where
  none : {at : ℕ} → Walk bytes k zero at
  more : {m at : ℕ} → TableAt bytes k at → Walk bytes k m (next_table bytes at) → Walk bytes k (suc m) at

-- ---- of a sheet that stands in the bytes

module _
    (L : Layout) (usable : Usable L) (bytes : List ℕ) (v : layout_of (get_or bytes 0 0) ≡ found L) (s : Sheet) (end : ℕ) (h : Stands bytes 3 (print_body L s) end)
    (w : WellFormed L s)
  where
    module _ (t : Table) (fits : TableFits L s.sizes t) (at next : ℕ) (k : Stands bytes at (print_table L t) next) where
      row_same : (a : ℕ) → table_row bytes at a ≡ number_at L.bytes_per_row bytes (at + 2 + L.bytes_per_row * a)
      unfolding table_row
      row_same a = rw (row_width-is L bytes v s end h) (big_endian-is bytes L.bytes_per_row (at + 2 + L.bytes_per_row * a))

      second-size : option_size bytes (byte bytes (at + 1)) ≡ size_of s.sizes t.second
      second-size =
          ap (option_size bytes) (second-byte L bytes v s end h t fits at next k)
          ∙ option_size-is L bytes v s end h t.second (omega (arith, fits.ordered)) fits.second_in

      second-few : option_size bytes (byte bytes (at + 1)) ≤ width
      unfolding size_of
      second-few =
          let e : option_size bytes (byte bytes (at + 1)) ≡ get_or s.sizes (t.second - 1) 0 = second-size in
          omega (arith, all_get_d w.sizes_fit (t.second - 1) 0 (omega (arith, fits.ordered, fits.second_in)), usable.most_values)

      rows-below : (a : ℕ) → a < option_size bytes (byte bytes at) → table_row bytes at a < 2 ^ option_size bytes (byte bytes (at + 1))
      rows-below a l =
          let m : a < length t.rows = omega (arith, rows_are L bytes v s end h t fits at next k) in
          rw (table-row L bytes v s end h t fits at next k a m, second-size) (row-of-fine _ _ _ (all_get_d fits.rows_fit a 0 m).0).0

      next-same : next_table bytes at ≡ at + 2 + L.bytes_per_row * option_size bytes (byte bytes at)
      unfolding next_table
      next-same = ap (λ (x : ℕ). at + 2 + x * option_size bytes (byte bytes at)) (row_width-is L bytes v s end h)

      pub table_at : TableAt bytes L.bytes_per_row at
      unfolding table_paired
      table_at =
          record {
            size_in =
                omega (arith, first_byte L bytes v s end h t fits at next k, fits.ordered, fits.second_in, (table-count-stands L bytes s end h).within);
            rows_in = omega (arith, next-same, next-table L bytes v s end h t fits at next k, k.within);
            told = rows-widen _ _ width (table_row bytes at) second-few rows-below ∙ ap (rows_paired (option_size bytes (byte bytes at)) width) (fun_ext row_same);
            next_is = next-same;
          }

    walk_of : {ts : List Table} → All (TableFits L s.sizes) ts → (at : ℕ) → Stands bytes at (print_all (print_table L) ts) end
        → Walk bytes L.bytes_per_row (length ts) at
    unfolding print_all
    walk_of All.none at k = none
    walk_of (All.more {x = t} {xs = ts} f fs) at k =
        let next = at + length (print_table L t) in
        let front = stands-front bytes at end (print_table L t) (print_all (print_table L) ts) k in
        let back = stands-back bytes at end (print_table L t) (print_all (print_table L) ts) k in
        more {m = length ts} (table_at t f at next front) (rw (next-table L bytes v s end h t f at next front) (walk_of fs next back))

-- ---- of an accepted sheet

-- What the walk begins with.
pub record Begin (bytes : List ℕ) (k : ℕ) : Type 0 where
  pub row_bytes : RowBytes k
  pub header_in : first_table bytes ≤ length bytes
  pub walk : Walk bytes k (tables bytes) (first_table bytes)

-- Rows of two bytes in version 1, and of four in those after it.
bytes-by-version : (v : ℕ) (L : Layout) → layout_of v ≡ found L → L.bytes_per_row ≡ if (eqb v 1) 2 4
unfolding width_in version1 version2 version3
bytes-by-version v L h =
    by_cases (eqb v 1)
    (λ t. ap width_in (sym h ∙ version1-found v (eqb-true v 1 t)) ∙ sym (if-true _ _ _ t))
    (λ t. by_cases (eqb v 2)
    (λ u. ap width_in (sym h ∙ version2-found v (eqb-true v 2 u)))
    (λ u. by_cases (eqb v 3)
    (λ x. ap width_in (sym h ∙ version3-found v (eqb-true v 3 x)))
    (λ x. absurd (none_found (sym h ∙ other-unknown v (eqb-false v 1 t) (eqb-false v 2 u) (eqb-false v 3 x)))))
    ∙ sym (if-false _ _ _ t))
  where
    none_found : found L ≡ unknown → ⊥
    none_found e = let z : ◌≡◌ {A = ℕ} 0 1 = cc in let y : ⊥ = omega arith in y

two-or-four : (b : Bool) → RowBytes (if b 2 4)
unfolding if
two-or-four true = omega arith
two-or-four false = omega arith

pub begins : (bytes : List ℕ) → Octets bytes → Accepted bytes → {k : ℕ} → k ≡ if (eqb (get_or bytes 0 0) 1) 2 4 → Begin bytes k
begins bytes octets A {k} e =
    let R = parsed bytes octets A.sheet A.end A.read in
    let L = R.layout in
    let v = R.layout_found in
    let h = R.body.stands in
    let s = A.sheet in
    let same : L.bytes_per_row ≡ k = bytes-by-version (get_or bytes 0 0) L v ∙ sym e in
    let all : Walk bytes L.bytes_per_row (tables bytes) (first_table bytes) =
    rw (tables-counted L bytes v s A.end h, first-stands L bytes v s A.end h)
    (walk_of L R.usable bytes v s A.end h R.body.well_formed R.body.well_formed.tables_fit _ (tables-stand L bytes s A.end h)) in
    record {
      row_bytes = rw e (two-or-four _);
      header_in = rw (first-stands L bytes v s A.end h) (table-count-stands L bytes s A.end h).within;
      walk = rw same at all;
    }

-- ---- the loop: q of the tables have been passed

pub record Walking (bytes : List ℕ) (k q at : ℕ) : Type 0 where
  pub passed : q ≤ tables bytes
  pub rest : Walk bytes k (tables bytes - q) at
  pub place_is : unpaired_among bytes (tables bytes - q) at ≡ unpaired_place bytes

walk_here : {bytes : List ℕ} {k m at : ℕ} → Walk bytes k m at → 0 < m → TableAt bytes k at
walk_here none l = absurd (let x : ⊥ = omega arith in x)
walk_here (more T W) l = T

walk-on : {bytes : List ℕ} {k m at : ℕ} → Walk bytes k m at → (r : ℕ) → m ≡ suc r → Walk bytes k r (next_table bytes at)
walk-on none r e = absurd (let x : ⊥ = omega arith in x)
walk-on {bytes} {k} {at = at} (more {m = m} T W) r e = let same : m ≡ r = omega arith in rw same at W

module _ (bytes : List ℕ) (k : ℕ) where
  pub walking-none : {at : ℕ} → Begin bytes k → at ≡ first_table bytes → Walking bytes k 0 at
  unfolding unpaired_place
  walking-none B e =
      let z : tables bytes - 0 ≡ tables bytes = omega arith in
      rw e (record { passed = omega arith; rest = rw z B.walk; place_is = rw z refl })

  module _ {q at : ℕ} (W : Walking bytes k q at) where
    pub table_here : q < tables bytes → TableAt bytes k at
    table_here l = walk_here W.rest (omega arith)

    left_over : q < tables bytes → tables bytes - q ≡ suc (tables bytes - (q + 1))
    left_over l = omega arith

    -- The first table of another kind is the one that is named,
    pub walking_here : q < tables bytes → table_paired bytes at ≡ false → at ≡ unpaired_place bytes
    unfolding unpaired_among
    walking_here l f = sym (if-false _ _ _ f) ∙ (ap (λ (m : ℕ). unpaired_among bytes m at) (sym (left_over l)) ∙ W.place_is)

    -- and one of the profile is passed.
    pub walking-more : q < tables bytes → table_paired bytes at ≡ true → {next : ℕ} → next ≡ next_table bytes at → Walking bytes k (q + 1) next
    unfolding unpaired_among
    walking-more l t e =
        rw e
        (record {
          passed = omega arith;
          rest = walk-on W.rest _ (left_over l);
          place_is = sym (if-true _ _ _ t) ∙ (ap (λ (m : ℕ). unpaired_among bytes m at) (sym (left_over l)) ∙ W.place_is);
        })

    pub walking-end : tables bytes ≤ q → 0 ≡ unpaired_place bytes
    unfolding unpaired_among
    walking-end l = let z : tables bytes - q ≡ 0 = omega arith in rw z at W.place_is

-- What the bytes that are read there say: a is the first of the pair, and so many rows follow.
pub record Here (bytes : List ℕ) (k at rows : ℕ) : Type 0 where
  pub room : at + 2 + k * rows ≤ length bytes
  pub told : table_paired bytes at ≡ rows_paired rows width (λ (a : ℕ). number_at k bytes (at + 2 + k * a))
  pub next : next_table bytes at ≡ at + 2 + k * rows

module _ (bytes : List ℕ) where
  pub size_room : {k at a : ℕ} → TableAt bytes k at → a ≡ get_or bytes at 0 → 3 + a < length bytes
  unfolding byte
  size_room {at = at} T e = let l : 3 + get_or bytes at 0 < length bytes = T.size_in in omega arith

  pub rows-here : {k at a rows : ℕ} → TableAt bytes k at → a ≡ get_or bytes at 0 → rows ≡ get_or bytes (3 + a) 0 → Here bytes k at rows
  unfolding byte option_size
  rows-here {k} {at} {a} {rows} T ae re =
      let same : option_size bytes (byte bytes at) ≡ rows = sym (re ∙ ap (λ (x : ℕ). get_or bytes (3 + x) 0) ae) in
      record {
        room = rw same at T.rows_in;
        told = rw same at T.told;
        next = rw same at T.next_is;
      }

  -- It is a byte.
  pub rows_few : {rows : ℕ} (a : ℕ) → Octets bytes → rows ≡ get_or bytes (3 + a) 0 → rows < 256
  rows_few a octets e = omega (arith, octets (3 + a))

  -- The bytes before the tables.
  pub header-room : Octets bytes → Accepted bytes → 5 + get_or bytes 3 0 ≤ length bytes
  unfolding first_table options byte
  header-room octets A = (begins bytes octets A refl).header_in

  pub count-read : {n p : ℕ} → n ≡ get_or bytes 3 0 → p ≡ get_or bytes (4 + n) 0 → p ≡ tables bytes
  unfolding tables options byte
  count-read ne pe = pe ∙ ap (λ (x : ℕ). get_or bytes (4 + x) 0) ne

  pub first_read : {n : ℕ} → n ≡ get_or bytes 3 0 → 5 + n ≡ first_table bytes
  unfolding first_table options byte
  first_read ne = ap (λ (x : ℕ). 5 + x) ne
