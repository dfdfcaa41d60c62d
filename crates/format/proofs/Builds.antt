-- The tables and the builds read off a sheet's bytes are the tables and the solutions of the network that the parser gets.
use mathlib.Core.Bool.{true, false}
use mathlib.Core.List.{List, [], ◌∷◌}
use mathlib.Core.Path.{◌≡◌, refl, sym, ◌∙◌, ap}
use Prim.Native.Nat.{ℕ, zero, suc, ◌+◌, ◌-◌, ◌*◌, ◌^◌, ◌≤◌, ◌<◌}
use native.Mathlib.Nat.{add-zero, mul-zero, mul-suc, mul_assoc, add-mul, pow-suc}
use native.Mathlib.Omega.{arith}
use lib.Dec.{eqb, ltb}
use lib.ListN.{length, get_or}
use borrow.Author.Tests.{lt-ltb, ltb-true}
use Rattle.bounded.specs.Bool.{and}
use Rattle.bounded.specs.Fold.{every}
use Rattle.bounded.proofs.Bool.{by_cases, clash, not-true→false, if-true, if-false, and-cong, or-false-i}
use Rattle.bounded.proofs.Fold.{every-e, every-cong}
use Rattle.words.specs.Word.{has}
use Rattle.network.specs.Network.{solves}
use Rattle.network.specs.Sheet.{Table, Sheet, is_for, tabled, row_for, network_of}
use Rattle.network.proofs.Sheet.{Proper, proper_none, proper_more, allowed_by, all_allow, solves-sheet}
use Rattle.network.proofs.Tables.{is_for-e, tabled-here, tabled-there, row_for-here, row_for-there}
use Rattle.format.specs.Layout.{Layout, Test, found, layout_of}
use Rattle.format.specs.Parse.{Octets, got, number_at, pair_of, size_of, parse}
use Rattle.format.specs.Print.{bytes_of, print_all, print_table, print_body}
use Rattle.format.specs.WellFormed.{All, TableFits, Ascend}
use Rattle.format.specs.Builds.{width_in, byte, options, option_size, tables, first_table, row_width, big_endian, table_row, next_table, place_among, table_place, has_table}
use Rattle.format.specs.Builds.{table_allows, tables_allow, is_a_build, is_build_of}
use Rattle.format.proofs.Numbers.{Stands, stands-front, stands-back, stands_at, length-bytes_of, number-of-bytes}
use Rattle.format.proofs.Lengths.{length-rows}
use Rattle.format.proofs.RoundTrip.{FieldFits, count-stands, sizes-stand, table-count-stands, tables-stand, SheetRead, parsed}

-- Tables that ascend are of different pairs.
pub past-untabled : {previous : ℕ} {ts : List Table} → Ascend previous ts → (i j : ℕ) → suc i * 256 + suc j ≤ previous → tabled ts i j ≡ false
unfolding tabled pair_of
past-untabled Ascend.none i j h = refl
past-untabled (Ascend.more {t = t} l u) i j h =
    or-false-i _ _
    (not-true→false _ λ e. let x : ⊥ = omega (arith, (is_for-e t i j e).0, (is_for-e t i j e).1) in x)
    (past-untabled u i j (omega arith))

pub tables-proper : (L : Layout) (sizes : List ℕ) {previous : ℕ} {ts : List Table} → All (TableFits L sizes) ts → Ascend previous ts
    → Proper (length sizes) ts
unfolding pair_of
tables-proper L sizes All.none Ascend.none = proper_none
tables-proper L sizes {previous = previous} (All.more f fs) (Ascend.more {t = t} l u) =
    proper_more f.first_in f.ordered f.second_in
    (λ i j (e : is_for t i j ≡ true). past-untabled u i j (omega (arith, (is_for-e t i j e).0, (is_for-e t i j e).1)))
    (tables-proper L sizes {previous = pair_of t} fs u)

-- Where each of the rows of k bytes stands.
module _ (bytes : List ℕ) where
  row_at : (k : ℕ) (test : ℕ → Test) {rows : List ℕ} → All (FieldFits k test) rows → (at next : ℕ)
      → Stands bytes at (print_all (bytes_of k) rows) next
      → (a : ℕ)
      → a < length rows
      → number_at k bytes (at + k * a) ≡ get_or rows a 0
  unfolding print_all
  row_at k test All.none at next h a l = absurd (let x : ⊥ = omega arith in x)
  row_at k test (All.more {x = r} {xs = rs} f fs) at next h zero l =
      rw (mul-zero k, add-zero at) (number-of-bytes k r bytes at _ f.1 (stands-front bytes at next (bytes_of k r) (print_all (bytes_of k) rs) h))
  row_at k test (All.more {x = r} {xs = rs} f fs) at next h (suc a) l =
      let mid = at + length (bytes_of k r) in
      let e : at + k * suc a ≡ mid + k * a = omega (arith, length-bytes_of k r, mul-suc k a) in
      rw e (row_at k test fs mid next (stands-back bytes at next (bytes_of k r) (print_all (bytes_of k) rs) h) a (omega arith))

  -- A number by its last byte and by its first is the same.
  number-last : (k at : ℕ) → number_at (suc k) bytes at ≡ number_at k bytes at * 256 + byte bytes (at + k)
  unfolding number_at byte
  number-last zero at = rw (add-zero at) (omega arith)
  number-last (suc k) at =
      let b = get_or bytes at 0 in
      let e : suc at + k ≡ at + suc k = omega arith in
      let ih = rw e at (number-last k (suc at)) in
      let p : b * 256 ^ suc k ≡ b * 256 ^ k * 256 = rw (pow-suc 256 k) (sym (mul_assoc b (256 ^ k) 256)) in
      omega (arith, ih, p, add-mul (b * 256 ^ k) (number_at k bytes (suc at)) 256)

  pub big_endian-is : (k at : ℕ) → big_endian bytes k at ≡ number_at k bytes at
  unfolding big_endian
  big_endian-is zero at = unfold number_at in refl
  big_endian-is (suc k) at = rw (big_endian-is k at) (sym (number-last k at))

-- The walk over the bytes of a sheet and the list of its tables go together.
module _
    (L : Layout) (bytes : List ℕ) (v : layout_of (get_or bytes 0 0) ≡ found L) (s : Sheet) (end : ℕ) (h : Stands bytes 3 (print_body L s) end)
  where
    pub options-stand : options bytes ≡ length s.sizes
    unfolding options byte
    options-stand = stands_at bytes 3 4 (length s.sizes ∷ []) (count-stands L bytes s end h) 0 (omega arith)

    pub option_size-is : (x : ℕ) → 1 ≤ x → x ≤ length s.sizes → option_size bytes x ≡ size_of s.sizes x
    unfolding option_size byte size_of
    option_size-is x l m =
        let e : 3 + x ≡ 4 + (x - 1) = omega arith in
        rw e (stands_at bytes 4 (4 + length s.sizes) s.sizes (sizes-stand L bytes s end h) (x - 1) (omega arith))

    pub tables-counted : tables bytes ≡ length s.tables
    unfolding tables byte
    tables-counted =
        rw (options-stand, ← add-zero (4 + length s.sizes))
        (stands_at bytes (4 + length s.sizes) _ (length s.tables ∷ []) (table-count-stands L bytes s end h) 0 (omega arith))

    pub first-stands : first_table bytes ≡ 4 + length s.sizes + 1
    unfolding first_table
    first-stands = rw options-stand (omega arith)

    pub row_width-is : row_width bytes ≡ L.bytes_per_row
    unfolding row_width byte width_in
    row_width-is = rw v

    module _ (t : Table) (fits : TableFits L s.sizes t) (at next : ℕ) (k : Stands bytes at (print_table L t) next) where
      pub first_byte : byte bytes at ≡ t.first
      unfolding byte print_table
      first_byte = rw add-zero at (stands_at bytes at next (print_table L t) k 0 (omega arith))

      pub second-byte : byte bytes (at + 1) ≡ t.second
      unfolding byte print_table
      second-byte = stands_at bytes at next (print_table L t) k 1 (omega arith)

      rows-stand : Stands bytes (at + 2) (print_all (bytes_of L.bytes_per_row) t.rows) next
      unfolding print_table
      rows-stand = stands-back bytes at next (t.first ∷ (t.second ∷ [])) (print_all (bytes_of L.bytes_per_row) t.rows) k

      pub rows_are : option_size bytes (byte bytes at) ≡ length t.rows
      rows_are =
          rw first_byte (option_size-is t.first fits.first_in (omega arith) ∙ sym fits.row_count)

      pub next-table : next_table bytes at ≡ next
      unfolding next_table
      next-table = rw (row_width-is, rows_are) (omega (arith, length-rows L.bytes_per_row t.rows, rows-stand.ends))

      pub table-row : (a : ℕ) → a < length t.rows → table_row bytes at a ≡ get_or t.rows a 0
      unfolding table_row
      table-row a l = rw (row_width-is, big_endian-is) (row_at bytes L.bytes_per_row _ fits.rows_fit (at + 2) next rows-stand a l)

      table-allows : (f : ℕ → ℕ) → f (t.first - 1) < length t.rows → table_allows bytes f at ≡ allowed_by f t
      unfolding table_allows allowed_by
      table-allows f l = rw (first_byte, second-byte) (ap (λ (row : ℕ). has row (f (t.second - 1))) (table-row (f (t.first - 1)) l))

      pub own_pair : (i j : ℕ) → and (eqb (byte bytes at) (suc i)) (eqb (byte bytes (at + 1)) (suc j)) ≡ is_for t i j
      unfolding is_for
      own_pair i j = rw (first_byte, second-byte)

      pub own-rows : (i j a : ℕ) → is_for t i j ≡ true → a < get_or s.sizes i 0 → a < length t.rows
      unfolding size_of
      own-rows i j a e b =
          let same : t.first - 1 ≡ i = omega (arith, (is_for-e t i j e).0) in
          rw (fits.row_count, same) b

    tables-allow : (f : ℕ → ℕ) → ((i : ℕ) → i < length s.sizes → f i < get_or s.sizes i 0)
        → {ts : List Table}
        → All (TableFits L s.sizes) ts
        → (at : ℕ) → Stands bytes at (print_all (print_table L) ts) end
        → tables_allow bytes f (length ts) at ≡ all_allow f ts
    unfolding tables_allow all_allow print_all size_of
    tables-allow f below All.none at k = refl
    tables-allow f below (All.more {x = t} {xs = ts} fits rest) at k =
        let next = at + length (print_table L t) in
        let front = stands-front bytes at end (print_table L t) (print_all (print_table L) ts) k in
        let back = stands-back bytes at end (print_table L t) (print_all (print_table L) ts) k in
        let value : f (t.first - 1) < length t.rows =
        rw fits.row_count (below (t.first - 1) (omega arith)) in
        rw (table-allows t fits at next front f value, next-table t fits at next front, tables-allow f below rest next back)

    values-below : (f : ℕ → ℕ) → every (options bytes) (λ (i : ℕ). ltb (f i) (option_size bytes (i + 1)))
        ≡ every (length s.sizes) (λ (i : ℕ). ltb (f i) (get_or s.sizes i 0))
    unfolding size_of
    values-below f =
        rw options-stand
        (every-cong (length s.sizes) _ _ λ i l.
        let e : i + 1 - 1 ≡ i = omega arith in
        ap (ltb (f i)) (option_size-is (i + 1) (omega arith) (omega arith) ∙ rw e))

    -- The place of a pair among tables finds the table that a look-up finds.
    record PlaceOf (ts : List Table) (i j place : ℕ) : Type 0 where
      there : ltb 0 place ≡ tabled ts i j
      row : tabled ts i j ≡ true → (a : ℕ) → a < get_or s.sizes i 0 → table_row bytes place a ≡ row_for ts i j a

    places : (i j : ℕ) {ts : List Table} → All (TableFits L s.sizes) ts → (at : ℕ) → 0 < at → Stands bytes at (print_all (print_table L) ts) end
        → PlaceOf ts i j (place_among bytes (suc i) (suc j) (length ts) at)
    unfolding place_among tabled print_all
    places i j All.none at l k = record { there = refl; row = λ t. clash t refl }
    places i j (All.more {x = t} {xs = ts} fits rest) at l k =
        let next = at + length (print_table L t) in
        let front = stands-front bytes at end (print_table L t) (print_all (print_table L) ts) k in
        let back = stands-back bytes at end (print_table L t) (print_all (print_table L) ts) k in
        by_cases (is_for t i j)
        (λ e. rw (if-true _ at (place_among bytes (suc i) (suc j) (length ts) (next_table bytes at)) (own_pair t fits at next front i j ∙ e))
        (record {
          there = lt-ltb 0 at l ∙ sym (tabled-here t ts i j e);
          row = λ _ a b. table-row t fits at next front a (own-rows t fits at next front i j a e b) ∙ sym (row_for-here t ts i j a e);
        }))
        (λ e. rw (if-false _ at (place_among bytes (suc i) (suc j) (length ts) (next_table bytes at)) (own_pair t fits at next front i j ∙ e), next-table t fits at next front)
        (let p : PlaceOf ts i j (place_among bytes (suc i) (suc j) (length ts) next) = places i j rest next (omega arith) back in
        record {
          there = p.there ∙ sym (tabled-there t ts i j e);
          row = λ x a b. p.row (sym (tabled-there t ts i j e) ∙ x) a b ∙ sym (row_for-there t ts i j a e);
        }))

-- A sheet that was parsed.
module _ (bytes : List ℕ) (octets : Octets bytes) (s : Sheet) (end : ℕ) (e : parse bytes ≡ got s end) where
  read : SheetRead bytes s end
  read = parsed bytes octets s end e

  -- The number of variables and their sizes, read off the bytes, are those of the network.
  pub options-are : options bytes ≡ (network_of s).n
  unfolding network_of
  options-are = options-stand _ bytes read.layout_found s end read.body.stands

  pub option-sizes-are : (i : ℕ) → i < (network_of s).n → option_size bytes (i + 1) ≡ (network_of s).size i
  unfolding network_of size_of
  option-sizes-are i l =
      let same : i + 1 - 1 ≡ i = omega arith in
      option_size-is _ bytes read.layout_found s end read.body.stands (i + 1) (omega arith) (omega arith) ∙ rw same

  -- The tables found in the bytes are those of the sheet, and so are their rows.
  place_of : (i j : ℕ) → PlaceOf _ bytes read.layout_found s end read.body.stands s.tables i j (table_place bytes (suc i) (suc j))
  unfolding table_place
  place_of i j =
      let h = read.body.stands in
      let v = read.layout_found in
      rw (tables-counted _ bytes v s end h, first-stands _ bytes v s end h)
      (places _ bytes v s end h i j read.body.well_formed.tables_fit _ (omega arith) (tables-stand _ bytes s end h))

  pub tables-are : (i j : ℕ) → has_table bytes (suc i) (suc j) ≡ tabled s.tables i j
  unfolding has_table
  tables-are i j = (place_of i j).there

  pub rows-are-read : (i j a : ℕ) → has_table bytes (suc i) (suc j) ≡ true → a < (network_of s).size i
      → table_row bytes (table_place bytes (suc i) (suc j)) a ≡ row_for s.tables i j a
  unfolding network_of
  rows-are-read i j a t l = (place_of i j).row (sym (tables-are i j) ∙ t) a l

  -- "A build of a sheet is read off its bytes alone": the builds of the bytes are the solutions of the network that was read from them.
  pub builds-solve : (f : ℕ → ℕ) → is_a_build bytes f ≡ solves (network_of s) f
  unfolding is_a_build
  builds-solve f =
      let w = read.body.well_formed in
      let h = read.body.stands in
      let v = read.layout_found in
      let n = length s.sizes in
      rw (values-below _ bytes v s end h f, tables-counted _ bytes v s end h, first-stands _ bytes v s end h)
      (and-cong _ _ _ (λ t. tables-allow _ bytes v s end h f (λ i l. ltb-true _ _ (every-e n _ t i l)) w.tables_fit (4 + n + 1)
      (tables-stand _ bytes s end h)))
      ∙ sym (solves-sheet s f (tables-proper _ s.sizes w.tables_fit w.ascending))

  -- "It is n bytes, one for each option": the builds as lists of bytes.
  pub builds-are-solutions : (build : List ℕ)
      → is_build_of bytes build ≡ and (eqb (length build) (network_of s).n) (solves (network_of s) (λ (i : ℕ). get_or build i 0))
  unfolding is_build_of
  builds-are-solutions build = rw (options-are, builds-solve (λ (i : ℕ). get_or build i 0))
