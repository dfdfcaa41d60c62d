-- The body of a sheet, field after field: what each answer makes of the parse, and that the arrays hold the sheet in the end.
use mathlib.Core.Bool.{Bool}
use mathlib.Core.List.{List, []}
use mathlib.Core.Path.{◌≡◌, sym, ◌∙◌}
use Prim.Native.Nat.{ℕ, ◌-◌, ◌*◌, ◌/◌, ◌≤◌, ◌<◌}
use native.Mathlib.Nat.{mul-le-mul}
use native.Mathlib.Omega.{arith}
use mir.Syntax.{w64}
use mir.Val.{Fits}
use lib.Dec.{ltb}
use lib.ListN.{length, get_or, take, get_or-eq_default}
use lib.Seq.{get_or-take}
use borrow.Author.Tests.{lt-ltb, le-ltb, ltb-true, ltb-false}
use Rattle.bounded.specs.Table.{tabulate}
use Rattle.bounded.proofs.Bool.{by_cases, if-true, if-false}
use Rattle.bounded.proofs.Table.{is-table}
use Rattle.words.specs.Word.{width}
use Rattle.cause.specs.declared.Cause.{Cause}
use Rattle.cause.specs.declared.Cause.TheVariants.{VariableCount, ConstraintCount, Extent}
use Rattle.network.specs.Sheet.{Table, Sheet, network_of}
use Rattle.pairs.specs.Pairs.{variables}
use Rattle.pairs.proofs.Laws.{rows-rule}
use Rattle.std.specs.Prelude.{Result, Ok, Err}
use Rattle.cause.specs.declared.Refusal.{Refusal}
use Rattle.read_field.specs.declared.field.Field.{Field}
use Rattle.format.specs.Layout.{Layout, size_test, constraints_test}
use Rattle.format.specs.Parse.{Parse, got, bad, bind, field, fields, parse_tables, ended, parse_body}
use Rattle.read_field.specs.Fields.{read_as, range_test}
use Rattle.read_tables.specs.Tables.{RowsIn, Sized, Held, TablesRead}
use Rattle.read_tables.proofs.TablesLoop.{taken-length}
use Rattle.read_body.specs.Reading.{SizesRead, Holds, SheetRead}
use Rattle.read_field.proofs.Fields.{field-got, count-range, constraints-range, range-passed, as-got, as-bad, no_value}

-- ---- the arrays hold the sheet

-- The sizes past n are zero, so the array is that of the first n.
sizes-held : (n : ℕ) (sizes : List ℕ) → Sized n sizes → n ≤ variables → sizes ≡ tabulate variables (λ (i : ℕ). get_or (take n sizes) i 0)
sizes-held n sizes sized few =
    is-table variables _ sizes 0 sized.length_is
    (λ k l. by_cases (ltb k n)
    (λ h. sym (get_or-take n sizes k 0 (ltb-true k n h)))
    (λ h. sized.past k (ltb-false k n h)
    ∙ sym (get_or-eq_default (take n sizes) 0 (omega (arith, taken-length sized few, ltb-false k n h)))))

sheet-held : (n last : ℕ) (sizes : List ℕ) (tables : List Table) (stated rows : List ℕ) → Sized n sizes → n ≤ variables → Held tables last stated rows
    → Holds (record { sizes = take n sizes; tables = tables }) sizes stated rows
unfolding network_of
sheet-held n last sizes tables stated rows sized few held =
    record {
      sizes_are = sizes-held n sizes sized few;
      stated_are = is-table variables _ stated 0 held.stated_length held.stated_are;
      rows_are = rows-rule width _ rows held.rows_length held.rows_words held.rows_are;
    }

-- ---- the body, field after field

-- n(n-1) fits a machine word.
pub pairs-fit : (n : ℕ) → n ≤ variables → Fits w64 (n * (n - 1))
pairs-fit n h = let l : n - 1 ≤ 15 = omega arith in let b : n * (n - 1) ≤ 16 * 15 = mul-le-mul h l in omega arith

-- A refusal, whatever the arrays hold.
pub sheet-refused : (p : Parse Sheet) (sizes stated rows : List ℕ) (c : Cause) (at : ℕ) → p ≡ bad c at → SheetRead p sizes stated rows (Err (record { cause = c; place = at }))
unfolding read_as
sheet-refused p sizes stated rows c at e =
    record {
      sheet = record { sizes = []; tables = [] };
      parsed = e;
      count_is = λ count. no_value _ count;
      holds = λ count. no_value _ count;
    }

-- What is left to parse after the sizes, after p and after the tables.
pub after_tables : List ℕ → List ℕ → List Table → ℕ → Parse Sheet
after_tables bytes sizes tables next = ended (record { sizes = sizes; tables = tables }) bytes next

pub after_constraints : Layout → List ℕ → List ℕ → ℕ → ℕ → Parse Sheet
after_constraints L bytes sizes p next = bind (parse_tables L sizes p 0 bytes next) (after_tables bytes sizes)

pub after_sizes : Layout → List ℕ → ℕ → List ℕ → ℕ → Parse Sheet
after_sizes L bytes n sizes next = bind (field 1 (constraints_test n) bytes next) (after_constraints L bytes sizes)

-- n is read,
pub record Counted (bytes : List ℕ) (n : ℕ) : Type 0 where
  pub some : 1 ≤ n
  pub few : n ≤ variables
  pub left : (L : Layout) → parse_body L bytes ≡ bind (fields 1 (size_test L.values_at_most) n bytes 4) (after_sizes L bytes n)

-- then the sizes,
pub record Listed (bytes : List ℕ) (most n : ℕ) (sizes : List ℕ) (next : ℕ) : Type 0 where
  pub some : 1 ≤ n
  pub few : n ≤ variables
  pub sized : Sized n sizes
  pub left : (L : Layout) → L.values_at_most ≡ most
      → parse_body L bytes ≡ bind (field 1 (constraints_test n) bytes next) (after_constraints L bytes (take n sizes))

-- then p,
pub record Constrained (bytes : List ℕ) (most n : ℕ) (sizes : List ℕ) (p from : ℕ) : Type 0 where
  pub few : n ≤ variables
  pub sized : Sized n sizes
  pub inside : from ≤ length bytes
  pub left : (L : Layout) → L.values_at_most ≡ most
      → parse_body L bytes ≡ bind (parse_tables L (take n sizes) p 0 bytes from) (after_tables bytes (take n sizes))

-- and the tables.
pub record Tabled (bytes : List ℕ) (k : ℕ) (filled : Bool) (most n : ℕ) (sizes stated rows : List ℕ) (end : ℕ) : Type 0 where
  pub few : n ≤ variables
  pub sized : Sized n sizes
  pub tables : List Table
  pub last : ℕ
  pub held : Held tables last stated rows
  pub left : (L : Layout) → RowsIn L k filled → L.values_at_most ≡ most → parse_body L bytes ≡ after_tables bytes (take n sizes) tables end

-- What is answered of the body in every layout of such rows and sizes.
abbrev pub BodyRead : List ℕ → ℕ → Bool → ℕ → List ℕ → List ℕ → List ℕ → Result Field Refusal → Type 0
BodyRead bytes k filled most sizes stated rows r =
    (L : Layout) → RowsIn L k filled → L.values_at_most ≡ most → SheetRead (parse_body L bytes) sizes stated rows r

module _ (bytes : List ℕ) where
  pub no-count : {k : ℕ} {filled : Bool} {most : ℕ} {c : Cause} {place : ℕ} → field 1 (range_test 1 variables VariableCount) bytes 3 ≡ bad c place
      → {sizes stated rows : List ℕ} → BodyRead bytes k filled most sizes stated rows (Err (record { cause = c; place = place }))
  unfolding parse_body bind
  no-count {c = c} {place = place} e {sizes} {stated} {rows} L told m = sheet-refused _ sizes stated rows c place (rw (count-range, e))

  pub counted : {n next : ℕ} → field 1 (range_test 1 variables VariableCount) bytes 3 ≡ got n next → Counted bytes n
  unfolding parse_body bind after_sizes after_constraints after_tables
  counted {n} e =
      let g = field-got e in
      let r = range-passed 1 variables n VariableCount g.passed in
      record { some = r.0; few = r.1; left = λ L. rw (count-range, e, g.ends) }

  module _ {n : ℕ} (so_far : Counted bytes n) {most : ℕ} {sizes : List ℕ} {r : Result Field Refusal} (read : SizesRead bytes n most sizes r) where
    pub no-sizes : {refusal : Refusal} → r ≡ Err refusal → {k : ℕ} {filled : Bool} {stated rows : List ℕ} → BodyRead bytes k filled most sizes stated rows (Err refusal)
    unfolding bind
    no-sizes {refusal} q {stated = stated} {rows = rows} L told m =
        sheet-refused _ sizes stated rows refusal.cause refusal.place (so_far.left L ∙ rw (m, as-bad _ r _ refusal read.parsed q))

    pub listed : {list : Field} → r ≡ Ok list → Listed bytes most n sizes list.next
    unfolding bind after_sizes
    listed {list} q =
        record {
          some = so_far.some;
          few = so_far.few;
          sized = read.sized;
          left = λ L m. so_far.left L ∙ rw (m, as-got _ r _ list read.parsed q);
        }

  module _ {most n : ℕ} {sizes : List ℕ} {next : ℕ} (so_far : Listed bytes most n sizes next) where
    pub no-constraints : {c : Cause} {place : ℕ} → field 1 (range_test 0 (n * (n - 1) / 2) ConstraintCount) bytes next ≡ bad c place
        → {k : ℕ} {filled : Bool} {stated rows : List ℕ} → BodyRead bytes k filled most sizes stated rows (Err (record { cause = c; place = place }))
    unfolding bind
    no-constraints {c} {place} e {stated = stated} {rows = rows} L told m =
        sheet-refused _ sizes stated rows c place (so_far.left L m ∙ rw (constraints-range n, e))

    pub constrained : {p from : ℕ} → field 1 (range_test 0 (n * (n - 1) / 2) ConstraintCount) bytes next ≡ got p from
        → Constrained bytes most n sizes p from
    unfolding bind after_constraints
    constrained e =
        record {
          few = so_far.few;
          sized = so_far.sized;
          inside = (field-got e).inside;
          left = λ L m. so_far.left L m ∙ rw (constraints-range n, e);
        }

  module _
      {most n : ℕ} {sizes : List ℕ} {p from : ℕ} (so_far : Constrained bytes most n sizes p from)
      {k : ℕ} {filled : Bool} {stated rows : List ℕ} {r : Result Field Refusal} (read : TablesRead bytes from k filled n p sizes stated rows r)
    where
      pub no-tables : {refusal : Refusal} → r ≡ Err refusal → BodyRead bytes k filled most sizes stated rows (Err refusal)
      unfolding bind
      no-tables {refusal} q L told m =
          sheet-refused _ sizes stated rows refusal.cause refusal.place (so_far.left L m ∙ rw (as-bad _ r _ refusal (read.parsed L told) q))

      pub tabled-all : {end : Field} → r ≡ Ok end → Tabled bytes k filled most n sizes stated rows end.next
      unfolding bind
      tabled-all {end} q =
          record {
            few = so_far.few;
            sized = so_far.sized;
            tables = read.tables;
            last = read.last;
            held = read.held end q;
            left = λ L told m. so_far.left L m ∙ rw (as-got _ r _ end (read.parsed L told) q);
          }

  module _ {k : ℕ} {filled : Bool} {most n : ℕ} {sizes stated rows : List ℕ} {end : ℕ} (so_far : Tabled bytes k filled most n sizes stated rows end) where
    pub left_over : end < length bytes → BodyRead bytes k filled most sizes stated rows (Err (record { cause = Extent; place = end }))
    unfolding after_tables ended
    left_over h L told m = sheet-refused _ sizes stated rows Extent end (so_far.left L told m ∙ if-true _ _ _ (lt-ltb _ _ h))

    pub body-read : length bytes ≤ end → BodyRead bytes k filled most sizes stated rows (Ok (record { value = n; next = end }))
    unfolding after_tables ended read_as
    body-read h L told m =
        record {
          sheet = record { sizes = take n sizes; tables = so_far.tables };
          parsed = so_far.left L told m ∙ if-false _ _ _ (le-ltb _ _ h);
          count_is = λ count q. (let e : count.value ≡ n = cc in e) ∙ sym (taken-length so_far.sized so_far.few);
          holds = λ count q. sheet-held n so_far.last sizes so_far.tables stated rows so_far.sized so_far.few so_far.held;
        }
