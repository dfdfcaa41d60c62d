-- One table, and the loop that reads them all.
use mathlib.Core.Bool.{Bool, true, false}
use mathlib.Core.List.{List, [], ◌∷◌, ◌++◌}
use mathlib.Core.Path.{◌≡◌, refl, sym, ◌∙◌}
use Prim.Native.Nat.{ℕ, suc, ◌+◌, ◌-◌, ◌*◌, ◌/◌, ◌%◌, ◌≤◌, ◌<◌}
use native.Mathlib.Numerals.{add-one}
use native.Mathlib.Omega.{arith}
use lib.ListN.{length, get_or, take, length-take, replicate}
use lib.Seq.{get_or-take}
use Rattle.bounded.specs.Table.{tabulate}
use Rattle.words.specs.Word.{width}
use Rattle.pairs.specs.Pairs.{variables}
use Rattle.cause.specs.declared.Cause.{Cause}
use Rattle.network.specs.Sheet.{Table}
use Rattle.std.specs.Prelude.{Some, None, Result, Ok, Err}
use Rattle.cause.specs.declared.Refusal.{Refusal}
use Rattle.read_field.specs.declared.field.Field.{Field}
use Rattle.format.specs.Layout.{Test, Layout, fine, pair_test, row_test}
use Rattle.format.specs.Parse.{got, bad, bind, number_at, field, fields, pair_of, size_of, parse_table, parse_tables}
use Rattle.format.proofs.Pairs.{pair-of-fine}
use Rattle.read_field.specs.Fields.{read_as}
use Rattle.read_rows.specs.Rows.{row_in, RowsTaken, RowsWalked}
use Rattle.read_rows.proofs.Rows.{parsed-fine, fine-parsed}
use Rattle.read_tables.specs.Tables.{RowsIn, Sized, marked, Held, TableIn, NoTable, TableTaken, TableWalked, TablesRead, TablesStop, TablesTaken}
use Rattle.read_field.proofs.Fields.{FieldGot, no_value, field-got, bind-got, bind-as}
use Rattle.read_tables.proofs.Held.{held_none, held_more}
use Rattle.read_field.proofs.Many.{prepend, many-begins, many-ends, many-goes-on, many-stops}

no_table : Table
no_table = record { first = 0; second = 0; rows = [] }

-- What is known of a pair that was read.
pub record PairIn (bytes : List ℕ) (n previous : ℕ) (sizes : List ℕ) (pair next : ℕ) : Type 0 where
  pub first_in : 1 ≤ pair / 256
  pub ordered : pair / 256 < pair % 256
  pub second_in : pair % 256 ≤ n
  pub later : previous < pair
  pub ends : next ≤ length bytes
  pub first_small : get_or sizes (pair / 256 - 1) 0 ≤ width
  pub second_small : get_or sizes (pair % 256 - 1) 0 ≤ width

pub pair_in : {bytes : List ℕ} (at : ℕ) {n previous : ℕ} {sizes : List ℕ} {pair next : ℕ} → Sized n sizes
    → field 2 (pair_test n previous) bytes at ≡ got pair next → PairIn bytes n previous sizes pair next
pair_in at {n} {previous} {pair} sized e =
    let g = field-got e in
    let p = pair-of-fine n previous pair g.passed in
    record {
      first_in = p.first_in;
      ordered = p.ordered;
      second_in = p.second_in;
      later = p.after;
      ends = g.inside;
      first_small = sized.small _;
      second_small = sized.small _;
    }

-- Two bytes that were parsed are there, and the number in them passes.
module _ {test : ℕ → Test} {bytes : List ℕ} {at v next : ℕ} (g : FieldGot 2 test bytes at v next) where
  pub two-there : at + 2 ≤ length bytes
  two-there = omega (arith, g.ends, g.inside)

  pub two-pass : {number : ℕ} → number ≡ number_at 2 bytes at → test number ≡ fine
  two-pass here = rw (here ∙ sym g.value) g.passed

-- The table of a pair, its first row standing at a place.
table_at : ℕ → List ℕ → ℕ → List ℕ → ℕ → Table
table_at k bytes from sizes pair =
    record {
      first = pair / 256;
      second = pair % 256;
      rows = tabulate (get_or sizes (pair / 256 - 1) 0) (row_in k bytes from);
    }

-- The array of sizes serves as the list of the first n.
module _ {n : ℕ} {sizes : List ℕ} (sized : Sized n sizes) (few : n ≤ variables) where
  pub taken-length : length (take n sizes) ≡ n
  taken-length = length-take n sizes ∙ omega (arith, sized.length_is)

  taken-size : (x : ℕ) → 1 ≤ x → x ≤ n → size_of (take n sizes) x ≡ get_or sizes (x - 1) 0
  unfolding size_of
  taken-size x l m = get_or-take n sizes (x - 1) 0 (omega arith)

  module _ (bytes : List ℕ) (at : ℕ) {k : ℕ} {filled : Bool} (previous : ℕ) where
    -- The pair is refused: in the walk,
    pub pair-walked : {c : Cause} {place : ℕ} → field 2 (pair_test n previous) bytes at ≡ bad c place
        → TableWalked bytes at k filled n previous sizes (Err (record { cause = c; place = place }))
    unfolding parse_table bind read_as
    pair-walked e = record { table = no_table; parsed = λ L told. rw (taken-length, e) }

    -- and so that no table is parsed.
    pub no-pair : ((pair next : ℕ) → field 2 (pair_test n previous) bytes at ≡ got pair next → ⊥) → NoTable bytes at k filled n previous sizes
    unfolding parse_table
    no-pair none L told table end e = bind-got e (λ pair next q _. none pair next (rw taken-length at q))

    module _ {pair next : ℕ} (e : field 2 (pair_test n previous) bytes at ≡ got pair next) where
      table_is : (L : Layout) → RowsIn L k filled → parse_table L (take n sizes) previous bytes at
          ≡ bind (fields k (row_test filled (get_or sizes (pair % 256 - 1) 0)) (get_or sizes (pair / 256 - 1) 0) bytes next)
          (λ rows end. got (record { first = pair / 256; second = pair % 256; rows = rows }) end)
      unfolding parse_table bind
      table_is L told =
          let p = pair_in at sized e in
          rw (
            taken-length,
            e,
            taken-size (pair / 256) p.first_in (omega arith),
            taken-size (pair % 256) (omega arith) p.second_in,
            told.row_bytes,
            told.rows_filled,
          )

      -- The rows are walked.
      pub rows_walked : {r : Result Field Refusal}
          → RowsWalked k (row_test filled (get_or sizes (pair % 256 - 1) 0)) bytes next (get_or sizes (pair / 256 - 1) 0) r
          → TableWalked bytes at k filled n previous sizes r
      unfolding table_at
      rows_walked {r} walked =
          record {
            table = table_at k bytes next sizes pair;
            parsed = λ L told. table_is L told ∙ rw walked (bind-as r _ _);
          }

      module _
          {rows rows' : List ℕ} {fits : Bool}
          (body :
          RowsTaken width k (row_test filled (get_or sizes (pair % 256 - 1) 0)) bytes next (pair / 256 - 1) (pair % 256 - 1) (get_or sizes (pair / 256 - 1) 0)
          rows rows' fits)
        where
          -- A row is refused: no table is parsed.
          pub no_rows : fits ≡ false → NoTable bytes at k filled n previous sizes
          no_rows f L told table end q =
              bind-got (sym (table_is L told) ∙ q) (λ xs last rows-got _.
              body.told.1 f (parsed-fine k _ bytes _ next (pair_in at sized e).ends rows-got))

          -- The table is taken, its pair stated from both sides.
          pub table-in : fits ≡ true → {stated stated₁ stated₂ : List ℕ}
              → stated₁ ≡ marked stated (pair / 256 - 1) (pair % 256 - 1) → stated₂ ≡ marked stated₁ (pair % 256 - 1) (pair / 256 - 1)
              → TableIn bytes at k filled n previous sizes stated rows stated₂ rows' pair (next + k * get_or sizes (pair / 256 - 1) 0)
          unfolding bind pair_of table_at
          table-in t {stated} e₁ e₂ =
              let p = pair_in at sized e in
              let rows-fine = body.told.0 t in
              record {
                table = table_at k bytes next sizes pair;
                parsed = λ L told. table_is L told ∙ rw (fine-parsed rows-fine);
                stored = record {
                  pair_is = omega arith;
                  ends = rows-fine.there;
                  held = λ ts held.
                      rw (e₂, e₁)
                      (rw (let m : pair / 256 * 256 + pair % 256 ≡ pair = omega arith in m) at
                      (held_more ts previous stated rows held (table_at k bytes next sizes pair) (pair / 256 - 1) (pair % 256 - 1)
                      (omega (arith, p.first_in)) (omega arith) (omega arith) (omega arith) (omega arith)
                      rows' (row_in k bytes next) (get_or sizes (pair / 256 - 1) 0) refl (body.stored t)));
                };
              }

-- What a table that was taken, or not, comes to.
module _
    {bytes : List ℕ} {at k : ℕ} {filled : Bool} {n previous : ℕ} {sizes stated rows stated' rows' : List ℕ}
  where
    pub taken-one : {pair next : ℕ} → TableIn bytes at k filled n previous sizes stated rows stated' rows' pair next
        → TableTaken bytes at k filled n previous sizes stated rows stated' rows' (Some (record { value = pair; next = next }))
    taken-one {pair} {next} i =
        record {
          one = λ field q. rw (let m : pair ≡ field.value = cc in m, let m : next ≡ field.next = cc in m) at i;
          none = λ q. absurd (let z : ◌≡◌ {A = ℕ} 0 1 = cc in let x : ⊥ = omega arith in x);
        }

    pub taken_none : NoTable bytes at k filled n previous sizes → TableTaken bytes at k filled n previous sizes stated rows stated' rows' None
    taken_none i =
        record {
          one = λ field q. absurd (let z : ◌≡◌ {A = ℕ} 0 1 = cc in let y : ⊥ = omega arith in y);
          none = λ q. i;
        }

-- The first t tables are held, and the next one stands at a place.
pub record TablesSoFar (bytes : List ℕ) (from k : ℕ) (filled : Bool) (n count : ℕ) (sizes stated rows : List ℕ) (at previous t : ℕ) : Type 0 where
  pub done : List Table
  pub within : t ≤ count
  pub ends : at ≤ length bytes
  pub parsed : (L : Layout) → RowsIn L k filled → parse_tables L (take n sizes) count 0 bytes from
      ≡ prepend done (parse_tables L (take n sizes) (count - t) previous bytes at)
  pub held : Held done previous stated rows

pub tables-none : (bytes : List ℕ) (from k : ℕ) (filled : Bool) (n count : ℕ) (sizes stated rows : List ℕ) → from ≤ length bytes
    → stated ≡ replicate variables 0 → rows ≡ replicate 3840 0 → TablesSoFar bytes from k filled n count sizes stated rows from 0 0
unfolding parse_tables
tables-none bytes from k filled n count sizes stated rows h e d =
    record {
      done = [];
      within = omega arith;
      ends = h;
      parsed = λ L told. rw (let z : count - 0 ≡ count = omega arith in z) (many-begins _ _ _ bytes count 0 from refl);
      held = held_none stated rows e d;
    }

module _
    {bytes : List ℕ} {from k : ℕ} {filled : Bool} {n count : ℕ} {sizes stated rows : List ℕ} {at previous t : ℕ}
    (so_far : TablesSoFar bytes from k filled n count sizes stated rows at previous t)
  where
    pub tables_end : count ≤ t → TablesRead bytes from k filled n count sizes stated rows (Ok (record { value = count; next = at }))
    unfolding parse_tables read_as
    tables_end h =
        record {
          tables = so_far.done;
          parsed = λ L told. many-ends _ _ _ bytes so_far.done (count - t) previous at (so_far.parsed L told) (omega arith);
          last = previous;
          held = λ end q. so_far.held;
        }

    module _ (one_left : t < count) where
      pub tables_more : {stated' rows' : List ℕ} {pair next : ℕ} → TableIn bytes at k filled n previous sizes stated rows stated' rows' pair next
          → TablesSoFar bytes from k filled n count sizes stated' rows' next pair (t + 1)
      unfolding parse_tables
      tables_more {pair} {next} one =
          let s = one.stored in
          record {
            done = so_far.done ++ (one.table ∷ []);
            within = omega arith;
            ends = s.ends;
            parsed = λ L told.
                rw (add-one t, s.pair_is)
                (many-goes-on _ _ _ bytes so_far.done (count - t) previous at (so_far.parsed L told) (count - suc t) (omega arith) one.table next
                (one.parsed L told));
            held = s.held so_far.done so_far.held;
          }

      pub tables-stop : NoTable bytes at k filled n previous sizes → TablesStop bytes from k filled n count sizes at previous
      unfolding parse_tables
      tables-stop none =
          record {
            inside = so_far.ends;
            none = none;
            refuses = λ L told c place e.
                many-stops _ _ _ bytes so_far.done (count - t) previous at (so_far.parsed L told) (count - suc t) (omega arith) c place e;
          }

-- Where taking tables stopped.
module _ {bytes : List ℕ} {from k : ℕ} {filled : Bool} {n count : ℕ} {sizes stated rows : List ℕ} where
  pub stop-end : {end : ℕ} → TablesRead bytes from k filled n count sizes stated rows (Ok (record { value = count; next = end }))
      → TablesTaken bytes from k filled n count sizes stated rows (Ok end)
  stop-end {end} all =
      record {
        ended = λ x q. rw (let m : end ≡ x = cc in m) at all;
        stopped = λ stop q. absurd (let z : ◌≡◌ {A = ℕ} 0 1 = cc in let w : ⊥ = omega arith in w);
      }

  pub stop-fault : {at previous : ℕ} → TablesStop bytes from k filled n count sizes at previous
      → TablesTaken bytes from k filled n count sizes stated rows (Err (record { at = at; previous = previous }))
  stop-fault {at} {previous} here =
      record {
        ended = λ x q. absurd (let z : ◌≡◌ {A = ℕ} 0 1 = cc in let w : ⊥ = omega arith in w);
        stopped = λ stop q. rw (let m : at ≡ stop.at = cc in m, let m : previous ≡ stop.previous = cc in m) at here;
      }

  -- A table that is refused, walked: what it answers is the answer of all. It can't be a table.
  pub tables-walked : {at previous : ℕ} → TablesStop bytes from k filled n count sizes at previous → {r : Result Field Refusal} → TableWalked bytes at k filled n previous sizes r
      → TablesRead bytes from k filled n count sizes stated rows r
  unfolding read_as
  tables-walked here {r = Ok field} walked =
      absurd (here.none (record { version = 0; bytes_per_row = k; values_at_most = 0; filled = filled }) (record { row_bytes = refl; rows_filled = refl }) walked.table field.next
      (walked.parsed _ (record { row_bytes = refl; rows_filled = refl })))
  tables-walked here {r = Err refusal} walked =
      record {
        tables = [];
        parsed = λ L told. here.refuses L told refusal.cause refusal.place (walked.parsed L told);
        last = 0;
        held = λ end. no_value refusal end;
      }
