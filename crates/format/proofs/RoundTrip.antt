-- Parsing and printing undo one another: proved once for each combinator.
use mathlib.Core.Bool.{false}
use mathlib.Core.List.{List, [], ◌∷◌, ◌++◌}
use mathlib.Core.Path.{◌≡◌, refl, ◌∙◌, ap}
use Prim.Native.Nat.{ℕ, zero, suc, ◌+◌, ◌-◌, ◌/◌, ◌%◌, ◌^◌, ◌≤◌, ◌<◌}
use native.Mathlib.Omega.{arith}
use lib.Dec.{ltb}
use lib.ListN.{length, get_or, length-append}
use borrow.Author.Tests.{lt-ltb, le-ltb, ltb-false}
use Rattle.bounded.proofs.Bool.{by_cases, if-true, if-false}
use Rattle.cause.specs.declared.Cause.TheVariants.{Extent}
use Rattle.network.specs.Sheet.{Table, Sheet}
use Rattle.format.specs.Layout.{Layout, Test, fine, count_test, size_test, constraints_test, pair_test, row_test, longest, found, layout_of}
use Rattle.format.specs.Parse.{Octets, Parse, got, bad, number_at, field, many, fields, pair_of, size_of, parse_table, parse_tables, ended, parse_body}
use Rattle.format.specs.Parse.{wrong_length, parse}
use Rattle.format.specs.Print.{bytes_of, print_all, print_table, print_body, print}
use Rattle.format.specs.WellFormed.{All, TableFits, Ascend, WellFormed}
use Rattle.format.proofs.Numbers.{Stands, stands-none, stands-byte, stands-append, stands-front, stands-back, stands-whole, stands_self}
use Rattle.format.proofs.Numbers.{length-bytes_of, number-of-bytes, number-below, bytes-of-number}
use Rattle.format.proofs.Parse.{Where, of_got, of_bad, holds-of-got, where-map, bind-got, bind-where, field-fine, field-where, many-got}
use Rattle.format.proofs.Pairs.{PairFits, pair-of-fine, fine-pair}
use Rattle.format.proofs.Parse.{size-of-fine, fine-size, count-of-fine, fine-count}
use Rattle.format.proofs.Parse.{constraints-of-fine, fine-constraints}
use Rattle.format.proofs.Parse.{LengthFits, length-fits, right-length, parse-wrong-length, parse-wrong-version, parse-is-body}
use Rattle.format.proofs.Layouts.{Usable, longest-counted, found-version, found-usable, found-or-unknown}
use Rattle.format.proofs.Lengths.{few-tables, largest-sheet}

-- What a parser gets at a place fits, and is printed as the bytes that it was read from.
pub record Read {A : Type 0} (Fits : A → Type 0) (show : A → List ℕ) (bytes : List ℕ) (at : ℕ) (x : A) (next : ℕ) : Type 0 where
  pub fits : Fits x
  pub stands : Stands bytes at (show x) next

-- A parser and a printer are inverse on what fits.
pub record Inverse {A : Type 0} (Fits : A → Type 0) (show : A → List ℕ) (item : List ℕ → ℕ → Parse A) : Type 0 where
  pub reads : (bytes : List ℕ) → Octets bytes → (at : ℕ) → at ≤ length bytes → Where (Read Fits show bytes at) (item bytes at)
  pub accepts : (bytes : List ℕ) (at : ℕ) (x : A) (next : ℕ) → Read Fits show bytes at x next → item bytes at ≡ got x next

-- A field holds a number that passes its test and has room in its bytes.
abbrev pub FieldFits : ℕ → (ℕ → Test) → ℕ → Type 0
FieldFits k test v = (test v ≡ fine) × (v < 256 ^ k)

pub field-inverse : (k : ℕ) (test : ℕ → Test) → Inverse (FieldFits k test) (bytes_of k) (field k test)
field-inverse k test =
    record {
      reads = λ bytes octets at l. where-map (field-where k test bytes at) λ v next f.
          rw (f.number, f.next_place)
          (record {
            fits = (rw f.number at f.passes, number-below bytes octets k at);
            stands = bytes-of-number bytes octets k at f.within;
          });
      accepts = λ bytes at v next r.
          let e = number-of-bytes k v bytes at next r.fits.1 r.stands in
          let n : at + k ≡ next = omega (arith, length-bytes_of k v) in
          field-fine k test bytes at (omega arith) (ap test e ∙ r.fits.0) ∙ rw (e, n);
    }

-- Each item of a list fits what was handed on to it.
pub data Chain {S A : Type 0} (step : S → A → S) (Fits : S → A → Type 0) : S → List A → Type 0 where
  chain_none : {s : S} → Chain step Fits s []
  chain_more : {s : S} {x : A} {xs : List A} → Fits s x → Chain step Fits (step s x) xs → Chain step Fits s (x ∷ xs)

pub record ManyFit {S A : Type 0} (step : S → A → S) (Fits : S → A → Type 0) (count : ℕ) (s : S) (xs : List A) : Type 0 where
  pub so_many : length xs ≡ count
  pub chain : Chain step Fits s xs

module _ {S A : Type 0} (step : S → A → S) (Fits : S → A → Type 0) (show : A → List ℕ) (item : S → List ℕ → ℕ → Parse A)
    (inverse : (s : S) → Inverse (Fits s) show (item s)) where
  many-reads : (count : ℕ) (s : S) (bytes : List ℕ) → Octets bytes → (at : ℕ) → at ≤ length bytes
      → Where (Read (ManyFit step Fits count s) (print_all show) bytes at) (many step item count s bytes at)
  unfolding many print_all
  many-reads zero s bytes octets at l = of_got (record { fits = record { so_many = refl; chain = chain_none }; stands = stands-none bytes at l })
  many-reads (suc count) s bytes octets at l =
      bind-where _ ((inverse s).reads bytes octets at l) λ x mid r.
      bind-where _ (many-reads count (step s x) bytes octets mid r.stands.within) λ xs next q.
      of_got
      (record {
        fits = record { so_many = ap suc q.fits.so_many; chain = chain_more r.fits q.fits.chain };
        stands = stands-append bytes at mid next (show x) (print_all show xs) r.stands q.stands;
      })

  many-accepts : {s : S} {xs : List A} → Chain step Fits s xs → (bytes : List ℕ) (at next : ℕ) → Stands bytes at (print_all show xs) next
      → many step item (length xs) s bytes at ≡ got xs next
  unfolding many print_all
  many-accepts chain_none bytes at next h = let e : at ≡ next = omega arith in rw e
  many-accepts {s} (chain_more {x = x} {xs = xs} f c) bytes at next h =
      let mid = at + length (show x) in
      let first : item s bytes at ≡ got x mid =
      (inverse s).accepts bytes at x mid (record { fits = f; stands = stands-front bytes at next (show x) (print_all show xs) h }) in
      many-got step item s bytes at (length xs) first (many-accepts c bytes mid next (stands-back bytes at next (show x) (print_all show xs) h))

  pub many-inverse : (count : ℕ) (s : S) → Inverse (ManyFit step Fits count s) (print_all show) (many step item count s)
  many-inverse count s =
      record {
        reads = many-reads count s;
        accepts = λ bytes at xs next r. rw (← r.fits.so_many) (many-accepts r.fits.chain bytes at next r.stands);
      }

-- The round trip with what fits and what is printed said in other words.
module _ {A : Type 0} {Fits Fits' : A → Type 0} {show show' : A → List ℕ} {item : List ℕ → ℕ → Parse A}
    (there : (x : A) → Fits x → Fits' x) (back : (x : A) → Fits' x → Fits x) (same : (x : A) → Fits x → show x ≡ show' x) where
  restate : Inverse Fits show item → Inverse Fits' show' item
  restate i =
      record {
        reads = λ bytes octets at l. where-map (i.reads bytes octets at l) λ x next r.
            record { fits = there x r.fits; stands = rw (same x r.fits) at r.stands };
        accepts = λ bytes at x next r.
            i.accepts bytes at x next (record { fits = back x r.fits; stands = rw (same x (back x r.fits)) r.stands });
      }

-- Items that need know nothing of the ones before.
pub record ListFits {A : Type 0} (P : A → Type 0) (count : ℕ) (xs : List A) : Type 0 where
  pub so_many : length xs ≡ count
  pub all_fit : All P xs

module _ {S A : Type 0} (s : S) (P : A → Type 0) where
  chain→all : {xs : List A} → Chain (λ (t : S) (x : A). t) (λ (t : S). P) s xs → All P xs
  chain→all chain_none = All.none
  chain→all (chain_more f c) = All.more f (chain→all c)

  all→chain : {xs : List A} → All P xs → Chain (λ (t : S) (x : A). t) (λ (t : S). P) s xs
  all→chain All.none = chain_none
  all→chain (All.more f a) = chain_more f (all→chain a)

  pub list-inverse : (show : A → List ℕ) (item : List ℕ → ℕ → Parse A) → Inverse P show item → (count : ℕ)
      → Inverse (ListFits P count) (print_all show) (many (λ (t : S) (x : A). t) (λ (t : S). item) count s)
  list-inverse show item i count =
      restate
      (λ xs m. record { so_many = m.so_many; all_fit = chain→all m.chain })
      (λ xs m. record { so_many = m.so_many; chain = all→chain m.all_fit })
      (λ xs m. refl)
      (many-inverse _ (λ (t : S). P) show _ (λ (t : S). i) count s)

pub fields-inverse : (k : ℕ) (test : ℕ → Test) (count : ℕ)
    → Inverse (ListFits (FieldFits k test) count) (print_all (bytes_of k)) (fields k test count)
unfolding fields
fields-inverse k test count = list-inverse 0 (FieldFits k test) (bytes_of k) (field k test) (field-inverse k test) count

bytes_of-two : (v : ℕ) → v < 256 ^ 2 → bytes_of 2 v ≡ v / 256 ∷ (v % 256 ∷ [])
unfolding bytes_of
bytes_of-two v h =
    let a : v / 256 % 256 ≡ v / 256 = omega arith in
    let b : v / 1 % 256 ≡ v % 256 = omega arith in
    rw (a, b)

-- A table fits beside the others, past the one before.
pub record NextFits (L : Layout) (sizes : List ℕ) (previous : ℕ) (t : Table) : Type 0 where
  pub table : TableFits L sizes t
  pub after : previous < pair_of t

-- The pair of a table that fits, as one number.
module _ (L : Layout) (sizes : List ℕ) (few : length sizes < 256) (t : Table) (f : TableFits L sizes t) where
  pair-first : pair_of t / 256 ≡ t.first
  unfolding pair_of
  pair-first = omega arith

  pair-second : pair_of t % 256 ≡ t.second
  unfolding pair_of
  pair-second = omega arith

  pair-room : pair_of t < 256 ^ 2
  unfolding pair_of
  pair-room = omega arith

  printed-pair : bytes_of 2 (pair_of t) ≡ t.first ∷ (t.second ∷ [])
  printed-pair = rw (bytes_of-two (pair_of t) pair-room, pair-first, pair-second)

module _ (L : Layout) (sizes : List ℕ) (few : length sizes < 256) (previous : ℕ) where
  table-reads : (bytes : List ℕ) → Octets bytes → (at : ℕ) → at ≤ length bytes
      → Where (Read (NextFits L sizes previous) (print_table L) bytes at) (parse_table L sizes previous bytes at)
  unfolding parse_table print_table pair_of
  table-reads bytes octets at l =
      bind-where _ ((field-inverse 2 (pair_test (length sizes) previous)).reads bytes octets at l) λ pair mid r.
      bind-where _ ((fields-inverse _ _ _).reads bytes octets mid r.stands.within) λ rows next q.
      let p = pair-of-fine (length sizes) previous pair r.fits.0 in
      of_got
      (record {
        fits =
            record {
              table =
                  record {
                    first_in = p.first_in;
                    ordered = p.ordered;
                    second_in = p.second_in;
                    row_count = q.fits.so_many;
                    rows_fit = q.fits.all_fit;
                  };
              after = omega arith;
            };
        stands =
            rw (bytes_of-two pair r.fits.1) at
            (stands-append bytes at mid next (bytes_of 2 pair) (print_all (bytes_of L.bytes_per_row) rows) r.stands q.stands);
      })

  table-accepts : (bytes : List ℕ) (at : ℕ) (t : Table) (next : ℕ) → Read (NextFits L sizes previous) (print_table L) bytes at t next
      → parse_table L sizes previous bytes at ≡ got t next
  unfolding parse_table print_table
  table-accepts bytes at t next r =
      let f = r.fits.table in
      let pair = pair_of t in
      let mid = at + length (bytes_of 2 pair) in
      let rows_text = print_all (bytes_of L.bytes_per_row) t.rows in
      let a = pair-first L sizes few t f in
      let b = pair-second L sizes few t f in
      let text : Stands bytes at (bytes_of 2 pair ++ rows_text) next = rw (printed-pair L sizes few t f) r.stands in
      let fits : PairFits (length sizes) previous pair =
      record { first_in = rw a f.first_in; ordered = rw (a, b) f.ordered; second_in = rw b f.second_in; after = r.fits.after } in
      let first : field 2 (pair_test (length sizes) previous) bytes at ≡ got pair mid =
      (field-inverse 2 _).accepts bytes at pair mid
      (record {
        fits = (fine-pair (length sizes) previous pair fits, pair-room L sizes few t f);
        stands = stands-front bytes at next (bytes_of 2 pair) rows_text text;
      }) in
      let second : fields L.bytes_per_row (row_test L.filled (size_of sizes (pair % 256))) (size_of sizes (pair / 256)) bytes mid ≡ got t.rows next =
      rw (a, b)
      ((fields-inverse _ _ _).accepts bytes mid t.rows next
      (record {
        fits = record { so_many = f.row_count; all_fit = f.rows_fit };
        stands = stands-back bytes at next (bytes_of 2 pair) rows_text text;
      })) in
      bind-got _ _ first ∙ bind-got _ _ second ∙ rw (a, b)

  pub table-inverse : Inverse (NextFits L sizes previous) (print_table L) (parse_table L sizes previous)
  table-inverse = record { reads = table-reads; accepts = table-accepts }

-- All tables: each fits, and they ascend.
pub record TablesFit (L : Layout) (sizes : List ℕ) (count previous : ℕ) (ts : List Table) : Type 0 where
  pub so_many : length ts ≡ count
  pub all_fit : All (TableFits L sizes) ts
  pub ascending : Ascend previous ts

module _ (L : Layout) (sizes : List ℕ) where
  chain→tables : {previous : ℕ} {ts : List Table} → Chain (λ (s : ℕ) (t : Table). pair_of t) (NextFits L sizes) previous ts
      → All (TableFits L sizes) ts × Ascend previous ts
  chain→tables chain_none = (All.none, Ascend.none)
  chain→tables (chain_more f c) = let (a, u) = chain→tables c in (All.more f.table a, Ascend.more f.after u)

  tables→chain : {previous : ℕ} {ts : List Table} → All (TableFits L sizes) ts → Ascend previous ts
      → Chain (λ (s : ℕ) (t : Table). pair_of t) (NextFits L sizes) previous ts
  tables→chain All.none Ascend.none = chain_none
  tables→chain {previous = previous} (All.more {x = x} f a) (Ascend.more l u) =
      chain_more (record { table = f; after = l }) (tables→chain {previous = pair_of x} a u)

  pub tables-inverse : length sizes < 256 → (count previous : ℕ)
      → Inverse (TablesFit L sizes count previous) (print_all (print_table L)) (parse_tables L sizes count previous)
  unfolding parse_tables
  tables-inverse few count previous =
      restate
      (λ ts m. let (a, u) = chain→tables m.chain in record { so_many = m.so_many; all_fit = a; ascending = u })
      (λ ts m. record { so_many = m.so_many; chain = tables→chain m.all_fit m.ascending })
      (λ ts m. refl)
      (many-inverse _ (NextFits L sizes) (print_table L) _ (table-inverse L sizes few) count previous)

-- Fields of one byte.
pub byte-inverse : (test : ℕ → Test) → Inverse (FieldFits 1 test) (λ (v : ℕ). v ∷ []) (field 1 test)
unfolding bytes_of
byte-inverse test = restate (λ v f. f) (λ v f. f) (λ v f. let e : v / 1 % 256 ≡ v = omega (arith, f.1) in rw e) (field-inverse 1 test)

print_all-bytes : (vs : List ℕ) → print_all (λ (v : ℕ). v ∷ []) vs ≡ vs
unfolding print_all
print_all-bytes [] = refl
print_all-bytes (v ∷ vs) = rw (print_all-bytes vs)

size-inverse : (most : ℕ) → most < 256 → Inverse (λ (size : ℕ). (1 ≤ size) × (size ≤ most)) (λ (v : ℕ). v ∷ []) (field 1 (size_test most))
size-inverse most l =
    restate
    (λ v f. size-of-fine most v f.0)
    (λ v f. (fine-size most v f.0 f.1, omega (arith, f.1)))
    (λ v f. refl)
    (byte-inverse (size_test most))

sizes-inverse : (most : ℕ) → most < 256 → (count : ℕ)
    → Inverse (ListFits (λ (size : ℕ). (1 ≤ size) × (size ≤ most)) count) (λ (sizes : List ℕ). sizes) (fields 1 (size_test most) count)
unfolding fields
sizes-inverse most l count =
    restate (λ vs f. f) (λ vs f. f) (λ vs f. print_all-bytes vs) (list-inverse 0 _ _ _ (size-inverse most l) count)

-- What the parser of a body gets: it is well formed, its bytes stand after the count, and no byte is left.
pub record BodyRead (L : Layout) (bytes : List ℕ) (s : Sheet) (next : ℕ) : Type 0 where
  pub well_formed : WellFormed L s
  pub stands : Stands bytes 3 (print_body L s) next
  pub all_read : next ≡ length bytes

ended-where : (P : Sheet → ℕ → Type 0) (s : Sheet) (bytes : List ℕ) (at : ℕ) → (length bytes ≤ at → P s at) → Where P (ended s bytes at)
unfolding ended
ended-where P s bytes at h =
    by_cases (ltb at (length bytes)) (λ t. rw (if-true _ (bad Extent at) (got s at) t) of_bad)
    (λ t. rw (if-false _ (bad Extent at) (got s at) t) (of_got (h (ltb-false _ _ t))))

ended-got : (s : Sheet) (bytes : List ℕ) → ended s bytes (length bytes) ≡ got s (length bytes)
unfolding ended
ended-got s bytes = if-false _ _ _ (le-ltb (length bytes) (length bytes) (omega arith))

ended-left : (s : Sheet) (bytes : List ℕ) (at : ℕ) → at < length bytes → ended s bytes at ≡ bad Extent at
unfolding ended
ended-left s bytes at h = if-true _ _ _ (lt-ltb _ _ h)

-- Where each part of a body stands.
module _ (L : Layout) (bytes : List ℕ) (s : Sheet) (next : ℕ) (h : Stands bytes 3 (print_body L s) next) where
  pub sizes-on : Stands bytes 4 (s.sizes ++ (length s.tables ∷ print_all (print_table L) s.tables)) next
  unfolding print_body
  sizes-on = stands-back bytes 3 next (length s.sizes ∷ []) _ h

  pub table-count-on : Stands bytes (4 + length s.sizes) (length s.tables ∷ print_all (print_table L) s.tables) next
  table-count-on = stands-back bytes 4 next s.sizes _ sizes-on

  pub count-stands : Stands bytes 3 (length s.sizes ∷ []) 4
  unfolding print_body
  count-stands = stands-front bytes 3 next (length s.sizes ∷ []) _ h

  pub sizes-stand : Stands bytes 4 s.sizes (4 + length s.sizes)
  sizes-stand = stands-front bytes 4 next s.sizes _ sizes-on

  pub table-count-stands : Stands bytes (4 + length s.sizes) (length s.tables ∷ []) (4 + length s.sizes + 1)
  table-count-stands = stands-front bytes (4 + length s.sizes) next (length s.tables ∷ []) _ table-count-on

  pub tables-stand : Stands bytes (4 + length s.sizes + 1) (print_all (print_table L) s.tables) next
  tables-stand = stands-back bytes (4 + length s.sizes) next (length s.tables ∷ []) _ table-count-on

module _ (L : Layout) (usable : Usable L) (bytes : List ℕ) where
  byte-sizes : L.values_at_most < 256
  byte-sizes = omega (arith, usable.most_values)

  body_reads : Octets bytes → 3 ≤ length bytes → Where (BodyRead L bytes) (parse_body L bytes)
  unfolding parse_body print_body
  body_reads octets l =
      bind-where _ ((byte-inverse count_test).reads bytes octets 3 l) λ n at₁ a.
      bind-where _ ((sizes-inverse L.values_at_most byte-sizes n).reads bytes octets at₁ a.stands.within) λ sizes at₂ b.
      bind-where _ ((byte-inverse (constraints_test n)).reads bytes octets at₂ b.stands.within) λ p at₃ c.
      let (some, most) = count-of-fine n a.fits.0 in
      let e = b.fits.so_many in
      bind-where _ ((tables-inverse L sizes (omega arith) p 0).reads bytes octets at₃ c.stands.within) λ tables end d.
      ended-where _ _ bytes end λ past.
      record {
        well_formed =
            record {
              some_variable = rw e some;
              most_variables = rw e most;
              sizes_fit = b.fits.all_fit;
              tables_fit = d.fits.all_fit;
              ascending = d.fits.ascending;
              table_count = rw (e, d.fits.so_many) (constraints-of-fine n p c.fits.0);
            };
        stands =
            rw (e, d.fits.so_many)
            (stands-append bytes 3 at₁ end (n ∷ []) _ a.stands
            (stands-append bytes at₁ at₂ end sizes _ b.stands
            (stands-append bytes at₂ at₃ end (p ∷ []) _ c.stands d.stands)));
        all_read = omega arith;
      }

  body-accepts : (s : Sheet) → WellFormed L s → (end : ℕ) → Stands bytes 3 (print_body L s) end → parse_body L bytes ≡ ended s bytes end
  unfolding parse_body
  body-accepts s f end h =
      let n = length s.sizes in
      let p = length s.tables in
      let room : p < 256 ^ 1 = omega (arith, few-tables n p f.most_variables f.table_count) in
      bind-got _ _
      ((byte-inverse count_test).accepts bytes 3 n 4
      (record { fits = (fine-count n f.some_variable f.most_variables, omega arith); stands = count-stands L bytes s end h }))
      ∙ bind-got _ _
      ((sizes-inverse L.values_at_most byte-sizes n).accepts bytes 4 s.sizes (4 + n)
      (record { fits = record { so_many = refl; all_fit = f.sizes_fit }; stands = sizes-stand L bytes s end h }))
      ∙ bind-got _ _
      ((byte-inverse (constraints_test n)).accepts bytes (4 + n) p (4 + n + 1)
      (record { fits = (fine-constraints n p f.table_count, room); stands = table-count-stands L bytes s end h }))
      ∙ bind-got _ _
      ((tables-inverse L s.sizes (omega arith) p 0).accepts bytes (4 + n + 1) s.tables end
      (record {
        fits = record { so_many = refl; all_fit = f.tables_fit; ascending = f.ascending };
        stands = tables-stand L bytes s end h;
      }))

-- A sheet that was read: in the layout of byte 0 it is well formed and is printed as the bytes that it was read from.
pub record SheetRead (bytes : List ℕ) (s : Sheet) (next : ℕ) : Type 0 where
  pub layout : Layout
  pub layout_found : layout_of (get_or bytes 0 0) ≡ found layout
  pub usable : Usable layout
  pub body : BodyRead layout bytes s next
  pub printed : print layout s ≡ bytes

module _ (bytes : List ℕ) (octets : Octets bytes) where
  -- The version and the count stand before a body as they are printed.
  printed-whole : LengthFits bytes → (L : Layout) → get_or bytes 0 0 ≡ L.version → (s : Sheet) → Stands bytes 3 (print_body L s) (length bytes)
      → print L s ≡ bytes
  unfolding print
  printed-whole l L v s h =
      let next = length bytes in
      let count : number_at 2 bytes 1 ≡ length (print_body L s) = omega arith in
      let first : Stands bytes 0 (L.version ∷ []) 1 = rw v at (stands-byte bytes 0 (omega arith)) in
      let second : Stands bytes 1 (bytes_of 2 (length (print_body L s))) 3 =
      rw count at (bytes-of-number bytes octets 2 1 l.at_least_three) in
      stands-whole bytes _ (stands-append bytes 0 1 next (L.version ∷ []) _ first (stands-append bytes 1 3 next _ _ second h))

  sheet-reads : Where (SheetRead bytes) (parse bytes)
  sheet-reads =
      by_cases (wrong_length bytes) (λ t. rw (parse-wrong-length bytes t) of_bad) λ t.
      found-or-unknown (layout_of (get_or bytes 0 0))
      (λ v. rw (parse-wrong-version bytes t v) of_bad)
      (λ L v. rw (parse-is-body bytes t L v)
      (let l = length-fits bytes t in
      where-map (body_reads L (found-usable _ L v) bytes octets l.at_least_three) λ s next b.
      record {
        layout = L;
        layout_found = v;
        usable = found-usable _ L v;
        body = b;
        printed = printed-whole l L (found-version _ L v) s (rw b.all_read at b.stands);
      }))

  -- What the parser gets.
  pub parsed : (s : Sheet) (end : ℕ) → parse bytes ≡ got s end → SheetRead bytes s end
  parsed s end h = holds-of-got _ _ sheet-reads h

-- A version and the count of a body before it: the body stands in its place, and the length is right.
abbrev pub framed : ℕ → List ℕ → List ℕ
framed version body = version ∷ (bytes_of 2 (length body) ++ body)

module _ (version : ℕ) (body : List ℕ) where
  counted : Stands (framed version body) 1 (bytes_of 2 (length body) ++ body) (length (framed version body))
  counted = stands-back (framed version body) 0 _ (version ∷ []) _ (stands_self (framed version body))

  framed-body : Stands (framed version body) 3 body (length (framed version body))
  unfolding bytes_of
  framed-body = stands-back (framed version body) 1 _ (bytes_of 2 (length body)) body counted

  framed-length : 3 + length body ≤ longest → wrong_length (framed version body) ≡ false
  unfolding bytes_of
  framed-length short =
      let bytes = framed version body in
      let n = length body in
      let room : n < 256 ^ 2 = omega (arith, longest-counted) in
      let count : number_at 2 bytes 1 ≡ n = number-of-bytes 2 n bytes 1 3 room (stands-front bytes 1 _ (bytes_of 2 n) body counted) in
      right-length bytes (record { at_least_three = omega arith; not_too_long = omega arith; as_counted = omega arith })

module _ (L : Layout) (v : layout_of L.version ≡ found L) (s : Sheet) (w : WellFormed L s) where
  -- The parser accepts every well-formed sheet that was printed in a layout that there is, and gets that sheet.
  pub parse-of-print : parse (print L s) ≡ got s (length (print L s))
  unfolding print bytes_of
  parse-of-print =
      let body = print_body L s in
      let short = largest-sheet L s w (found-usable _ L v) in
      parse-is-body (print L s) (framed-length L.version body (omega arith)) L v
      ∙ body-accepts L (found-usable _ L v) (print L s) s w _ (framed-body L.version body)
      ∙ ended-got s (print L s)

  -- Where more bytes follow it, counted and within the limit, they are refused where they begin: 6 "bytes are left over".
  pub left_over : (rest : List ℕ) → 1 ≤ length rest → length (print L s) + length rest ≤ longest
      → parse (framed L.version (print_body L s ++ rest)) ≡ bad Extent (length (print L s))
  unfolding print bytes_of
  left_over rest some short =
      let body = print_body L s in
      let bytes = framed L.version (body ++ rest) in
      let long = length-append body rest in
      parse-is-body bytes (framed-length L.version (body ++ rest) (omega arith)) L v
      ∙ body-accepts L (found-usable _ L v) bytes s w _ (stands-front bytes 3 _ body rest (framed-body L.version (body ++ rest)))
      ∙ ended-left s bytes _ (omega arith)
      ∙ ap (bad Extent) (let place : 3 + length body ≡ length (print L s) = omega arith in place)
