-- The rows of a table: parsed one by one, and stored, joined and tested all at once.
use mathlib.Core.Bool.{Bool, true, false, ◌&&◌}
use mathlib.Core.List.{List, [], ◌∷◌, ◌++◌}
use mathlib.Core.Path.{◌≡◌, refl, sym, ◌∙◌, ap}
use Prim.Native.Nat.{ℕ, zero, suc, ◌+◌, ◌-◌, ◌*◌, ◌^◌, ◌≤◌, ◌<◌}
use native.Mathlib.Nat.{mul-suc, mul-zero, mul-le-mul, pow-le-pow_right}
use native.Mathlib.Numerals.{add-one}
use native.Mathlib.Omega.{arith}
use lib.Dec.{ltb}
use lib.ListN.{length}
use borrow.Author.Tests.{ltb-true, lt-ltb}
use Rattle.bounded.specs.Bool.{or, implies}
use Rattle.bounded.specs.Fold.{every, some}
use Rattle.bounded.specs.Table.{tabulate}
use Rattle.bounded.proofs.Bool.{machine-and, clash, and_i, and_l, and_r, or_comm, implies-i, implies-e, not-true→false}
use Rattle.bounded.proofs.Fold.{every-i, every-e, some-i, some-e, test-joins}
use Rattle.words.specs.Word.{has, word}
use Rattle.words.proofs.Laws.{has_word, has-below, within, empty, word-cong, word_lt}
use Rattle.pairs.specs.Frames.{RowPut}
use Rattle.pairs.proofs.Frames.{stored-none, stored_more}
use Rattle.cause.specs.declared.Cause.{Cause}
use Rattle.format.specs.Layout.{Test, fine, row_test}
use Rattle.format.specs.Parse.{Octets, got, bad, number_at, field, many, fields}
use Rattle.format.proofs.Numbers.{number-below}
use Rattle.format.proofs.Parse.{fine-row, row-of-fine}
use Rattle.read_number.proofs.Numbers.{row_inside}
use Rattle.std.specs.Prelude.{Ok, Err}
use Rattle.read_field.specs.Fields.{read_as, read_of}
use Rattle.read_field.proofs.Fields.{FieldGot, field-got, field-fine, bind-got}
use Rattle.read_field.proofs.Many.{prepend, prepend-none, fields-end, fields-go-on, fields-stop}
use Rattle.read_rows.specs.Rows.{row_in, RowsJoined, RowsFine, RowsTaken, RowsWalked}

tabulate-more : (n : ℕ) (f : ℕ → ℕ) → tabulate (suc n) f ≡ tabulate n f ++ (f n ∷ [])
unfolding tabulate
tabulate-more zero f = refl
tabulate-more (suc n) f = ap (λ l. f 0 ∷ l) (tabulate-more n (λ k. f (suc k)))

-- ---- one by one

-- The first a rows are parsed, and the next one stands at a place.
pub record RowsSoFar (k : ℕ) (test : ℕ → Test) (bytes : List ℕ) (from count at a : ℕ) : Type 0 where
  pub within : a ≤ count
  pub place_is : at ≡ from + k * a
  pub inside : at ≤ length bytes
  pub parsed : fields k test count bytes from
      ≡ prepend (tabulate a (row_in k bytes from)) (fields k test (count - a) bytes at)

pub rows_none : {k : ℕ} {test : ℕ → Test} {bytes : List ℕ} {from count : ℕ} → from ≤ length bytes → RowsSoFar k test bytes from count from 0
unfolding tabulate
rows_none {k} {count} h =
    record {
      within = omega arith;
      place_is = omega (arith, mul-zero k);
      inside = h;
      parsed = rw (let z : count - 0 ≡ count = omega arith in z) (prepend-none _);
    }

module _ {k : ℕ} {test : ℕ → Test} {bytes : List ℕ} {from count at a : ℕ} (so_far : RowsSoFar k test bytes from count at a) where
  pub rows_more : a < count → {v next : ℕ} → field k test bytes at ≡ got v next → RowsSoFar k test bytes from count next (a + 1)
  unfolding row_in
  rows_more l {v} {next} e =
      let g = field-got e in
      let here : v ≡ number_at k bytes (from + k * a) = g.value ∙ ap (number_at k bytes) so_far.place_is in
      record {
        within = omega arith;
        place_is = rw (add-one a, mul-suc k a) (omega (arith, so_far.place_is, g.ends));
        inside = g.inside;
        parsed =
            rw (add-one a, tabulate-more a (row_in k bytes from), ← here)
            (fields-go-on k test bytes _ _ (count - a) at so_far.parsed (count - suc a) (omega arith) v next e);
      }

  pub rows-refused : a < count → {c : Cause} {place : ℕ} → field k test bytes at ≡ bad c place
      → RowsWalked k test bytes from count (Err (record { cause = c; place = place }))
  unfolding read_as
  rows-refused l {c} {place} e = fields-stop k test bytes _ _ (count - a) at so_far.parsed (count - suc a) (omega arith) c place e

  pub rows_end : count ≤ a → RowsWalked k test bytes from count (Ok (record { value = count; next = at }))
  unfolding read_as
  rows_end h =
      let e : a ≡ count = omega (arith, so_far.within) in
      rw e at (fields-end k test bytes _ (tabulate a (row_in k bytes from)) (count - a) at so_far.parsed (omega arith))

-- ---- parsed

-- A row that was parsed, and those after it that are fine.
pass-more : {k : ℕ} {test : ℕ → Test} {bytes : List ℕ} {from v next count : ℕ} → FieldGot k test bytes from v next
    → RowsFine k test bytes next count → (a : ℕ) → a < suc count → test (row_in k bytes from a) ≡ fine
unfolding row_in
pass-more {k} {test} {from} g later zero m = rw (mul-zero k, let z : from + 0 ≡ from = omega arith in z) (ap test (sym g.value) ∙ g.passed)
pass-more {k} {from} {next} g later (suc a) m =
    rw (let z : from + k * suc a ≡ next + k * a = omega (arith, mul-suc k a, g.ends) in z) (later.pass a (omega arith))

-- Rows that were parsed are fine, all of them.
pub parsed-fine : (k : ℕ) (test : ℕ → Test) (bytes : List ℕ) (count from : ℕ) {xs : List ℕ} {end : ℕ} → from ≤ length bytes
    → fields k test count bytes from ≡ got xs end → RowsFine k test bytes from count
unfolding fields many row_in
parsed-fine k test bytes zero from l e = record { there = omega (arith, mul-zero k); pass = λ a m. absurd (let x : ⊥ = omega arith in x) }
parsed-fine k test bytes (suc count) from l e =
    bind-got e (λ v next q rest.
    bind-got rest (λ ys last rest' _.
    let g = field-got q in
    let later = parsed-fine k test bytes count next g.inside rest' in
    record {
      there = rw (mul-suc k count) (omega (arith, later.there, g.ends));
      pass = pass-more g later;
    }))

-- ---- all at once

-- Rows that are fine are parsed, all of them.
module _ {k : ℕ} {test : ℕ → Test} {bytes : List ℕ} {from count : ℕ} (rows : RowsFine k test bytes from count) where
  row-got : (a : ℕ) → a < count → field k test bytes (from + k * a) ≡ got (row_in k bytes from a) (from + k * suc a)
  unfolding read_of row_in
  row-got a l =
      let e : from + k * suc a ≡ from + k * a + k = omega (arith, mul-suc k a) in
      field-fine k test bytes (from + k * a) refl e (omega (arith, row_inside k l, rows.there)) (rows.pass a l)

  all-so-far : (a : ℕ) → a ≤ count → RowsSoFar k test bytes from count (from + k * a) a
  all-so-far zero l = rw (let z : from + k * 0 ≡ from = omega (arith, mul-zero k) in z) (rows_none (omega (arith, rows.there)))
  all-so-far (suc a) l = rw (add-one a) at (rows_more (all-so-far a (omega arith)) (omega arith) (row-got a (omega arith)))

  pub fine-parsed : fields k test count bytes from ≡ got (tabulate count (row_in k bytes from)) (from + k * count)
  unfolding read_as
  fine-parsed = rows_end (all-so-far count (omega arith)) (omega arith)

-- ---- stored and joined

pub joined-none : {w k : ℕ} {bytes : List ℕ} {from i j : ℕ} {rows : List ℕ} → RowsJoined w k bytes from i j 0 rows rows 0 true
unfolding some every
joined-none {w} = record { stored = stored-none w; union_is = sym (empty w _ (word_lt w _) (λ v l. has_word w _ v l)); filled_is = refl }

pub joined-more : {w k : ℕ} {bytes : List ℕ} {from i j : ℕ} {before rows after : List ℕ} {a union row union' : ℕ} {filled : Bool}
    → RowsJoined w k bytes from i j a before rows union filled → row ≡ number_at k bytes (from + k * a) → RowPut w rows after i j a row
    → union' ≡ word w (λ (v : ℕ). or (has union v) (has row v)) → RowsJoined w k bytes from i j (a + 1) before after union' (filled && ltb 0 row)
unfolding row_in some
joined-more {w} {i} {j} {before} {rows} {after} {a} {union} {row} joined here put e =
    record {
      stored = rw (add-one a) (stored_more w before rows after i j _ a row joined.stored put (λ b l. rw here));
      union_is = rw (add-one a) (e ∙ word-cong w _ _ (λ v l. or_comm (has union v) (has row v) ∙ rw (here, joined.union_is) (ap (or _) (has_word w _ v l))));
      filled_is = test-joins _ a joined.filled_is (ap (ltb 0) here);
    }

-- ---- all of it

-- The bytes of all rows are few.
pub rows_few : {k count : ℕ} → k ≤ 4 → count ≤ 32 → k * count ≤ 128
rows_few l m = mul-le-mul l m

-- A row of four bytes or fewer has at most 32 bits.
pub rows_fit : {k : ℕ} → k ≤ 4 → 256 ^ k ≤ 2 ^ 32
rows_fit few = omega (arith, pow-le-pow_right {n = 256} (omega arith) few)

-- Rows that are cut off are not fine.
pub rows_cut : {w k : ℕ} {test : ℕ → Test} {bytes : List ℕ} {from i j count : ℕ} {before after : List ℕ} → length bytes < from + k * count
    → RowsTaken w k test bytes from i j count before after false
rows_cut h = record { told = (λ t. clash t refl, λ _ rows. omega (arith, rows.there)); stored = λ t. clash t refl }

module _
    {w k : ℕ} {bytes : List ℕ} {from i j count : ℕ} {before after : List ℕ} {union : ℕ} {filled : Bool}
    (joined : RowsJoined w k bytes from i j count before after union filled) (octets : Octets bytes) (fits : 256 ^ k ≤ 2 ^ w) (there : from + k * count ≤ length bytes)
  where
    row_below : (a : ℕ) → row_in k bytes from a < 2 ^ w
    unfolding row_in
    row_below a = omega (arith, number-below bytes octets k (from + k * a))

    -- What a row has, the union has.
    row-in-union : (a v : ℕ) → a < count → v < w → has (row_in k bytes from a) v ≡ true → has union v ≡ true
    row-in-union a v l m h = rw joined.union_is (has_word w _ v m ∙ some-i count _ a l h)

    -- A union within the size is that every row is.
    rows-within : (size : ℕ) → every w (λ (v : ℕ). implies (has union v) (ltb v size)) ≡ true → (a : ℕ) → a < count → row_in k bytes from a < 2 ^ size
    rows-within size t a l =
        within w (row_in k bytes from a) size (row_below a)
        (λ v m n. not-true→false _ (λ h.
        let x : ⊥ = omega (arith, ltb-true v size (implies-e _ _ (every-e w _ t v n) (row-in-union a v l n h))) in x))

    union-within : (size : ℕ) → ((a : ℕ) → a < count → row_in k bytes from a < 2 ^ size) → every w (λ (v : ℕ). implies (has union v) (ltb v size)) ≡ true
    union-within size h =
        every-i w _ (λ v l. implies-i _ _ (λ m.
        some-e count _ (sym (has_word w _ v l) ∙ rw joined.union_is at m) (λ a below q. lt-ltb v size (has-below size _ v q (h a below)))))

    module _ (size : ℕ) {inside : Bool} (is : inside ≡ every w (λ (v : ℕ). implies (has union v) (ltb v size))) where
      -- Where rows may be all-zero the union decides.
      pub union-decides : RowsTaken w k (row_test false size) bytes from i j count before after inside
      union-decides =
          record {
            told = (
              λ t. record { there = there; pass = λ a l. fine-row false size _ (rows-within size (sym is ∙ t) a l) (λ f. clash f refl) },
              λ f rows. clash (is ∙ union-within size (λ a l. (row-of-fine false size _ (rows.pass a l)).0)) f,
            );
            stored = λ t. joined.stored;
          }

      -- Where they must be filled, that and whether none is all-zero.
      pub both-decide : RowsTaken w k (row_test true size) bytes from i j count before after (inside && filled)
      both-decide =
          record {
            told = (
              λ t. let b = sym (machine-and _ _) ∙ t in
                  record {
                    there = there;
                    pass = λ a l. fine-row true size _ (rows-within size (sym is ∙ and_l _ _ b) a l)
                        (λ f. ltb-true 0 _ (every-e count _ (sym joined.filled_is ∙ and_r _ _ b) a l));
                  },
              λ f rows. clash
                  (machine-and _ _ ∙ and_i _ _
                  (is ∙ union-within size (λ a l. (row-of-fine true size _ (rows.pass a l)).0))
                  (joined.filled_is ∙ every-i count _ (λ a l. lt-ltb 0 _ ((row-of-fine true size _ (rows.pass a l)).1 refl))))
                  f,
            );
            stored = λ t. joined.stored;
          }
