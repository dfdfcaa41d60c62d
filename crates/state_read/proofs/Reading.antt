-- What reading into arrays comes to as a state.
use mathlib.Core.List.{List}
use mathlib.Core.Path.{◌≡◌, refl, sym, ◌∙◌, ap}
use Prim.Native.Nat.{ℕ, ◌+◌, ◌≤◌, ◌<◌}
use native.Mathlib.Omega.{arith}
use lib.Dec.{ltb}
use lib.ListN.{length, get_or, set, replicate, get_or-eq_default}
use lib.Seq.{get_or-set_other}
use borrow.Author.Tests.{le-ltb, ltb-true, ltb-false}
use Rattle.bounded.specs.Table.{tabulate}
use Rattle.bounded.proofs.Bool.{by_cases}
use Rattle.bounded.proofs.Fill.{Filled, filled_none, filled_more, zeros-at, zeros-length}
use Rattle.bounded.proofs.Table.{is-table, tabulate-cong, get_d_tabulate, get_d-tabulate-past}
use Rattle.words.specs.Word.{width, word}
use Rattle.words.proofs.Laws.{has_word, word-cong, word_lt, empty}
use Rattle.cause.specs.declared.Cause.{Cause}
use Rattle.network.specs.Sheet.{Sheet, network_of}
use Rattle.pairs.specs.Pairs.{variables}
use Rattle.head.specs.declared.Head.{Head}
use Rattle.head.specs.Held.{values_at_most, head_of, zero_head, zero_rows}
use Rattle.format.specs.Parse.{Octets, bad, parse}
use Rattle.format.proofs.RoundTrip as format
use Rattle.format.proofs.SheetOf.{wellformed-size}
use Rattle.std.specs.Prelude.{Result, Ok, Err}
use Rattle.cause.specs.declared.Refusal.{Refusal}
use Rattle.read_field.specs.declared.field.Field.{Field}
use Rattle.read_field.proofs.Fields.{as-got, as-bad}
use Rattle.read_body.specs.Reading.{Holds, SheetRead}
use Rattle.state.specs.View.{state_of, pack, state_of_zeros}
use Rattle.state.specs.Read.{read_as, read_sheet}
use Rattle.state_read.specs.Parts.{read_parts_told}

-- The domains that are full for the sizes in an array.
unfoldable pub full_domains : List ℕ → List ℕ
full_domains sizes = tabulate variables (λ (i : ℕ). word width (λ (a : ℕ). ltb a (get_or sizes i 0)))

-- The head of arrays as just read.
unfoldable pub head_read : ℕ → List ℕ → List ℕ → Head
head_read n sizes stated = record { n = n; sizes = sizes; domains = full_domains sizes; leaders = replicate variables 0; stated = stated }

read-domains : (s : Sheet) (sizes : List ℕ) → sizes ≡ tabulate variables (network_of s).size
    → full_domains sizes ≡ tabulate variables (λ (k : ℕ). word width ((network_of s).domain k))
unfolding full_domains network_of
read-domains s sizes e =
    tabulate-cong variables _ _
    (λ k h. word-cong width _ _ (λ a l. ap (ltb a) (ap (λ (xs : List ℕ). get_or xs k 0) e ∙ get_d_tabulate variables _ k 0 h)))

read_head : (s : Sheet) (n : ℕ) (sizes stated rows : List ℕ) → n ≡ length s.sizes → Holds s sizes stated rows
    → head_read n sizes stated ≡ head_of (network_of s)
unfolding head_read head_of network_of tabulate
read_head s n sizes stated rows e H =
    λ i. record {
      n = e i;
      sizes = H.sizes_are i;
      domains = read-domains s sizes H.sizes_are i;
      leaders = replicate variables 0;
      stated = H.stated_are i;
    }

-- A refusal: its number, its place and the zero state.
pub refused-told : (r : Refusal) → read_parts_told (Err r) zero_rows ≡ read_as (bad r.cause r.place)
unfolding read_as read_parts_told state_of_zeros
refused-told r = refl

module _ (bytes : List ℕ) {sizes stated rows : List ℕ} {r : Result Field Refusal} (R : SheetRead (parse bytes) sizes stated rows r) where
  -- An accepted sheet: the state of the arrays is the one of its network.
  pub read-accepted : {count : Field} → r ≡ Ok count
      → read_parts_told (Ok (head_read count.value sizes stated)) rows ≡ read_sheet bytes
  unfolding read_sheet read_as read_parts_told pack
  read-accepted {count} e =
      let H = R.holds count e in
      rw (as-got _ r _ count R.parsed e)
      (λ i. record { number = 0; place = 0; state = state_of (read_head R.sheet count.value sizes stated rows (R.count_is count e) H i) (H.rows_are i) })

  -- A refused one.
  pub read-refused : {refusal : Refusal} → r ≡ Err refusal → read_as (bad refusal.cause refusal.place) ≡ read_sheet bytes
  unfolding read_sheet
  read-refused {refusal} e = sym (ap read_as (as-bad _ r _ refusal R.parsed e))

  -- The sizes of an accepted sheet are at most 16, 0 past them,
  pub read_past : {count : Field} → r ≡ Ok count → (i : ℕ) → count.value ≤ i → get_or sizes i 0 ≡ 0
  unfolding network_of
  read_past {count} e i l =
      by_cases (ltb i variables)
      (λ t. ap (λ (xs : List ℕ). get_or xs i 0) (R.holds count e).sizes_are ∙ get_d_tabulate variables _ i 0 (ltb-true i variables t)
      ∙ get_or-eq_default R.sheet.sizes 0 (omega (arith, R.count_is count e)))
      (λ t. ap (λ (xs : List ℕ). get_or xs i 0) (R.holds count e).sizes_are ∙ get_d-tabulate-past variables _ i 0 (ltb-false i variables t))

  pub read-few : Octets bytes → {count : Field} → r ≡ Ok count → count.value ≤ variables
  read-few octets {count} e =
      let f = format.parsed bytes octets R.sheet count.next (as-got _ r _ count R.parsed e) in
      omega (arith, R.count_is count e, f.body.well_formed.most_variables)

  -- and small.
  pub read-sizes : Octets bytes → {count : Field} → r ≡ Ok count → (i : ℕ) → get_or sizes i 0 ≤ values_at_most
  read-sizes octets {count} e i =
      let is : sizes ≡ tabulate variables (network_of R.sheet).size = (R.holds count e).sizes_are in
      by_cases (ltb i variables)
      (λ t. let b : get_or sizes i 0 ≡ (network_of R.sheet).size i
      = ap (λ (xs : List ℕ). get_or xs i 0) is ∙ get_d_tabulate variables _ i 0 (ltb-true i variables t) in
      let f = format.parsed bytes octets R.sheet count.next (as-got _ r _ count R.parsed e) in
      omega (arith, wellformed-size f.layout f.usable R.sheet f.body.well_formed i))
      (λ t. let b : get_or sizes i 0 ≡ 0
      = ap (λ (xs : List ℕ). get_or xs i 0) is ∙ get_d-tabulate-past variables _ i 0 (ltb-false i variables t) in
      omega arith)
