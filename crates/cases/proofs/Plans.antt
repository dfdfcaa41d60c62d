-- An order that does not keep a strongly connected part together, by computation on the network of its sheet.
use mathlib.Core.Bool.{true, false}
use mathlib.Core.List.{[], ◌∷◌}
use mathlib.Core.Path.{◌≡◌, refl, sym, ap, subst, ◌∙◌}
use Prim.Native.Nat.{ℕ, ◌≤◌, ◌<◌}
use native.Mathlib.Omega.{arith}
use lib.ListN.{get_or, replicate}
use Rattle.bounded.specs.Bool.{and, or, implies, not, bit, if}
use Rattle.bounded.specs.Fold.{every, some, sum, count, first}
use Rattle.bounded.specs.Table.{tabulate}
use Rattle.bounded.proofs.Bool.{clash}
use Rattle.words.specs.Word.{has}
use Rattle.network.specs.Network.{Network, partner, functional}
use Rattle.network.specs.Reach.{via, leads_to, reach}
use Rattle.network.specs.Order.{each_comes_once, good, permitted, placed, found, good_order, found_order, order_of, order_refusal, find_refusal, test_order, find_order, Assembled}
use Rattle.network.specs.Sheet.{Sheet, is_for, tabled, row_for, network_of}
use Rattle.network.proofs.Reach.{reach-path}
use Rattle.format.specs.Layout.{count_test, size_test, constraints_test, out_of_range, pair_test, row_test, longest, version1, version2, version3, layouts, layout_among}
use Rattle.format.specs.Parse.{got, bind, number_at, judged, field, many, fields, pair_of, size_of, parse_table, parse_tables, ended, parse_body, wrong_under, parse_in, parse_under, parse}
use Rattle.head.specs.Held.{held}
use Rattle.answers.specs.Answers.{says}
use Rattle.state.specs.View.{view}
use Rattle.state.specs.Answers.{ReadTold}
use Rattle.state.specs.Read.{read_sheet}
use Rattle.state_read.proofs.RoundTrip.{Accepted, AsRead, read-got, read-sound, got-accepted}
use Rattle.state_order.proofs.Orders.{order-own, told-says, find-own, buffer-found}
use Rattle.cases.specs.Plans.{bytes_apart, PartApart}
use Rattle.cases.proofs.CaseA.{octet}

sheet_apart : Sheet
sheet_apart = record { sizes = 2 ∷ 2 ∷ 2 ∷ []; tables = record { first = 1; second = 3; rows = 1 ∷ 2 ∷ [] } ∷ [] }

parsed : parse bytes_apart ≡ got sheet_apart 14
unfolding and or not if count_test size_test constraints_test out_of_range pair_test row_test longest version1 version2 version3 layouts layout_among bind number_at judged field many fields pair_of size_of parse_table parse_tables ended parse_body wrong_under parse_in parse_under parse bytes_apart sheet_apart
parsed = refl

octets : (k : ℕ) → get_or bytes_apart k 0 < 256
unfolding every and bytes_apart
octets = octet bytes_apart refl

taken : (read_sheet bytes_apart).number ≡ 0
taken = ap (λ (r : ReadTold). r.number) (read-got bytes_apart sheet_apart 14 parsed)

accepted-apart : Accepted bytes_apart sheet_apart
accepted-apart = got-accepted bytes_apart octets sheet_apart 14 parsed

as_read : AsRead (read_sheet bytes_apart).state
as_read = read-sound bytes_apart octets taken

-- Everything that is computed of the network.
record Computed (N : Network) : Type 0 where
  three : N.n ≡ 3
  to_last : reach N 0 2 ≡ true
  to_first : reach N 2 0 ≡ true
  apart : reach N 0 1 ≡ false
  each_once : order_refusal N (1 ∷ 2 ∷ 3 ∷ []) ≡ 0
  is_good : test_order N (1 ∷ 2 ∷ 3 ∷ []) ≡ true
  fits : find_refusal N 3 ≡ 0
  is_found : find_order N ≡ 1 ∷ 2 ∷ 3 ∷ []

computed-sheet : Computed (network_of sheet_apart)
unfolding and or implies not bit if every some sum count first has partner functional via leads_to reach each_comes_once good permitted placed found good_order found_order order_of order_refusal find_refusal test_order find_order tabulate is_for tabled row_for network_of sheet_apart
computed-sheet =
    record { three = refl; to_last = refl; to_first = refl; apart = refl; each_once = refl; is_good = refl; fits = refl; is_found = refl }

computed : Computed (view (read_sheet bytes_apart).state)
computed = subst Computed (sym accepted-apart.view_is) computed-sheet

-- An assembled order has all of 1's part before 2, or after it.
not_built : (part : ℕ → ℕ)
    → Assembled (read_sheet bytes_apart).state.n (leads_to (view (read_sheet bytes_apart).state)) (order_of (1 ∷ 2 ∷ 3 ∷ [])) part
    → ⊥
unfolding order_of held
not_built part A =
    let N = view (read_sheet bytes_apart).state in
    let path = reach-path N (rw accepted-apart.view_is accepted-apart.sheet_sound) in
    let k : (read_sheet bytes_apart).state.n ≡ 3 = computed.three in
    let same : part 0 ≡ part 2 = A.one_part 0 2 (omega arith) (omega arith) ((path 0 2).0 computed.to_last) ((path 2 0).0 computed.to_first) in
    let a : part 0 ≤ part 1 = A.in_parts 0 1 (omega arith) (omega arith) in
    let b : part 1 ≤ part 2 = A.in_parts 1 2 (omega arith) (omega arith) in
    clash ((path 0 1).1 (A.same_part 0 1 (omega arith) (omega arith) (omega arith))) computed.apart

pub part_apart : PartApart
part_apart =
    let s = (read_sheet bytes_apart).state in
    record {
      accepted = taken;
      found = buffer-found s (replicate 3 0) (find-own s (replicate 3 0) as_read.is_sound ∙ computed.fits) ∙ computed.is_found;
      good = told-says s (1 ∷ 2 ∷ 3 ∷ []) (order-own s (1 ∷ 2 ∷ 3 ∷ []) as_read.is_sound ∙ computed.each_once) ∙ ap says computed.is_good;
      not_built = not_built;
    }
