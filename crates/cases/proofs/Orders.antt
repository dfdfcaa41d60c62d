-- Two orders of steps on one sheet, by computation on its network; and that the builds agree, from demand 3.
use mathlib.Core.Bool.{true}
use mathlib.Core.List.{List, [], ◌∷◌}
use mathlib.Core.Logic.{◌↔◌}
use mathlib.Core.Path.{◌≡◌, refl, sym, ap, ◌∙◌}
use Prim.Native.Nat.{ℕ, ◌<◌}
use lib.ListN.{get_or, replicate}
use Rattle.bounded.specs.Bool.{and, or, implies, not, bit, if}
use Rattle.bounded.specs.Fold.{every, some, sum, count, first}
use Rattle.bounded.specs.Table.{tabulate}
use Rattle.words.specs.Word.{has}
use Rattle.network.specs.Network.{Network, free, partner, functional}
use Rattle.network.specs.Step.{outside, refusal, legal, trimmed, third, joined, composed, eliminate, relisted, followers_trimmed, followed}
use Rattle.network.specs.Reduction.{leading, next_leader, lowest_follower, one_more, run_within, reduce_within, reduce}
use Rattle.network.specs.Completion.{Verdict, BUILT, OPEN, follow, completed, choice_in_domains, choice_pairs_allow, allowed_choice, lowest, exhausted, decided, verdict, lowest_solution, shown}
use Rattle.network.specs.Count.{put, sum_tuples, count_tuples, choice_size, choice_count}
use Rattle.network.specs.Sheet.{Sheet, is_for, tabled, row_for, network_of}
use Rattle.network.specs.Calls.{Call, refuses, made, answer, after, tableless}
use Rattle.format.specs.Layout.{count_test, size_test, constraints_test, out_of_range, pair_test, row_test, longest, version1, version2, version3, layouts, layout_among}
use Rattle.format.specs.Parse.{got, bind, number_at, judged, field, many, fields, pair_of, size_of, parse_table, parse_tables, ended, parse_body, wrong_under, parse_in, parse_under, parse}
use Rattle.head.specs.Held.{head_of}
use Rattle.answers.specs.Answers.{says, rules}
use Rattle.state.specs.declared.state.State.{State}
use Rattle.state.specs.View.{pack}
use Rattle.state.specs.Answers.{ReadTold}
use Rattle.state.specs.Read.{read_sheet}
use Rattle.state.specs.Solutions.{verdict_of}
use Rattle.state.proofs.Solutions.{verdict-of}
use Rattle.state_read.proofs.RoundTrip.{Accepted, read-got, got-accepted}
use Rattle.promise.specs.Promise.{last_state, last_network, network_read, Demand3}
use Rattle.promise.proofs.Promise.{Serves, serves, promise, demand3, tables-none}
use Rattle.cases.specs.Orders.{bytes_orders, reducing, stepping, OrdersDiffer, OrdersAgree}
use Rattle.cases.proofs.CaseA.{octet}

sheet_orders : Sheet
sheet_orders =
    record {
      sizes = 2 ∷ 2 ∷ 2 ∷ 3 ∷ [];
      tables =
          record { first = 1; second = 2; rows = 2 ∷ 2 ∷ [] }
          ∷ record { first = 2; second = 4; rows = 0 ∷ 5 ∷ [] }
          ∷ record { first = 3; second = 4; rows = 3 ∷ 2 ∷ [] } ∷ [];
    }

parsed : parse bytes_orders ≡ got sheet_orders 27
unfolding and or not if count_test size_test constraints_test out_of_range pair_test row_test longest version1 version2 version3 layouts layout_among bind number_at judged field many fields pair_of size_of parse_table parse_tables ended parse_body wrong_under parse_in parse_under parse bytes_orders sheet_orders
parsed = refl

octets : (k : ℕ) → get_or bytes_orders k 0 < 256
unfolding every and bytes_orders
octets = octet bytes_orders refl

taken : (read_sheet bytes_orders).number ≡ 0
taken = ap (λ (r : ReadTold). r.number) (read-got bytes_orders sheet_orders 27 parsed)

accepted-orders : Accepted bytes_orders sheet_orders
accepted-orders = got-accepted bytes_orders octets sheet_orders 27 parsed

-- What is computed of the network that a list of calls leaves.
record Leaves (M : Network) (leaders : List ℕ) (ending : Verdict) (build : List ℕ) : Type 0 where
  led : tabulate 16 M.leader ≡ leaders
  ruled : verdict M ≡ ending
  shows : tabulate 16 (shown M) ≡ build

reduced-leaves : Leaves (after (network_of sheet_orders) reducing) (0 ∷ 1 ∷ 0 ∷ 0 ∷ replicate 12 0) OPEN (replicate 16 0)
unfolding and or implies not bit if every some sum count first has free partner functional outside refusal legal trimmed third joined composed eliminate relisted followers_trimmed followed leading next_leader lowest_follower one_more run_within reduce_within reduce refuses made answer after is_for tabled row_for network_of sheet_orders tabulate exhausted decided verdict shown reducing
reduced-leaves = record { led = refl; ruled = refl; shows = refl }

stepped-leaves : Leaves (after (network_of sheet_orders) stepping) (0 ∷ 1 ∷ 1 ∷ 1 ∷ replicate 12 0) BUILT (0 ∷ 1 ∷ 0 ∷ 0 ∷ replicate 12 0)
unfolding and or implies not bit if every some sum count first has free partner functional outside refusal legal trimmed third joined composed eliminate relisted followers_trimmed followed refuses made answer after is_for tabled row_for network_of sheet_orders tabulate follow completed lowest exhausted decided verdict lowest_solution shown stepping
stepped-leaves = record { led = refl; ruled = refl; shows = refl }

two : choice_count (after (network_of sheet_orders) []) ≡ 2
unfolding and or implies not bit if every sum has free choice_in_domains choice_pairs_allow allowed_choice put sum_tuples count_tuples choice_size choice_count after is_for tabled row_for network_of sheet_orders
two = refl

-- The state that the calls hand back last holds that network.
module _ (cs : List Call) where
  last-is : last_network bytes_orders cs ≡ after (network_of sheet_orders) cs
  unfolding last_network network_read
  last-is = rw parsed

  module _ {leaders build : List ℕ} {ending : Verdict} (l : Leaves (after (network_of sheet_orders) cs) leaders ending build) where
    last-leaders : (last_state bytes_orders cs).leaders ≡ leaders
    unfolding pack head_of
    last-leaders =
        ap (λ (s : State). s.leaders) (promise bytes_orders octets taken sheet_orders accepted-orders cs).packed
        ∙ ap (λ (M : Network). tabulate 16 M.leader) last-is ∙ l.led

    last-verdict : verdict_of (last_state bytes_orders cs) ≡ rules ending build
    last-verdict =
        let S = serves bytes_orders octets taken sheet_orders accepted-orders cs in
        verdict-of (last_state bytes_orders cs) S.sound
        ∙ ap (λ (M : Network). rules (verdict M) (tabulate 16 (shown M))) (S.holds ∙ last-is)
        ∙ (λ z. rules (l.ruled z) (l.shows z))

pub orders-differ : OrdersDiffer
orders-differ =
    record {
      accepted = taken;
      three_live = last-leaders reducing reduced-leaves;
      one_live = last-leaders stepping stepped-leaves;
      reaches_open = last-verdict reducing reduced-leaves;
      reaches_built = last-verdict stepping stepped-leaves;
      two_builds = sym (promise bytes_orders octets taken sheet_orders accepted-orders []).counted ∙ ap choice_count (last-is []) ∙ two;
    }

pub orders-agree : OrdersAgree
unfolding Demand3 OrdersAgree
orders-agree bytes octets h cs ds e f b =
    let p = (demand3 bytes octets h cs).tester b in
    let q = (demand3 bytes octets h ds).tester b in
    let same = (tables-none bytes octets h cs).same_builds e b ∙ sym ((tables-none bytes octets h ds).same_builds f b) in
    ((λ y. q.1 (sym same ∙ p.0 y)), (λ y. p.1 (same ∙ q.0 y)))
