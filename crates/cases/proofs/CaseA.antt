-- Case A by computation, through the definition of reading. The rows are compared at the values of the three variables alone: both networks are
-- sound, so neither allows anything elsewhere.
use mathlib.Core.Bool.{Bool, true}
use mathlib.Core.List.{List, [], ◌∷◌}
use mathlib.Core.Path.{◌≡◌, refl, sym, ap, ◌∙◌, fun_ext}
use Prim.Native.Nat.{ℕ, zero, suc, ◌≤◌, ◌<◌}
use native.Mathlib.Omega.{arith}
use lib.Dec.{ltb}
use lib.ListN.{length, get_or, replicate, get_or-eq_default}
use borrow.Author.Tests.{ltb-true, ltb-false}
use Rattle.bounded.specs.Bool.{and, or, implies, not, bit, if}
use Rattle.bounded.specs.Fold.{every, some, sum, count, first}
use Rattle.bounded.specs.Table.{tabulate}
use Rattle.bounded.proofs.Bool.{by_cases, bool-ext, and_l, and_r, implies-e}
use Rattle.bounded.proofs.Fold.{every-e}
use Rattle.words.specs.Word.{width, has, word}
use Rattle.network.specs.Network.{Network, free, partner, functional}
use Rattle.network.specs.Sound.{Sound}
use Rattle.network.specs.Promise.{Keeps}
use Rattle.network.specs.Step.{outside, refusal, legal, trimmed, third, joined, composed, eliminate, relisted, followers_trimmed, followed}
use Rattle.network.specs.Reduction.{free_count, leading, reducible, next_leader, lowest_follower, next_follower, advance, one_more, run_within, reduce_within, reduce}
use Rattle.network.specs.Sheet.{Sheet, is_for, tabled, row_for, network_of}
use Rattle.network.specs.Completion.{BUILT, follow, completed, lowest, exhausted, decided, verdict, lowest_solution, shown}
use Rattle.network.proofs.Reduction.{reduce-run, run-keeps}
use Rattle.format.specs.Layout.{count_test, size_test, constraints_test, out_of_range, pair_test, row_test, longest, version1, version2, version3, layouts, layout_among}
use Rattle.format.specs.Parse.{got, bind, number_at, judged, field, many, fields, pair_of, size_of, parse_table, parse_tables, ended, parse_body, wrong_under, parse_in, parse_under, parse}
use Rattle.pairs.specs.Pairs.{variables, rows_of}
use Rattle.head.specs.Held.{head_of}
use Rattle.head.proofs.Held.{Packed, pack-sound}
use Rattle.state.specs.declared.state.State.{State}
use Rattle.answers.specs.Answers.{rules}
use Rattle.state.specs.View.{pack}
use Rattle.state.specs.Answers.{ReadTold}
use Rattle.state.specs.Cut.{cut_accepted, cut_sheet}
use Rattle.state.specs.Read.{read_sheet}
use Rattle.state.specs.Solutions.{verdict_of}
use Rattle.state.specs.Steps.{reduced, reduced_as}
use Rattle.state.proofs.View.{packed-view, packed-state}
use Rattle.state.proofs.Solutions.{verdict-of}
use Rattle.state.proofs.Cut.{cut-taken}
use Rattle.state.proofs.Steps.{reduced-done}
use Rattle.state_read.proofs.RoundTrip.{Accepted, read-got, read-sound, got-accepted}
use Rattle.buffers.specs.Digits.{decimal_within, decimal, hex_digit, hex_text}
use Rattle.text_lines.specs.Text.{ascii, pair_line, live_line, option_line, option_lines}
use Rattle.text_verdict.specs.Text.{value_text, value_texts, built_text, ruled_text, verdict_text}
use Rattle.text_report.specs.Text.{cut_text, text_as, text_of}
use Rattle.cases.specs.CaseA.{bytes_a, bytes_last, state_last, reduced_a, cut_a, text_a}

sheet_a : Sheet
sheet_a =
    record {
      sizes = 2 ∷ 3 ∷ 2 ∷ [];
      tables = record { first = 1; second = 2; rows = 1 ∷ 4 ∷ [] } ∷ record { first = 2; second = 3; rows = 2 ∷ 1 ∷ 1 ∷ [] } ∷ [];
    }

sheet_last : Sheet
sheet_last =
    record {
      sizes = 2 ∷ 3 ∷ 2 ∷ [];
      tables = record { first = 1; second = 2; rows = 1 ∷ 4 ∷ [] } ∷ record { first = 1; second = 3; rows = 2 ∷ 1 ∷ [] } ∷ [];
    }

parsed-A : parse bytes_a ≡ got sheet_a 22
unfolding and or not if count_test size_test constraints_test out_of_range pair_test row_test longest version1 version2 version3 layouts layout_among bind number_at judged field many fields pair_of size_of parse_table parse_tables ended parse_body wrong_under parse_in parse_under parse bytes_a sheet_a
parsed-A = refl

parsed-last : parse bytes_last ≡ got sheet_last 20
unfolding and or not if count_test size_test constraints_test out_of_range pair_test row_test longest version1 version2 version3 layouts layout_among bind number_at judged field many fields pair_of size_of parse_table parse_tables ended parse_body wrong_under parse_in parse_under parse bytes_last sheet_last
parsed-last = refl

-- Bytes are below 256.
pub octet : (bytes : List ℕ) → every (length bytes) (λ (k : ℕ). ltb (get_or bytes k 0) 256) ≡ true → (k : ℕ) → get_or bytes k 0 < 256
octet bytes h k =
    by_cases (ltb k (length bytes))
    (λ t. ltb-true _ _ (every-e _ _ h k (ltb-true _ _ t)))
    (λ t. rw (get_or-eq_default bytes 0 (ltb-false _ _ t)) (omega arith))

octets-A : (k : ℕ) → get_or bytes_a k 0 < 256
unfolding every and bytes_a
octets-A = octet bytes_a refl

octets-last : (k : ℕ) → get_or bytes_last k 0 < 256
unfolding every and bytes_last
octets-last = octet bytes_last refl

accepted-A : Accepted bytes_a sheet_a
accepted-A = got-accepted bytes_a octets-A sheet_a 22 parsed-A

accepted-last : Accepted bytes_last sheet_last
accepted-last = got-accepted bytes_last octets-last sheet_last 20 parsed-last

-- The network that the full reduction leaves.
last : Network
last = (reduce (network_of sheet_a)).network

keeps : Keeps (network_of sheet_a) last (λ (f : ℕ → ℕ). true)
unfolding last
keeps = run-keeps accepted-A.sheet_sound (reduce-run (network_of sheet_a))

-- What a network of A's sizes allows is within them.
module _ (N : Network) (S : Sound N) (three : N.n ≡ 3) (small : (i : ℕ) → N.size i ≤ 3) where
  within : (i j a b : ℕ) → N.allows i j a b ≡ true → (i < 3) × (j < 3) × (a < 3) × (b < 3)
  within i j a b h =
      let (p, q) = S.stated_in i j (S.allows_stated i j a b h) in
      let (u, v) = S.allows_in i j a b h in
      (omega arith, omega arith, omega (arith, small i), omega (arith, small j))

sizes-small : (i : ℕ) → get_or (2 ∷ 3 ∷ 2 ∷ []) i 0 ≤ 3
sizes-small zero = omega arith
sizes-small (suc zero) = omega arith
sizes-small (suc (suc zero)) = omega arith
sizes-small (suc (suc (suc i))) = omega arith

same : Bool → Bool → Bool
same x y = and (implies x y) (implies y x)

-- Everything that is computed: what each pair allows, the other arrays, the steps, and the verdict with its solution.
record Computed : Type 0 where
  pairs : every 3 (λ (i : ℕ). every 3 (λ (j : ℕ). every 3 (λ (a : ℕ). every 3 (λ (b : ℕ).
      same (last.allows i j a b) ((network_of sheet_last).allows i j a b))))) ≡ true
  sizes : tabulate variables last.size ≡ state_last.sizes
  domains : tabulate variables (λ (i : ℕ). word width (last.domain i)) ≡ state_last.domains
  leaders : tabulate variables last.leader ≡ state_last.leaders
  stated : tabulate variables (λ (i : ℕ). word width (last.stated i)) ≡ state_last.stated
  steps : (reduce (network_of sheet_a)).steps ≡ 2
  ruled : verdict last ≡ BUILT
  build : tabulate 16 (shown last) ≡ 0 ∷ 0 ∷ 1 ∷ replicate 13 0

computed : Computed
unfolding and or implies not bit if every some sum count first has word free partner functional outside refusal legal trimmed third joined composed eliminate relisted followers_trimmed followed free_count leading reducible next_leader lowest_follower next_follower advance one_more run_within reduce_within reduce is_for tabled row_for network_of sheet_a sheet_last same last tabulate state_last follow completed lowest exhausted decided verdict lowest_solution shown
computed = record { pairs = refl; sizes = refl; domains = refl; leaders = refl; stated = refl; steps = refl; ruled = refl; build = refl }

same-pair : (i j a b : ℕ) → last.allows i j a b ≡ (network_of sheet_last).allows i j a b
unfolding same network_of sheet_a sheet_last
same-pair i j a b =
    let at : (i < 3) × (j < 3) × (a < 3) × (b < 3) → same (last.allows i j a b) ((network_of sheet_last).allows i j a b) ≡ true =
    λ (p, q, u, v). every-e _ _ (every-e _ _ (every-e _ _ (every-e _ _ computed.pairs i p) j q) a u) b v in
    bool-ext _ _
    (λ h. implies-e _ _ (and_l _ _ (at (within last keeps.still_sound keeps.same_n (λ x. rw (keeps.same_size x) (sizes-small x)) i j a b h))) h)
    (λ h. implies-e _ _ (and_r _ _ (at (within (network_of sheet_last) accepted-last.sheet_sound refl sizes-small i j a b h))) h)

same_rows : rows_of width last.allows ≡ (read_sheet bytes_last).state.rows
unfolding pack
same_rows =
    ap (rows_of width) (fun_ext (λ i. fun_ext (λ j. fun_ext (λ a. fun_ext (λ b. same-pair i j a b)))))
    ∙ ap (λ (s : State). s.rows) (sym accepted-last.state_is)

last-state : pack last ≡ state_last
unfolding pack head_of state_last network_of sheet_a
last-state = λ z. record {
  n = keeps.same_n z;
  sizes = computed.sizes z;
  domains = computed.domains z;
  leaders = computed.leaders z;
  stated = computed.stated z;
  rows = same_rows z;
}

packed : Packed last
unfolding network_of sheet_a
packed =
    let few : last.n ≤ variables = rw keeps.same_n (omega arith) in
    pack-sound last keeps.still_sound few (λ i. rw (keeps.same_size i) (omega (arith, sizes-small i)))

verdict-A : verdict_of state_last ≡ rules BUILT (0 ∷ 0 ∷ 1 ∷ replicate 13 0)
verdict-A =
    rw (← last-state) (verdict-of (pack last) (packed-state packed))
    ∙ ap (λ (N : Network). rules (verdict N) (tabulate 16 (shown N))) (packed-view packed)
    ∙ (λ z. rules (computed.ruled z) (computed.build z))

-- Case A: the sheet is accepted, and its full reduction leaves this state after 2 steps.
pub case-A : ((read_sheet bytes_a).number ≡ 0) × (reduced (read_sheet bytes_a).state ≡ reduced_a)
unfolding reduced_as reduced_a last
case-A =
    let e = read-got bytes_a sheet_a 22 parsed-A in
    let number = ap (λ (r : ReadTold). r.number) e in
    let r = read-sound bytes_a octets-A number in (
      number,
      reduced-done (read_sheet bytes_a).state r.is_sound
          ∙ ap (λ (N : Network). reduced_as (reduce N)) accepted-A.view_is
          ∙ (λ z. record { number = 0; state = last-state z; steps = computed.steps z }),
    )

-- The whole cut of case A,
pub case-A-cut : cut_sheet bytes_a ≡ cut_a
unfolding cut_sheet cut_accepted reduced_a cut_a
case-A-cut =
    cut-taken (read_sheet bytes_a) case-A.0
    ∙ ap (cut_accepted (read_sheet bytes_a)) case-A.1
    ∙ (λ z. record {
      number = case-A.0 z;
      place = ap (λ (r : ReadTold). r.place) (read-got bytes_a sheet_a 22 parsed-A) z;
      state = state_last;
      steps = 2;
      verdict = verdict-A z;
    })

-- and its text, as document 01 prints it.
pub case-A-text : text_of bytes_a ≡ text_a
unfolding if decimal_within decimal hex_digit hex_text ascii pair_line live_line option_line option_lines value_text value_texts built_text ruled_text verdict_text cut_text text_as text_of cut_a state_last text_a
case-A-text = ap text_as case-A-cut
