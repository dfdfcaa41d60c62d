-- Worked examples of named leaders, of orders and of the paired profile, by computation.
use mathlib.Core.Bool.{true, false}
use mathlib.Core.List.{List, [], ◌∷◌}
use mathlib.Core.Path.{◌≡◌, refl}
use Prim.Native.Nat.{ℕ, zero, suc, ◌≤◌, ◌<◌}
use native.Mathlib.Omega.{arith}
use lib.ListN.{get_or}
use Rattle.bounded.specs.Bool.{and, or, implies, not, bit, if}
use Rattle.bounded.specs.Fold.{every, some, sum, count, first}
use Rattle.bounded.specs.Table.{tabulate}
use Rattle.bounded.proofs.Bool.{by_cases, clash}
use Rattle.words.specs.Word.{has, word}
use Rattle.network.specs.Network.{Network, free, partner, functional}
use Rattle.network.specs.Sound.{Sound}
use Rattle.network.specs.Step.{outside, refusal, legal, trimmed, third, joined, composed, eliminate, relisted, followers_trimmed, followed}
use Rattle.network.specs.Reduction.{free_count, leading, reducible, next_leader, lowest_follower, next_follower, one_more, run_within, reduce_within, reduce, lead}
use Rattle.network.specs.Completion.{Verdict, BUILT, OPEN, exhausted, decided, verdict}
use Rattle.network.specs.Sheet.{Table, is_for, tabled, row_for, network_of}
use Rattle.network.specs.Reach.{via, leads_to, reach}
use Rattle.network.specs.Order.{good, permitted, placed, found, Assembled, good_order, found_order, find_order}
use Rattle.network.specs.Paired.{unpaired, has_unpaired, paired, unpaired_first, unpaired_second}
use Rattle.words.proofs.Laws.{has-below, has-zero}
use Rattle.network.proofs.Tables.{is_for-e, tabled-cases, row_for-here, row_for-there}
use Rattle.network.proofs.SheetOf.{network_of-sound}
use Rattle.network.proofs.Reach.{reach-path}

table : ℕ → ℕ → List ℕ → Table
table a b rows = record { first = a; second = b; rows = rows }

sheet : List ℕ → List Table → Network
sheet sizes tables = network_of (record { sizes = sizes; tables = tables })

-- Sheets B, C, K and L of document 01.
pub B : Network
B = sheet (2 ∷ 3 ∷ 2 ∷ []) (table 1 2 (1 ∷ 6 ∷ []) ∷ table 2 3 (1 ∷ 2 ∷ 2 ∷ []) ∷ [])

pub C : Network
C =
    sheet (3 ∷ 3 ∷ 3 ∷ 3 ∷ [])
    (table 1 2 (1 ∷ 2 ∷ 4 ∷ []) ∷ table 1 3 (1 ∷ 2 ∷ 4 ∷ []) ∷ table 2 4 (1 ∷ 4 ∷ 2 ∷ []) ∷ table 3 4 (1 ∷ 4 ∷ 2 ∷ []) ∷ [])

pub K : Network
K = sheet (2 ∷ 2 ∷ 2 ∷ []) (table 1 3 (1 ∷ 2 ∷ []) ∷ table 2 3 (1 ∷ 2 ∷ []) ∷ [])

pub L : Network
L = sheet (2 ∷ 2 ∷ []) (table 1 2 (1 ∷ 1 ∷ []) ∷ [])

-- 1 and 3 are of one strongly connected part, and 2 has no table.
pub between : Network
between = sheet (2 ∷ 2 ∷ 2 ∷ []) (table 1 3 (1 ∷ 2 ∷ []) ∷ [])

-- Document 02, L13: one state and the same state reduced have different orders.
pub lone : Network
lone = sheet (2 ∷ 2 ∷ 2 ∷ []) (table 1 3 (1 ∷ 1 ∷ []) ∷ table 2 3 (3 ∷ 0 ∷ []) ∷ [])

abbrev pub Says : Network → ℕ → ℕ → ℕ → Verdict → Type 0
Says N l steps alive v = ((lead N l).steps ≡ steps) × (free_count (lead N l).network ≡ alive) × (verdict (lead N l).network ≡ v)

pub leads-K : Says K 0 2 1 BUILT
unfolding and or implies not bit if every some sum count first has word free partner functional outside refusal legal trimmed third joined composed eliminate relisted followers_trimmed followed free_count leading lowest_follower one_more run_within lead exhausted decided verdict is_for tabled row_for network_of table sheet K
leads-K = (refl, refl, refl)

pub leads-B : Says B 0 0 3 OPEN
unfolding and or implies not bit if every some sum count first has word free partner functional outside refusal legal trimmed third joined composed eliminate relisted followers_trimmed followed free_count leading lowest_follower one_more run_within lead exhausted decided verdict is_for tabled row_for network_of table sheet B
leads-B = (refl, refl, refl)

pub leads-C : Says C 3 3 1 BUILT
unfolding and or implies not bit if every some sum count first has word free partner functional outside refusal legal trimmed third joined composed eliminate relisted followers_trimmed followed free_count leading lowest_follower one_more run_within lead exhausted decided verdict is_for tabled row_for network_of table sheet C
leads-C = (refl, refl, refl)

pub order-B : find_order B ≡ 2 ∷ 1 ∷ 3 ∷ []
unfolding and or implies not bit if every some sum count first has word partner functional is_for tabled row_for network_of via leads_to reach permitted placed found found_order find_order tabulate table sheet B
order-B = refl

pub order-between : find_order between ≡ 1 ∷ 2 ∷ 3 ∷ []
unfolding and or implies not bit if every some sum count first has word partner functional is_for tabled row_for network_of via leads_to reach permitted placed found found_order find_order tabulate table sheet between
order-between = refl

pub order-lone : find_order lone ≡ 1 ∷ 3 ∷ 2 ∷ []
unfolding and or implies not bit if every some sum count first has word partner functional is_for tabled row_for network_of via leads_to reach permitted placed found found_order find_order tabulate table sheet lone
order-lone = refl

pub order-lone-reduced : find_order (reduce lone).network ≡ 1 ∷ 2 ∷ 3 ∷ []
unfolding and or implies not bit if every some sum count first has word free partner functional outside refusal legal trimmed third joined composed eliminate relisted followers_trimmed followed leading reducible next_leader lowest_follower next_follower one_more run_within reduce_within reduce is_for tabled row_for network_of via leads_to reach permitted placed found found_order find_order tabulate table sheet lone
order-lone-reduced = refl

-- "a good one need not keep such a part together": 1, 2, 3 is good where 1 and 3 make one part.
between-reach : (reach between 0 2 ≡ true) × (reach between 2 0 ≡ true) × (reach between 0 1 ≡ false) × (good_order between (λ (p : ℕ). p) ≡ true)
unfolding and or implies not bit if every some sum count first has word partner functional is_for tabled row_for network_of via leads_to reach good good_order table sheet between
between-reach = (refl, refl, refl, refl)

-- The sheet is sound.
rows-within : (a b : ℕ) → has (get_or (1 ∷ 2 ∷ []) a 0) b ≡ true → (a < 2) × (b < 2)
rows-within zero b h = (omega arith, has-below 2 1 b h (omega arith))
rows-within (suc zero) b h = (omega arith, has-below 2 2 b h (omega arith))
rows-within (suc (suc a)) b h = clash h (has-zero b)

between-sound : Sound between
unfolding table sheet between tabled row_for
between-sound =
    network_of-sound _
    (record {
      some_variable = omega arith;
      some_value = sizes;
      pair_in = λ i j h. tabled-cases one [] i j h (λ e. let q = is_for-e one i j e in (omega arith, omega arith)) (λ e. clash e refl);
      row_in = λ i j a b h. by_cases (is_for one i j)
          (λ e. let q = is_for-e one i j e in
          let r = rows-within a b (rw (row_for-here one [] i j a e) at h) in
          let i0 : i ≡ 0 = omega arith in
          let j2 : j ≡ 2 = omega arith in
          rw (i0, j2) r)
          (λ e. clash h (rw (row_for-there one [] i j a e) (has-zero b)));
    })
  where
    one : Table
    one = table 1 3 (1 ∷ 2 ∷ [])

    sizes : (i : ℕ) → i < 3 → 1 ≤ get_or (2 ∷ 2 ∷ 2 ∷ []) i 0
    sizes zero l = omega arith
    sizes (suc zero) l = omega arith
    sizes (suc (suc zero)) l = omega arith
    sizes (suc (suc (suc i))) l = absurd (let x : ⊥ = omega arith in x)

between-n : between.n ≡ 3
unfolding network_of table sheet between
between-n = refl

pub good-apart : (good_order between (λ (p : ℕ). p) ≡ true) × ((part : ℕ → ℕ) → Assembled between.n (leads_to between) (λ (p : ℕ). p) part → ⊥)
good-apart = (
  between-reach.3,
  λ part A.
      let k = between-n in
      let same : part 0 ≡ part 2 =
      A.one_part 0 2 (omega arith) (omega arith) ((reach-path between between-sound 0 2).0 between-reach.0) ((reach-path between between-sound 2 0).0 between-reach.1) in
      let a : part 0 ≤ part 1 = A.in_parts 0 1 (omega arith) (omega arith) in
      let b : part 1 ≤ part 2 = A.in_parts 1 2 (omega arith) (omega arith) in
      clash ((reach-path between between-sound 0 1).1 (A.same_part 0 1 (omega arith) (omega arith) (omega arith))) between-reach.2,
)

-- Sheets of the paired profile and others: C is one; in B the pair 1, 2 is the first of another kind, in L too.
pub kinds : (paired C ≡ true) × (paired B ≡ false) × (unpaired_first B ≡ 0) × (unpaired_second B ≡ 1) × (paired L ≡ false)
unfolding and or implies not bit if every some sum count first has word partner functional is_for tabled row_for network_of unpaired has_unpaired paired unpaired_first unpaired_second table sheet B C L
kinds = (refl, refl, refl, refl, refl)
