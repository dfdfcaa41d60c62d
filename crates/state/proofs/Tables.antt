-- A table added to a state: what is handed back is sound where what was given is, and has the solutions that keep to the table.
use mathlib.Core.Bool.{true}
use mathlib.Core.List.{List}
use mathlib.Core.Path.{◌≡◌, sym, ap, ap₂, ◌∙◌}
use Prim.Native.Nat.{ℕ, suc, pred, ◌-◌, ◌≤◌}
use native.Mathlib.Numerals.{sub-one}
use lib.Dec.{eqb}
use Rattle.bounded.specs.Bool.{implies}
use Rattle.network.specs.Network.{Network}
use Rattle.network.specs.Sound.{Sound}
use Rattle.network.specs.Promise.{Keeps}
use Rattle.network.specs.Added.{traced, meets_table, add_refusal, added, Adds}
use Rattle.network.specs.Calls.{add_table, refuses, made, tables_of}
use Rattle.network.proofs.Added.{not_refused, table-keeps, added-adds}
use Rattle.network.proofs.Calls.{keeps-to-one}
use Rattle.std.specs.Prelude.{Ok}
use Rattle.answers.specs.Answers.{outcome_number}
use Rattle.step_add_judge.proofs.Judging.{counted-from-0}
use Rattle.head.specs.declared.Head.{Head}
use Rattle.head.specs.Held.{held}
use Rattle.head.proofs.Held.{HeadShaped, Packed, held-sound, kept-packed}
use Rattle.state.specs.declared.state.State.{State}
use Rattle.state.specs.View.{head_in, state_of, view, pack, sound_state}
use Rattle.state.specs.Answers.{Told}
use Rattle.state.specs.Tables.{table_refusal, table_added, AddedByRules, TablesByRules}
use Rattle.state.proofs.View.{Shaped, packed-view}
use Rattle.state.proofs.Calls.{StateKept, kept-cong, call-sound, call-taken, call-number, call_back, call-keeps, taken-sound}

-- Case by case.
module _ (s : State) (x y : ℕ) (rows : List ℕ) where
  pub sound-table : sound_state s ≡ true → table_refusal s x y rows ≡ add_refusal (view s) x y rows
  unfolding refuses
  sound-table t = call-sound s (add_table x y rows) t

  pub table_taken : table_refusal s x y rows ≡ 0
      → table_added s x y rows ≡ record { number = 0; state = pack (added (view s) (pred x) (pred y) rows); steps = 0 }
  unfolding made
  table_taken e = call-taken s (add_table x y rows) e

  pub taken-fits : table_refusal s x y rows ≡ 0 → add_refusal (view s) x y rows ≡ 0
  taken-fits e = sym (sound-table (taken-sound s (add_table x y rows) e)) ∙ e

  -- A table that is not refused, of a state whose head is what its types say.
  module _ (h : HeadShaped (head_in s)) (e : table_refusal s x y rows ≡ 0) where
    sound-network : Sound (view s)
    sound-network = held-sound _ _ h (taken-sound s (add_table x y rows) e)

    pub keeps-network : Keeps (view s) (added (view s) (pred x) (pred y) rows) (meets_table (pred x) (pred y) rows)
    keeps-network = let inside = not_refused (view s) x y rows (taken-fits e) in
        table-keeps (view s) (pred x) (pred y) rows sound-network inside.0 inside.1

    pub added-packed : Packed (added (view s) (pred x) (pred y) rows)
    added-packed = kept-packed _ h (taken-sound s (add_table x y rows) e) _ keeps-network

    added-view : view (table_added s x y rows).state ≡ added (view s) (pred x) (pred y) rows
    added-view = ap (λ (a : Told). view a.state) (table_taken e) ∙ packed-view added-packed

-- The solutions that stay are those that keep to the table, if it is not refused.
pub table-keeps-state : (s : State) → Shaped s → (x y : ℕ) (rows : List ℕ)
    → StateKept s (table_added s x y rows).state (λ (g : ℕ → ℕ). implies (eqb (table_refusal s x y rows) 0) (meets_table (pred x) (pred y) rows g))
unfolding tables_of
table-keeps-state s h x y rows =
    kept-cong (λ g. ap (implies (eqb (table_refusal s x y rows) 0)) (keeps-to-one x y rows g)) (call-keeps s h (add_table x y rows))

pub table-rules : TablesByRules
unfolding TablesByRules
table-rules s h x y rows =
    record {
      taken = λ n. let e = sym (call-number s (add_table x y rows)) ∙ n in (
        traced (view s) (pred x),
        traced (view s) (pred y),
        rw (added-view s x y rows H e) (added-adds (view s) (pred x) (pred y) rows (sound-network s x y rows H e)),
      );
      solutions = λ n f. let e = sym (call-number s (add_table x y rows)) ∙ n in
          rw (added-view s x y rows H e) ((keeps-network s x y rows H e).same_solutions f);
      handed_back = call_back s (add_table x y rows);
    }
  where
    H : HeadShaped (head_in s)
    H = h.head_shaped

-- ---- the code's answers

-- A table that nothing refuses is one for a sound state, and names two variables. The code counts both from 0.
pub record TableTaken (s : State) (x y : ℕ) (rows : List ℕ) : Type 0 where
  pub number_0 : table_refusal s x y rows ≡ 0
  pub for_sound : sound_state s ≡ true
  pub first_some : 1 ≤ x
  pub second_some : 1 ≤ y
  pub fits : add_refusal (view s) (suc (x - 1)) (suc (y - 1)) rows ≡ 0

pub not-refused-table : {s : State} {x y : ℕ} {rows : List ℕ} (u : Unit {0}) → outcome_number (Ok u) ≡ table_refusal s x y rows
    → TableTaken s x y rows
unfolding outcome_number
not-refused-table {s} {x} {y} {rows} u q =
    let taken : table_refusal s x y rows ≡ 0 = sym q in
    let from-0 = counted-from-0 (view s) x y rows (taken-fits s x y rows taken) in
    record {
      number_0 = taken;
      for_sound = taken-sound s (add_table x y rows) taken;
      first_some = from-0.0;
      second_some = from-0.1;
      fits = from-0.2;
    }

-- The table that the code adds, its variables counted from 0, is the one that the call adds.
pub table-made : (N : Network) (x y : ℕ) (rows : List ℕ) → record { network = added N (x - 1) (y - 1) rows; steps = 0 } ≡ made N (add_table x y rows)
unfolding made
table-made N x y rows = ap₂ (λ (i j : ℕ). record { network = added N i j rows; steps = 0 }) (sub-one x) (sub-one y)
