-- The test of an order and the search for one, case by case: what the kernels tell of a sound state is what the calls tell.
use mathlib.Core.Bool.{Bool, true, false}
use mathlib.Core.List.{List}
use mathlib.Core.Path.{◌≡◌, refl, sym, ap, subst, ◌∙◌}
use Prim.Native.Nat.{ℕ, ◌≤◌}
use native.Mathlib.Omega.{arith}
use lib.Dec.{eqb}
use lib.ListN.{length}
use borrow.Author.Rules.{rules}
use borrow.Author.Tests.{eq-eqb, ne_eqb, eqb-true, eqb-false}
use Rattle.bounded.specs.Bool.{if}
use Rattle.bounded.proofs.Bool.{by_cases, not-i, not-false-i, if-true, if-false}
use Rattle.network.specs.Network.{Network}
use Rattle.network.specs.Order.{order_refusal, find_refusal, test_order, find_order}
use Rattle.network.specs.Sound.{Sound}
use Rattle.network.proofs.Order.{order-30, find-0, find-14}
use Rattle.answers.specs.Answers.{says, refuses, test_told, outcome_number}
use Rattle.order.specs.Orders.{order_tested, OrderFound, found_buffer}
use Rattle.std.specs.Prelude.{Result, Ok, Err}
use Rattle.std.specs.Result.{result_or}
use Rattle.cause.specs.declared.Cause.{Cause}
use Rattle.cause.specs.declared.Cause.TheVariants.{OrderNumbers, SolutionLength}
use Rattle.cause.specs.Number.{number_of}
use Rattle.state.specs.declared.state.State.{State}
use Rattle.state.specs.View.{view, sound_state}
use Rattle.state_order.specs.Orders.{order_number, order_told, find_number, order_buffer}

told-if : (b g : Bool) → test_told (if b (Ok g) (Err OrderNumbers)) ≡ if b (says g) (refuses 30)
unfolding test_told if
told-if true g = refl
told-if false g = refl

or-if : (b g : Bool) → result_or (if b (Ok g) (Err OrderNumbers)) (Err OrderNumbers) ≡ if b (Ok g) (Err OrderNumbers)
unfolding if
or-if true g = refl
or-if false g = refl

-- The same refusal in place of the test's own, or of the search's, changes nothing.
pub or-tested : (N : Network) (order : List ℕ) (r : Result Bool Cause) → r ≡ order_tested N order → result_or r (Err OrderNumbers) ≡ r
unfolding order_tested
or-tested N order r e = rw e (or-if _ _)

pub or-found : (N : Network) (long : ℕ) (r : Result (Unit {0}) Cause) → OrderFound N long r → result_or r (Err SolutionLength) ≡ r
or-found N long (Ok done) h = refl
or-found N long (Err cause) h = ap Err (sym h.1)

-- What hands on the answer of the test or of the search.
pub ruleset handed = (or-tested, or-found, rules)

pub found-same : (N : Network) (long : ℕ) (r q : Result (Unit {0}) Cause) → r ≡ q → OrderFound N long q → OrderFound N long r
found-same N long r q e h = subst (λ s. OrderFound N long s) (sym e) h

module _ (s : State) (order : List ℕ) where
  pub order-unsound : sound_state s ≡ false → order_number s order ≡ 9
  unfolding order_number
  order-unsound h = if-true _ _ _ (not-i _ h)

  pub order-own : sound_state s ≡ true → order_number s order ≡ order_refusal (view s) order
  unfolding order_number
  order-own h = if-false _ _ _ (not-false-i _ h)

  pub told-says : order_number s order ≡ 0 → order_told s order ≡ says (test_order (view s) order)
  unfolding order_told
  told-says e = if-true _ _ _ (eq-eqb _ 0 e)

  pub told-refuses : (number : ℕ) → order_number s order ≡ number → 1 ≤ number → order_told s order ≡ refuses number
  unfolding order_told
  told-refuses number e l = if-false _ _ _ (ne_eqb (order_number s order) 0 (omega arith)) ∙ ap refuses e

  pub told-9 : sound_state s ≡ false → refuses 9 ≡ order_told s order
  told-9 h = sym (told-refuses 9 (order-unsound h) (omega arith))

  -- Of a sound state the call tells what the kernel does.
  pub told-tested : (S : Sound (view s)) → sound_state s ≡ true → (r : Result Bool Cause) → r ≡ order_tested (view s) order → test_told r ≡ order_told s order
  unfolding order_tested
  told-tested S h r e =
      ap test_told e ∙ told-if _ _
      ∙ by_cases (eqb (order_refusal (view s) order) 0)
      (λ t. if-true _ _ _ t ∙ sym (told-says (order-own h ∙ eqb-true _ 0 t)))
      (λ t. if-false _ _ _ t ∙ sym (told-refuses 30 (order-own h ∙ order-30 (view s) S order (eqb-false _ 0 t)) (omega arith)))

module _ (s : State) (buffer : List ℕ) where
  pub find-unsound : sound_state s ≡ false → find_number s buffer ≡ 9
  unfolding find_number
  find-unsound h = if-true _ _ _ (not-i _ h)

  pub find-own : sound_state s ≡ true → find_number s buffer ≡ find_refusal (view s) (length buffer)
  unfolding find_number
  find-own h = if-false _ _ _ (not-false-i _ h)

  pub buffer-found : find_number s buffer ≡ 0 → order_buffer s buffer ≡ find_order (view s)
  unfolding order_buffer
  buffer-found e = if-true _ _ _ (eq-eqb _ 0 e)

  -- A refusal changes no byte.
  pub buffer-left : (find_number s buffer ≡ 0 → ⊥) → order_buffer s buffer ≡ buffer
  unfolding order_buffer
  buffer-left d = if-false _ _ _ (ne_eqb _ 0 d)

  pub find-9 : sound_state s ≡ false → (9 ≡ find_number s buffer) × (buffer ≡ order_buffer s buffer)
  find-9 h = let e = find-unsound h in (sym e, sym (buffer-left (λ z. omega arith)))

  -- Of a sound state the call leaves in the buffer what the kernel does.
  module _ (h : sound_state s ≡ true) {after : List ℕ} (e : after ≡ found_buffer (view s) buffer) where
    own-buffer : after ≡ order_buffer s buffer
    unfolding found_buffer order_buffer
    own-buffer = e ∙ ap (λ (k : ℕ). if (eqb k 0) (find_order (view s)) buffer) (sym (find-own h))

    pub find-told : (S : Sound (view s)) (r : Result (Unit {0}) Cause) → OrderFound (view s) (length buffer) r
        → (outcome_number r ≡ find_number s buffer) × (after ≡ order_buffer s buffer)
    unfolding outcome_number
    find-told S (Ok done) r = (sym (find-own h ∙ r), own-buffer)
    find-told S (Err cause) r = (
      ap number_of r.1 ∙ sym (find-own h ∙ find-14 (view s) S (length buffer) (λ q. r.0 ((find-0 (view s) S (length buffer)).1 q))),
      own-buffer,
    )
