-- The tester, the completer, the verdict and the search on states, case by case; and what they mean on a sound state.
use mathlib.Core.Bool.{true, false}
use mathlib.Core.List.{List}
use mathlib.Core.Path.{◌≡◌, refl, sym, ap, ◌∙◌}
use Prim.Native.Nat.{ℕ, ◌≤◌}
use native.Mathlib.Omega.{arith}
use lib.Dec.{eqb}
use lib.ListN.{length, replicate}
use borrow.Author.Tests.{eq-eqb, ne_eqb, eqb-true, eqb-false, lt-ltb}
use Rattle.bounded.specs.Table.{tabulate}
use Rattle.bounded.proofs.Bool.{by_cases, not-i, not-false-i, if-true, if-false}
use Rattle.bounded.proofs.Fold.{every-i}
use Rattle.network.specs.Network.{Network, solves, test_refusal}
use Rattle.network.specs.Sound.{Sound}
use Rattle.network.specs.Completion.{allowed_choice, completed, verdict, shown}
use Rattle.network.specs.Search.{searched, sought, said_of, search_refusal}
use Rattle.network.proofs.Completion as completion
use Rattle.state.specs.declared.state.State.{State}
use Rattle.state.specs.View.{head_in, view, sound_state}
use Rattle.answers.specs.Answers.{says, refuses, rules, no_verdict}
use Rattle.state.specs.Solutions.{values_of, solution_refusal, tested, complete_number, completed_buffer, verdict_of, search_number, search_of}
use Rattle.head.specs.Held.{HeadShaped}
use Rattle.head.proofs.Held.{held-sound}

-- The tests that the tester and the completer share: 9, 14, and then the call's own.
module _ (s : State) (build : List ℕ) (own : ℕ) where
  pub build-unsound : sound_state s ≡ false → solution_refusal s build own ≡ 9
  unfolding solution_refusal
  build-unsound h = if-true _ _ _ (not-i _ h)

  pub build-not-n : sound_state s ≡ true → (length build ≡ s.n → ⊥) → solution_refusal s build own ≡ 14
  unfolding solution_refusal
  build-not-n h d = if-false _ _ _ (not-false-i _ h) ∙ if-true _ _ _ (not-i _ (ne_eqb _ _ d))

  pub build-own : sound_state s ≡ true → length build ≡ s.n → solution_refusal s build own ≡ own
  unfolding solution_refusal
  build-own h e = if-false _ _ _ (not-false-i _ h) ∙ if-false _ _ _ (not-false-i _ (eq-eqb _ _ e))

  pub build-taken : solution_refusal s build own ≡ 0 → (sound_state s ≡ true) × (length build ≡ s.n) × (own ≡ 0)
  build-taken z =
      by_cases (sound_state s)
      (λ h. by_cases (eqb (length build) s.n)
      (λ e. let q = eqb-true (length build) s.n e in (h, q, sym (build-own h q) ∙ z))
      (λ e. absurd (let x : ⊥ = omega (arith, build-not-n h (eqb-false _ _ e)) in x)))
      (λ h. absurd (let x : ⊥ = omega (arith, build-unsound h) in x))

-- The tester.
module _ (s : State) (build : List ℕ) where
  -- Why it refuses, if it does.
  abbrev pub test_number : ℕ
  test_number = solution_refusal s build (test_refusal (view s) (values_of build))

  pub tested-says : test_number ≡ 0 → tested s build ≡ says (solves (view s) (values_of build))
  unfolding tested
  tested-says e = if-true _ _ _ (eq-eqb _ 0 e)

  pub tested-refuses : (number : ℕ) → test_number ≡ number → 1 ≤ number → tested s build ≡ refuses number
  unfolding tested
  tested-refuses number e h = if-false _ _ _ (ne_eqb test_number 0 (omega arith)) ∙ ap refuses e

-- The values of a solution lie within the sizes: the tester does not refuse it.
pub solves-in-range : (N : Network) → Sound N → (f : ℕ → ℕ) → solves N f ≡ true → test_refusal N f ≡ 0
unfolding test_refusal
solves-in-range N S f h =
    if-true _ _ _ (every-i N.n _ (λ i l. lt-ltb _ _ (S.domain_in i (f i) (completion.solves-domain N f h i l))))

module _ (s : State) (h : HeadShaped (head_in s)) (t : sound_state s ≡ true) (build : List ℕ) where
  -- "The tester says yes exactly when each value is in its option's list and each stated pair allows its two values", of a buffer of n bytes.
  pub tested-yes : length build ≡ s.n → solves (view s) (values_of build) ≡ true → tested s build ≡ says true
  tested-yes e k =
      tested-says s build (build-own s build _ t e ∙ solves-in-range (view s) (held-sound _ _ h t) (values_of build) k)
      ∙ ap says k

  pub yes-solves : tested s build ≡ says true → (length build ≡ s.n) × (solves (view s) (values_of build) ≡ true)
  yes-solves y =
      by_cases (eqb (test_number s build) 0)
      (λ e. let z = eqb-true _ 0 e in
      let p = tested-says s build z in
      ((build-taken s build _ z).1, (cc)))
      (λ e. let d : test_number s build ≡ 0 → ⊥ = eqb-false _ 0 e in
      let p = tested-refuses s build (test_number s build) refl (omega arith) in (cc, cc))

-- The completer.
module _ (s : State) (build : List ℕ) where
  pub complete-accepted : sound_state s ≡ true → length build ≡ s.n → allowed_choice (view s) (values_of build) ≡ true → complete_number s build ≡ 0
  unfolding complete_number
  complete-accepted t e a = build-own s build _ t e ∙ completion.accepted (view s) (values_of build) a

  pub completed-buffer : complete_number s build ≡ 0 → completed_buffer s build ≡ tabulate s.n (completed (view s) (values_of build))
  unfolding completed_buffer
  completed-buffer z = if-true _ _ _ (eq-eqb _ 0 z)

  -- A refusal changes no byte.
  pub refused-buffer : 1 ≤ complete_number s build → completed_buffer s build ≡ build
  unfolding completed_buffer
  refused-buffer h = if-false _ _ _ (ne_eqb (complete_number s build) 0 (omega arith))

-- The verdict.
module _ (s : State) where
  pub verdict-of : sound_state s ≡ true → verdict_of s ≡ rules (verdict (view s)) (tabulate 16 (shown (view s)))
  unfolding verdict_of
  verdict-of t = if-true _ _ _ t

  pub verdict-refused : sound_state s ≡ false → verdict_of s ≡ no_verdict 9 (replicate 16 0)
  unfolding verdict_of
  verdict-refused t = if-false _ _ _ t

-- The search: 9, 23, and then what it says.
module _ (s : State) where
  pub search-unsound : sound_state s ≡ false → search_number s ≡ 9
  unfolding search_number
  search-unsound h = if-true _ _ _ (not-i _ h)

  pub search-own : sound_state s ≡ true → search_number s ≡ search_refusal (view s)
  unfolding search_number
  search-own h = if-false _ _ _ (not-false-i _ h)

  pub search-of : search_number s ≡ 0 → search_of s ≡ rules (said_of (searched (view s))) (tabulate 16 (sought (view s)))
  unfolding search_of
  search-of e = if-true _ _ _ (eq-eqb _ 0 e)

  pub search-refuses : (number : ℕ) → search_number s ≡ number → 1 ≤ number → search_of s ≡ no_verdict number (replicate 16 0)
  unfolding search_of
  search-refuses number e h = if-false _ _ _ (ne_eqb (search_number s) 0 (omega arith)) ∙ ap (λ (k : ℕ). no_verdict k (replicate 16 0)) e
