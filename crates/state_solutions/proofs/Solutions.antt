-- The tester and the completer: each case of their definitions, and what the tests and stores on arrays are of the network.
use mathlib.Core.Bool.{Bool, true, false}
use mathlib.Core.List.{List}
use mathlib.Core.Path.{◌≡◌, refl, sym, ap, ◌∙◌}
use Prim.Native.Nat.{ℕ, suc, ◌≤◌, ◌<◌}
use native.Mathlib.Omega.{arith}
use lib.ListN.{length, get_or, replicate, get_or-replicate}
use borrow.Author.Tests.{eq-eqb}
use Rattle.bounded.specs.Bool.{implies}
use Rattle.bounded.specs.Fold.{first}
use Rattle.bounded.proofs.Bool.{clash, and_i, implies-e, implies_true, if-true, if-false}
use Rattle.bounded.proofs.Fold.{every-e, every-cong, first-widen}
use Rattle.bounded.proofs.Table.{is-table}
use Rattle.words.specs.Word.{width, has}
use Rattle.words.proofs.Laws.{has-below}
use Rattle.network.specs.Network.{free, partner, in_domains, pairs_allow, solves, test_refusal}
use Rattle.network.specs.Completion.{choice_in_domains, choice_pairs_allow, allowed_choice, completed}
use Rattle.network.proofs.Sound.{free-e, free-or-led, leader-n, leader-is-free, partner-some}
use Rattle.network.proofs.Completion.{refused-15, refused-16, accepted, completed-keeps, completed-led}
use Rattle.pairs.specs.Pairs.{variables}
use Rattle.head.specs.Held.{HeadShaped, held}
use Rattle.head.proofs.Held.{held-sound, held-n, held-size}
use Rattle.state.specs.View.{head_in, view, sound_state}
use Rattle.answers.specs.Answers.{says, refuses}
use Rattle.state.specs.Solutions.{values_of, tested, complete_number, completed_buffer}
use Rattle.solutions.specs.Choices.{values_below, value_kept, values_kept, pair_kept, side_kept, pairs_kept, Mirrored, partner_of, completed_value, Led, Completed}
use Rattle.state.specs.declared.state.State.{State}
use Rattle.bounded.proofs.Bool.{and-fails, and-holds}
use Rattle.solutions.proofs.Choices.{completed-live, completed-follower}
use Rattle.state.proofs.Solutions.{build-unsound, build-not-n, build-own, tested-says, tested-refuses, refused-buffer, completed-buffer}

implies-same : (a b c : Bool) → a ≡ b → implies a c ≡ implies b c
implies-same a b c e = rw e

-- "no option is paired with itself", and "a pair seen from its two options says the same"
pub mirrored : (s : State) → HeadShaped (head_in s) → sound_state s ≡ true → Mirrored s.stated
unfolding held
mirrored s shaped t i j u = let S = held-sound (head_in s) s.rows shaped t in (λ e. clash (rw e at u) (S.no_self j), sym (S.stated_sym i j) ∙ u)

-- ---- the tester

-- In the array of zeros no variable has a leader.
pub all-free : (s : State) → sound_state s ≡ true → (i : ℕ) → i < s.n → ◌≡◌ {A = ℕ} (get_or (replicate variables 0) i 0) 0
all-free s t i l = get_or-replicate variables i 0 0 (omega (arith, held-n _ s.rows t))

module _ (s : State) (build : List ℕ) where
  pub tested-9 : sound_state s ≡ false → refuses 9 ≡ tested s build
  tested-9 h = sym (tested-refuses s build 9 (build-unsound s build _ h) (omega arith))

  pub tested-14 : sound_state s ≡ true → (length build ≡ s.n → ⊥) → refuses 14 ≡ tested s build
  tested-14 h k = sym (tested-refuses s build 14 (build-not-n s build _ h k) (omega arith))

  pub tested-15 : sound_state s ≡ true → length build ≡ s.n → values_below s.n s.sizes build ≡ false → refuses 15 ≡ tested s build
  unfolding test_refusal values_below values_of held
  tested-15 h k b = sym (tested-refuses s build 15 (build-own s build _ h k ∙ if-false _ _ _ b) (omega arith))

  tested-solves : sound_state s ≡ true → length build ≡ s.n → values_below s.n s.sizes build ≡ true
      → says (solves (view s) (values_of build)) ≡ tested s build
  unfolding test_refusal values_below values_of held
  tested-solves h k b = sym (tested-says s build (build-own s build _ h k ∙ if-true _ _ _ b))

  -- Where no variable has a leader, all of them are judged.
  module _ (unled : List ℕ) (none : (i : ℕ) → i < s.n → get_or unled i 0 ≡ 0) where
    kept-domains : values_kept s.n unled s.domains build ≡ in_domains (view s) (values_of build)
    unfolding values_kept value_kept in_domains values_of held
    kept-domains = every-cong s.n _ _ (λ i l. implies_true _ _ (eq-eqb _ 0 (none i l)))

    kept-pairs : pairs_kept width s.n unled s.stated s.rows build ≡ pairs_allow (view s) (values_of build)
    unfolding pairs_kept side_kept pair_kept pairs_allow values_of held
    kept-pairs = every-cong s.n _ _ (λ i li. every-cong s.n _ _ (λ j lj.
        implies-same _ _ _ (and-holds _ _ (eq-eqb _ 0 (none i li)) ∙ and-holds _ _ (eq-eqb _ 0 (none j lj)))))

    module _ (h : sound_state s ≡ true) (k : length build ≡ s.n) (b : values_below s.n s.sizes build ≡ true) where
      pub tested-outside : values_kept s.n unled s.domains build ≡ false → says false ≡ tested s build
      unfolding solves
      tested-outside v = ap says (sym (and-fails _ _ (sym kept-domains ∙ v))) ∙ tested-solves h k b

      pub tested-pairs : values_kept s.n unled s.domains build ≡ true
          → says (pairs_kept width s.n unled s.stated s.rows build) ≡ tested s build
      unfolding solves
      tested-pairs v = ap says (kept-pairs ∙ sym (and-holds _ _ (sym kept-domains ∙ v))) ∙ tested-solves h k b

-- ---- the completer

module _ (s : State) (build : List ℕ) where
  -- A refusal changes no byte.
  complete-number : (k : ℕ) → complete_number s build ≡ suc k → (suc k ≡ complete_number s build) × (build ≡ completed_buffer s build)
  complete-number k e = (sym e, sym (refused-buffer s build (omega arith)))

  pub complete-9 : sound_state s ≡ false → (9 ≡ complete_number s build) × (build ≡ completed_buffer s build)
  unfolding complete_number
  complete-9 h = complete-number 8 (build-unsound s build _ h)

  pub complete-14 : sound_state s ≡ true → (length build ≡ s.n → ⊥) → (14 ≡ complete_number s build) × (build ≡ completed_buffer s build)
  unfolding complete_number
  complete-14 h k = complete-number 13 (build-not-n s build _ h k)

  kept-choice : values_kept s.n s.leaders s.domains build ≡ choice_in_domains (view s) (values_of build)
  unfolding values_kept value_kept choice_in_domains free values_of held
  kept-choice = refl

  kept-choice-pairs : pairs_kept width s.n s.leaders s.stated s.rows build ≡ choice_pairs_allow (view s) (values_of build)
  unfolding pairs_kept side_kept pair_kept choice_pairs_allow free values_of held
  kept-choice-pairs = refl

  pub complete-15 : sound_state s ≡ true → length build ≡ s.n → values_kept s.n s.leaders s.domains build ≡ false
      → (15 ≡ complete_number s build) × (build ≡ completed_buffer s build)
  unfolding complete_number
  complete-15 h k v = complete-number 14 (build-own s build _ h k ∙ refused-15 (view s) (values_of build) (sym kept-choice ∙ v))

  pub complete-16 : sound_state s ≡ true → length build ≡ s.n → values_kept s.n s.leaders s.domains build ≡ true
      → pairs_kept width s.n s.leaders s.stated s.rows build ≡ false
      → (16 ≡ complete_number s build) × (build ≡ completed_buffer s build)
  unfolding complete_number
  complete-16 h k v p =
      complete-number 15 (build-own s build _ h k ∙ refused-16 (view s) (values_of build) (sym kept-choice ∙ v) (sym kept-choice-pairs ∙ p))

-- The lowest partner in a word is the lowest below the size, since there is one.
pub partner-lowest : (s : State) → HeadShaped (head_in s) → sound_state s ≡ true → (i l a : ℕ) → get_or s.leaders i 0 ≡ suc l
    → has (get_or s.domains l 0) a ≡ true
    → partner_of width s.rows l i (get_or s.domains i 0) a ≡ first (get_or s.sizes i 0) (partner (view s) l i a)
unfolding held partner partner_of
partner-lowest s h t i l a e d =
    let most = held-size _ s.rows h t i in
    first-widen (get_or s.sizes i 0) width _ (omega arith) (partner-some (view s) (held-sound _ _ h t) i l a e d)

-- From a choice whose values are in their domains, what is completed on the arrays is what the network completes.
module _ (s : State) (h : HeadShaped (head_in s)) (t : sound_state s ≡ true) (build : List ℕ)
    (choice : (i : ℕ) → i < s.n → free (view s) i ≡ true → (view s).domain i (get_or build i 0) ≡ true) where
  leader-choice : (i l : ℕ) → get_or s.leaders i 0 ≡ suc l → has (get_or s.domains l 0) (get_or build l 0) ≡ true
  unfolding held
  leader-choice i l e = let S = held-sound _ _ h t in choice l (leader-n (view s) S i l e) (leader-is-free (view s) S i l e)

  pub choice-led : s.n ≤ length build → Led width s.n s.leaders build
  unfolding held
  choice-led m =
      let S = held-sound _ _ h t in
      record {
        led_n = held-n _ s.rows t;
        led_length = m;
        leader_below = λ i l _ e. (S.leader_free i l e).0;
        leader_live = λ i l _ e. (S.leader_free i l e).1;
        leader_value = λ i l _ e. has-below width _ _ (leader-choice i l e) (h.domains_array.element_lt l);
      }

  partner-first : (i l : ℕ) → get_or s.leaders i 0 ≡ suc l
      → partner_of width s.rows l i (get_or s.domains i 0) (get_or build l 0) ≡ first (get_or s.sizes i 0) (partner (view s) l i (get_or build l 0))
  partner-first i l e = partner-lowest s h t i l (get_or build l 0) e (leader-choice i l e)

  pub value-is-completed : (i : ℕ) → i < s.n
      → completed_value width s.domains s.leaders s.rows build i ≡ completed (view s) (values_of build) i
  unfolding held values_of
  value-is-completed i m =
      free-or-led (view s) i
      (λ f. sym (completed-live width s.domains s.leaders s.rows build i (free-e (view s) i f)) ∙ sym (completed-keeps (view s) (values_of build) i f))
      (λ l e. sym (completed-follower width s.domains s.leaders s.rows build i l (get_or build l 0) (λ q. let x : ⊥ = omega arith in x) (omega arith) refl)
      ∙ partner-first i l e
      ∙ sym (completed-led (view s) (values_of build) i l e))

module _ (s : State) (h : HeadShaped (head_in s)) (t : sound_state s ≡ true) (build : List ℕ) (k : length build ≡ s.n)
    (v : values_kept s.n s.leaders s.domains build ≡ true) where
  kept-values : (i : ℕ) → i < s.n → free (view s) i ≡ true → (view s).domain i (get_or build i 0) ≡ true
  unfolding values_kept value_kept free held
  kept-values i l f = implies-e _ _ (every-e s.n _ v i l) f

  pub complete-led : Led width s.n s.leaders build
  complete-led = choice-led s h t build kept-values (omega arith)

  pub complete-done : (after : List ℕ) → pairs_kept width s.n s.leaders s.stated s.rows build ≡ true
      → Completed width s.n s.domains s.leaders s.rows build after
      → (0 ≡ complete_number s build) × (after ≡ completed_buffer s build)
  unfolding complete_number allowed_choice
  complete-done after p C =
      let e : complete_number s build ≡ 0 =
      build-own s build _ t k ∙ accepted (view s) (values_of build) (and_i _ _ (sym (kept-choice s build) ∙ v) (sym (kept-choice-pairs s build) ∙ p)) in (
        sym e,
        is-table s.n _ after 0 (C.same_length ∙ k) (λ i l. C.value_completed i l ∙ value-is-completed s h t build kept-values i l)
            ∙ sym (completed-buffer s build e),
      )
