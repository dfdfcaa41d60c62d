-- The value of a follower: each case of its definition, and that it is what the completer writes.
use mathlib.Core.Bool.{true, false}
use mathlib.Core.List.{List}
use mathlib.Core.Path.{◌≡◌, refl, sym, ap, ◌∙◌}
use Prim.Native.Nat.{ℕ, suc, pred, ◌≤◌, ◌<◌}
use native.Mathlib.Omega.{arith}
use lib.ListN.{get_or}
use borrow.Author.Tests.{eq-eqb, ne_eqb, lt-ltb, le-ltb}
use Rattle.bounded.specs.Bool.{not, if}
use Rattle.bounded.specs.Fold.{first}
use Rattle.bounded.proofs.Bool.{clash, not-i, not-false-i, or_l, or_r, or-false-i, if-true, if-false, and_l, implies-e}
use Rattle.bounded.proofs.Fold.{every-e}
use Rattle.bounded.proofs.Table.{get_d_tabulate}
use Rattle.network.specs.Network.{free, partner}
use Rattle.network.specs.Step.{outside}
use Rattle.network.specs.Completion.{follow, choice_in_domains, allowed_choice}
use Rattle.network.proofs.Sound.{free-e, free-or-led, led-not-free, led-pred, leader-n, leader-is-free, leader-not-self}
use Rattle.network.proofs.Completion.{accepted-only, completed-led}
use Rattle.words.specs.Word.{width, has}
use Rattle.head.specs.Held.{HeadShaped, held}
use Rattle.solutions.specs.Choices.{partner_of}
use Rattle.head.proofs.Held.{held-sound}
use Rattle.answers.specs.Answers.{ValueTold}
use Rattle.state.specs.declared.state.State.{State}
use Rattle.state.specs.View.{head_in, Shaped, view, sound_state}
use Rattle.state.specs.Solutions.{values_of, complete_number, completed_buffer}
use Rattle.state.proofs.Solutions.{build-taken, completed-buffer}
use Rattle.state_solutions.proofs.Solutions.{partner-lowest}
use Rattle.state_solutions.specs.FollowerValue.{follower_number, follower_value, AsCompleted}

abbrev pub told : ℕ → ℕ → ValueTold
told number value = record { number = number; value = value }

module _ (s : State) (option value : ℕ) where
  -- A refusal shows no value.
  refused : (k : ℕ) → follower_number s option value ≡ suc k → told (suc k) 0 ≡ follower_value s option value
  unfolding follower_value
  refused k e =
      ap (λ (n : ℕ). told n 0) (sym e)
      ∙ ap (told (follower_number s option value)) (sym (if-false _ _ _ (ne_eqb (follower_number s option value) 0 (omega (arith, e)))))

  pub follower-9 : sound_state s ≡ false → told 9 0 ≡ follower_value s option value
  unfolding follower_number
  follower-9 h = refused 8 (if-true _ _ _ (not-i _ h))

  module _ (h : sound_state s ≡ true) where
    outside-10 : outside (view s) option ≡ true → told 10 0 ≡ follower_value s option value
    unfolding follower_number
    outside-10 o = refused 9 (if-false _ _ _ (not-false-i _ h) ∙ if-true _ _ _ o)

    pub below-10 : option < 1 → told 10 0 ≡ follower_value s option value
    unfolding outside
    below-10 l = outside-10 (or_l _ _ (eq-eqb option 0 (omega (arith, l))))

    pub above-10 : s.n < option → told 10 0 ≡ follower_value s option value
    unfolding outside held
    above-10 l = outside-10 (or_r _ _ (lt-ltb s.n option l))

-- Of the variable i, counted from 0, which follows l:
module _ (s : State) (h : sound_state s ≡ true) (i value : ℕ) (m : i < s.n) where
  inside : outside (view s) (suc i) ≡ false
  unfolding outside held
  inside = or-false-i _ _ (ne_eqb (suc i) 0 (λ e. let x : ⊥ = omega (arith, e) in x)) (le-ltb s.n (suc i) (omega (arith, m)))

  pub follower-11 : get_or s.leaders i 0 ≡ 0 → told 11 0 ≡ follower_value s (suc i) value
  unfolding follower_number free held
  follower-11 e =
      refused s (suc i) value 10 (if-false _ _ _ (not-false-i _ h) ∙ if-false _ _ _ inside ∙ if-true _ _ _ (eq-eqb _ 0 e))

  module _ (l : ℕ) (e : (view s).leader i ≡ suc l) where
    past-11 : follower_number s (suc i) value ≡ if (not ((view s).domain l value)) 15 0
    unfolding follower_number
    past-11 = if-false _ _ _ (not-false-i _ h) ∙ if-false _ _ _ inside ∙ if-false _ _ _ (led-not-free (view s) i l e) ∙ rw (led-pred (view s) i l e)

    pub follower-15 : (view s).domain l value ≡ false → told 15 0 ≡ follower_value s (suc i) value
    follower-15 d = refused s (suc i) value 14 (past-11 ∙ if-true _ _ _ (not-i _ d))

    pub follower-taken : (view s).domain l value ≡ true → told 0 (first ((view s).size i) (partner (view s) l i value)) ≡ follower_value s (suc i) value
    unfolding follower_value follow
    follower-taken d =
        let z : follower_number s (suc i) value ≡ 0 = past-11 ∙ if-false _ _ _ (not-false-i _ d) in
        ap (λ (n : ℕ). told n (first ((view s).size i) (partner (view s) l i value))) (sym z)
        ∙ ap (told (follower_number s (suc i) value)) (sym (if-true _ _ _ (eq-eqb (follower_number s (suc i) value) 0 z) ∙ rw (led-pred (view s) i l e)))

-- The same cases by the arrays of a state.
module _ (s : State) (h : sound_state s ≡ true) (i value k : ℕ) (m : i < s.n) (e : get_or s.leaders i 0 ≡ suc k) where
  pub listed-15 : has (get_or s.domains k 0) value ≡ false → told 15 0 ≡ follower_value s (suc i) value
  unfolding held
  listed-15 d = follower-15 s h i value m k e d

  pub listed-taken : HeadShaped (head_in s) → has (get_or s.domains k 0) value ≡ true
      → told 0 (partner_of width s.rows k i (get_or s.domains i 0) value) ≡ follower_value s (suc i) value
  unfolding held
  listed-taken shaped d = ap (told 0) (partner-lowest s shaped h i k value e d) ∙ follower-taken s h i value m k e d

-- A leader is another variable of the state.
pub leader-within : (s : State) → HeadShaped (head_in s) → sound_state s ≡ true → (i : ℕ) → get_or s.leaders i 0 ≤ s.n
unfolding held
leader-within s shaped h i = free-or-led (view s) i (λ f. let z = free-e (view s) i f in omega (arith, z)) (λ l e. let m = leader-n (view s) (held-sound _ _ shaped h) i l e in omega (arith, m, e))

pub leader_other : (s : State) → HeadShaped (head_in s) → sound_state s ≡ true → (i k : ℕ) → get_or s.leaders i 0 ≡ suc k → k ≡ i → ⊥
unfolding held
leader_other s shaped h i k e = leader-not-self (view s) (held-sound _ _ shaped h) i k e

-- The completer takes a buffer only where the leader's byte is in its domain, and writes the lowest partner.
module _ (s : State) (b : List ℕ) (z : complete_number s b ≡ 0) where
  taken : (sound_state s ≡ true) × (allowed_choice (view s) (values_of b) ≡ true)
  unfolding complete_number
  taken = let t = build-taken s b _ z in (t.0, accepted-only (view s) (values_of b) t.2)

  leader-listed : (l : ℕ) → l < s.n → free (view s) l ≡ true → (view s).domain l (get_or b l 0) ≡ true
  unfolding allowed_choice choice_in_domains values_of held
  leader-listed l m t = implies-e _ _ (every-e s.n _ (and_l _ _ taken.1) l m) t

  written : (i l : ℕ) → i < s.n → (view s).leader i ≡ suc l
      → first ((view s).size i) (partner (view s) l i (get_or b l 0)) ≡ get_or (completed_buffer s b) i 0
  unfolding values_of
  written i l m e =
      sym (ap (λ (c : List ℕ). get_or c i 0) (completed-buffer s b z) ∙ get_d_tabulate s.n _ i 0 m ∙ completed-led (view s) (values_of b) i l e)

pub as-completed : AsCompleted
unfolding AsCompleted held
as-completed s shaped b z i m f =
    free-or-led (view s) i
    (λ t. clash t f)
    (λ l e. let t = (taken s b z).0 in
    let S = held-sound (head_in s) s.rows shaped.head_shaped t in
    let d = leader-listed s b z l (leader-n (view s) S i l e) (leader-is-free (view s) S i l e) in
    rw (led-pred (view s) i l e) (sym (follower-taken s t i (get_or b l 0) m l e d) ∙ ap (told 0) (written s b z i l m e)))
