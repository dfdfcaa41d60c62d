-- Judging a step: each test that comes first decides its number.
use mathlib.Core.Bool.{Bool, true, false}
use mathlib.Core.List.{List}
use mathlib.Core.Path.{◌≡◌, refl, sym, ap, ◌∙◌}
use Prim.Native.Nat.{ℕ, suc, pred, ◌-◌, ◌≤◌, ◌<◌}
use native.Mathlib.Numerals.{sub-one}
use native.Mathlib.Omega.{arith}
use lib.Dec.{eqb}
use lib.ListN.{get_or}
use borrow.Author.Tests.{eqb-true, eqb-false, eq-eqb, ne_eqb, lt-ltb, le-ltb}
use Rattle.bounded.specs.Bool.{and, or, not, if}
use Rattle.bounded.proofs.Bool.{by_cases, or_l, or_r, or-false-i, not-true→false, if-true}
use Rattle.words.specs.Word.{width, has}
use Rattle.network.specs.Network.{Network, free, functional}
use Rattle.network.specs.Sound.{Sound}
use Rattle.network.specs.Step.{outside, refusal, legal}
use Rattle.network.specs.Reduction.{lead_refusal}
use Rattle.network.proofs.Sound.{stated-distinct}
use Rattle.network.proofs.Step.{refusal-10, refusal-11, bad_number, legal-e}
use Rattle.pairs.specs.Pairs.{partners_within}
use Rattle.head.specs.declared.Head.{Head}
use Rattle.head.specs.Held.{HeadShaped, held, sound_in}
use Rattle.head.proofs.Held.{held-sound}
use Rattle.head.proofs.Functional.{functional-counted}
use Rattle.step_judge.specs.Judging.{pair_number}
use Rattle.step_judge.proofs.Judging.{leader_led, not-stated}
use Rattle.step_choice.specs.Judging.{pair_refusal}

-- "option number 0 or above n"
module _ (N : Network) (x : ℕ) where
  zero-outside : x ≡ 0 → outside N x ≡ true
  unfolding outside
  zero-outside e = or_l _ _ (eq-eqb x 0 e)

  above-outside : N.n < x → outside N x ≡ true
  unfolding outside
  above-outside l = or_r _ _ (lt-ltb N.n x l)

  inside : 1 ≤ x → x ≤ N.n → outside N x ≡ false
  unfolding outside
  inside a b = or-false-i _ _ (ne_eqb x 0 (omega arith)) (le-ltb N.n x b)

-- The numbers, each where its test is the first to hold.
module _ (N : Network) (l f : ℕ) where
  pub leader-zero : l ≡ 0 → refusal N l f ≡ 10
  leader-zero e = (refusal-10 N l f).1 (or_l _ _ (zero-outside N l e))

  pub leader-above : N.n < l → refusal N l f ≡ 10
  leader-above h = (refusal-10 N l f).1 (or_l _ _ (above-outside N l h))

  pub follower-zero : f ≡ 0 → refusal N l f ≡ 10
  follower-zero e = (refusal-10 N l f).1 (or_r _ _ (zero-outside N f e))

  pub follower-above : N.n < f → refusal N l f ≡ 10
  follower-above h = (refusal-10 N l f).1 (or_r _ _ (above-outside N f h))

-- What refuses a leader that is named.
module _ (h : Head) (rows : List ℕ) (l : ℕ) where
  unnamed : outside (held h rows) l ≡ true → lead_refusal (held h rows) l ≡ 10
  unfolding lead_refusal
  unnamed t = if-true _ _ _ t

  pub zero-leads : l ≡ 0 → lead_refusal (held h rows) l ≡ 10
  zero-leads e = unnamed (zero-outside (held h rows) l e)

  pub above-leads : h.n < l → lead_refusal (held h rows) l ≡ 10
  unfolding held
  above-leads m = unnamed (above-outside (held h rows) l m)

  module _ (some : 1 ≤ l) (most : l ≤ h.n) where
    named-inside : outside (held h rows) l ≡ false
    unfolding held
    named-inside = inside (held h rows) l some most

    pub led-leads : (get_or h.leaders (l - 1) 0 ≡ 0 → ⊥) → lead_refusal (held h rows) l ≡ 11
    unfolding lead_refusal free not if held
    led-leads d = rw (named-inside, sym (sub-one l), ne_eqb _ 0 d)

    pub free-leads : get_or h.leaders (l - 1) 0 ≡ 0 → lead_refusal (held h rows) l ≡ 0
    unfolding lead_refusal free not if held
    free-leads e = rw (named-inside, sym (sub-one l), eq-eqb _ 0 e)

-- Two numbers that name variables.
pub record Named (n l f : ℕ) : Type 0 where
  pub l_some : 1 ≤ l
  pub l_in : l ≤ n
  pub f_some : 1 ≤ f
  pub f_in : f ≤ n

module _ (N : Network) (l f : ℕ) (named : Named N.n l f) where
  numbers-good : bad_number N l f ≡ false
  numbers-good = or-false-i _ _ (inside N l named.l_some named.l_in) (inside N f named.f_some named.f_in)

  pub same-variable : l ≡ f → refusal N l f ≡ 11
  same-variable e = (refusal-11 N l f).1 (numbers-good, or_l _ _ (eq-eqb l f e))

  -- Past these tests the pair decides.
  pair-decides : (l ≡ f → ⊥) → pair_refusal N (pred l) (pred f) ≡ refusal N l f
  unfolding pair_refusal pair_number refusal or if
  pair-decides d = rw (numbers-good, ne_eqb l f d)

-- What the words of the variables i and j say of a step: the number that refuses it, and whether it is legal.
abbrev pub number_at : List ℕ → List ℕ → List ℕ → List ℕ → ℕ → ℕ → ℕ
number_at leaders domains stated rows i j =
    pair_number (eqb (get_or leaders i 0) 0) (eqb (get_or leaders j 0) 0) (has (get_or stated i 0) j)
    (partners_within width rows i j (get_or domains i 0) (get_or domains j 0) 0 1)

abbrev pub legal_at : List ℕ → List ℕ → List ℕ → List ℕ → ℕ → ℕ → Bool
legal_at leaders domains stated rows i j = eqb (number_at leaders domains stated rows i j) 0

pub not-zero : (k n : ℕ) → k ≡ n → 1 ≤ n → eqb k 0 ≡ false
not-zero k n e l = ne_eqb k 0 (omega arith)

-- Two variables of a sound network are judged by their pair alone: no variable is stated with itself.
module _ (N : Network) (S : Sound N) where
  own_pair : (i : ℕ) → eqb (pair_refusal N i i) 0 ≡ false
  unfolding pair_refusal
  own_pair i =
      by_cases (free N i)
      (λ f. not-zero _ 12 (not-stated f f _ (S.no_self i)) (omega arith))
      (λ f. not-zero _ 11 (leader_led _ _ _ f) (omega arith))

  legal-pair : (i j : ℕ) → i < N.n → j < N.n → legal N i j ≡ eqb (pair_refusal N i j) 0
  unfolding legal
  legal-pair i j l m =
      by_cases (eqb i j)
      (λ t. rw (eqb-true i j t) (not-true→false _ (λ u. (legal-e N j j u).distinct refl) ∙ sym (own_pair j)))
      (λ t. let d : i ≡ j → ⊥ = eqb-false i j t in
      ap (λ (r : ℕ). eqb r 0)
      (sym (pair-decides N (suc i) (suc j) (record { l_some = omega arith; l_in = omega arith; f_some = omega arith; f_in = omega arith }) (λ e. d (ap pred e)))))

-- On the words of a sound head and rows, where the ones of row AND domain decide whether a pair is functional.
module _ {h : Head} (rows : List ℕ) (S : HeadShaped h) (t : sound_in h rows ≡ true) where
  -- The words of a pair say what refuses it,
  number-counted : (i j : ℕ) → number_at h.leaders h.domains h.stated rows i j ≡ pair_refusal (held h rows) i j
  unfolding pair_refusal free held
  number-counted i j =
      ap (pair_number (eqb (get_or h.leaders i 0) 0) (eqb (get_or h.leaders j 0) 0) (has (get_or h.stated i 0) j)) (functional-counted rows S t i j)

  pub refusal-counted : {l f : ℕ} → Named h.n l f → (l ≡ f → ⊥)
      → number_at h.leaders h.domains h.stated rows (l - 1) (f - 1) ≡ refusal (held h rows) l f
  unfolding held
  refusal-counted {l} {f} named d = rw (sub-one l, sub-one f) (number-counted (pred l) (pred f) ∙ pair-decides (held h rows) l f named d)

  pub legal-counted : (i j : ℕ) → i < h.n → j < h.n → legal (held h rows) i j ≡ legal_at h.leaders h.domains h.stated rows i j
  unfolding held
  legal-counted i j l m = legal-pair (held h rows) (held-sound h rows S t) i j l m ∙ ap (λ (r : ℕ). eqb r 0) (sym (number-counted i j))

  -- and a pair that is stated is of two variables.
  pub stated_apart : {i j : ℕ} → has (get_or h.stated i 0) j ≡ true → i ≡ j → ⊥
  unfolding held
  stated_apart {i} {j} = stated-distinct (held h rows) (held-sound h rows S t) i j
