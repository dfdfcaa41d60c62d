-- The domains that soundness leaves free.
use mathlib.Core.Bool.{Bool, true, false}
use mathlib.Core.List.{List, [], ◌∷◌}
use mathlib.Core.Path.{◌≡◌, refl, sym, ◌∙◌}
use Prim.Native.Nat.{ℕ, zero, suc, ◌≤◌, ◌<◌}
use native.Mathlib.Omega.{arith}
use lib.ListN.{length, get_or}
use borrow.Author.Tests.{eq-eqb, ne_eqb}
use Rattle.bounded.specs.Bool.{and, or, implies, not, bit, if}
use Rattle.bounded.specs.Fold.{every, some, sum, count}
use Rattle.bounded.proofs.Bool.{by_cases, clash, not-true→false, and_l, and-false, if-true, if-false}
use Rattle.bounded.proofs.Fold.{is-or-not}
use Rattle.words.specs.Word.{has}
use Rattle.words.proofs.Laws.{has-zero}
use Rattle.network.specs.Network.{Network, free, partner, functional}
use Rattle.network.specs.Sound.{Sound}
use Rattle.network.specs.Step.{outside, refusal, legal, eliminate, relisted, followers_trimmed, followed}
use Rattle.network.specs.Sheet.{Table, is_for, tabled, row_for, network_of}
use Rattle.network.specs.Lists.{narrowed, empty_list_network, short_list_network, blank_table, ListsFree}
use Rattle.network.proofs.Sound.{free-i, led-not-free}
use Rattle.network.proofs.Step.{domain-i, leader-j, trimmed-e}
use Rattle.network.proofs.Trim.{trim-fewer, trim-led, trim-none, relisted-sound}
use Rattle.network.proofs.Keep.{followed-sound}
use Rattle.network.proofs.Tables.{is_for-e, tabled-cases, row_for-here, row_for-there}
use Rattle.network.proofs.SheetOf.{Fits, network_of-sound}

module _ (N : Network) (i : ℕ) (p : ℕ → Bool) where
  -- The domain of i has what passes, and every other domain is as it was.
  pub narrowed-i : (a : ℕ) → (narrowed N i p).domain i a ≡ and (N.domain i a) (p a)
  unfolding narrowed relisted
  narrowed-i a = if-true _ _ _ (eq-eqb i i refl)

  pub narrowed-other : (x a : ℕ) → (x ≡ i → ⊥) → (narrowed N i p).domain x a ≡ N.domain x a
  unfolding narrowed relisted
  narrowed-other x a d = if-false _ _ _ (ne_eqb x i d)

  pub narrowed-fewer : (x a : ℕ) → (narrowed N i p).domain x a ≡ true → N.domain x a ≡ true
  narrowed-fewer x a =
      is-or-not i (λ (y : ℕ). (narrowed N i p).domain y a ≡ true → N.domain y a ≡ true)
      (λ h. and_l _ _ (sym (narrowed-i a) ∙ h))
      (λ y d h. sym (narrowed-other y a d) ∙ h) x

  -- A free variable is no follower, so the domains of followers are as they were until they are trimmed.
  pub narrowed-led : free N i ≡ true → (x l a : ℕ) → N.leader x ≡ suc l → (narrowed N i p).domain x a ≡ N.domain x a
  narrowed-led f x l a e = narrowed-other x a (λ q. clash f (rw (← q) (led-not-free N x l e)))

  narrowed-sound : Sound N → free N i ≡ true → Sound (followers_trimmed (narrowed N i p))
  unfolding narrowed relisted
  narrowed-sound S f = relisted-sound N S _ narrowed-fewer (narrowed-led f)

  -- Where nobody follows there is nothing to trim.
  narrowed-alone : Sound N → ((x : ℕ) → N.leader x ≡ 0) → Sound (narrowed N i p)
  unfolding narrowed relisted
  narrowed-alone S h = rw (trim-none (narrowed N i p) h) at (narrowed-sound S (free-i N i (h i)))

-- Sheets without tables, and one with a table of no row but zero.
plain_fits : (sizes : List ℕ) → 1 ≤ length sizes → ((i : ℕ) → i < length sizes → 1 ≤ get_or sizes i 0)
    → Fits (record { sizes = sizes; tables = [] })
unfolding tabled row_for
plain_fits sizes some values =
    record {
      some_variable = some;
      some_value = values;
      pair_in = λ i j h. clash h refl;
      row_in = λ i j a b h. clash h (has-zero b);
    }

I-sound : Sound (network_of (record { sizes = 1 ∷ []; tables = [] }))
I-sound = network_of-sound _ (plain_fits (1 ∷ []) (omega arith) (λ i l. below_one i l))
  where
    below_one : (i : ℕ) → i < 1 → 1 ≤ get_or (1 ∷ []) i 0
    below_one zero l = omega arith
    below_one (suc i) l = absurd (let x : ⊥ = omega arith in x)

two : (k : ℕ) → 1 ≤ k → (i : ℕ) → i < 2 → 1 ≤ get_or (k ∷ k ∷ []) i 0
two k h zero l = h
two k h (suc zero) l = h
two k h (suc (suc i)) l = absurd (let x : ⊥ = omega arith in x)

H-sound : Sound (network_of (record { sizes = 2 ∷ 2 ∷ []; tables = [] }))
H-sound = network_of-sound _ (plain_fits (2 ∷ 2 ∷ []) (omega arith) (two 2 (omega arith)))

blank : Table
blank = record { first = 1; second = 2; rows = 0 ∷ [] }

zero_row : (a : ℕ) → get_or {A = ℕ} (0 ∷ []) a 0 ≡ 0
zero_row zero = refl
zero_row (suc a) = refl

blank-row : (i j a : ℕ) → row_for (blank ∷ []) i j a ≡ 0
unfolding blank
blank-row i j a =
    by_cases (is_for blank i j)
    (λ e. row_for-here blank [] i j a e ∙ zero_row a)
    (λ e. row_for-there blank [] i j a e ∙ unfold row_for in refl)

blank-sound : Sound blank_table
unfolding blank_table tabled blank
blank-sound =
    network_of-sound _
    (record {
      some_variable = omega arith;
      some_value = two 1 (omega arith);
      pair_in = λ i j h. tabled-cases blank [] i j h
          (λ e. let q = is_for-e blank i j e in omega arith)
          (λ e. clash e refl);
      row_in = λ i j a b h. clash h (rw (blank-row i j a) (has-zero b));
    })

blank-legal : legal blank_table 0 1 ≡ true
unfolding blank_table and or implies not bit if every some sum count has free partner functional outside refusal legal is_for tabled row_for network_of
blank-legal = refl

-- The table allows nothing, so no value of the leader has a partner.
blank-allows : (a b : ℕ) → blank_table.allows 0 1 a b ≡ false
unfolding blank_table network_of blank or
blank-allows a b = rw (blank-row 0 1 a, blank-row 1 0 b, has-zero b) (has-zero a)

-- So the leader's domain is empty, and with it the follower's.
blank-empty : (a : ℕ) → (eliminate blank_table 0 1).domain 0 a ≡ false
blank-empty a = not-true→false _ (λ h. trimmed-e blank_table 0 1 a (sym (domain-i blank_table 0 1 a) ∙ h) (λ b _ q. clash q (blank-allows a b)))

leader-empty : (a : ℕ) → (followed blank_table 0 1).domain 0 a ≡ false
unfolding followed
leader-empty a = not-true→false _ (λ h. clash (trim-fewer _ 0 a h) (blank-empty a))

follower-empty : (a : ℕ) → (followed blank_table 0 1).domain 1 a ≡ false
unfolding followed
follower-empty a =
    not-true→false _ (λ h. trimmed-e _ 1 0 a (sym (trim-led _ 1 0 a (leader-j blank_table 0 1)) ∙ h) (λ b d _. clash d (blank-empty b)))

pub lists-free : ListsFree
unfolding empty_list_network short_list_network
lists-free =
    record {
      any_part = λ N S i f p. narrowed-sound N i p S f;
      short_sound = narrowed-alone _ 0 _ H-sound (λ x. unfold network_of in refl);
      short_list = narrowed-i _ 0 _ 1 ∙ and-false _;
      nobody_follows = λ i. unfold narrowed relisted network_of in refl;
      empty_sound = narrowed-alone _ 0 _ I-sound (λ x. unfold network_of in refl);
      empty_list = λ a. narrowed-i _ 0 _ a ∙ and-false _;
      step_legal = (blank-sound, blank-legal);
      step_sound = followed-sound blank_table blank-sound 0 1 blank-legal;
      step_empties = (leader-empty, follower-empty);
    }
