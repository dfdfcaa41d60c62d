-- What a table says of two leaders' values, read off an array of rows, for any number w of values.
use mathlib.Core.Bool.{Bool, true}
use mathlib.Core.List.{List}
use mathlib.Core.Path.{◌≡◌, sym, ap, ap₂, ◌∙◌}
use Prim.Native.Nat.{ℕ, ◌^◌, ◌<◌}
use lib.ListN.{get_or}
use borrow.Author.Tests.{eq-eqb, ne_eqb}
use Rattle.bounded.specs.Bool.{and, if}
use Rattle.bounded.specs.Fold.{first}
use Rattle.bounded.proofs.Bool.{and-holds, if-true, if-false}
use Rattle.bounded.proofs.Fold.{some-cong, first_cong}
use Rattle.words.specs.Word.{has, word}
use Rattle.words.proofs.Laws.{has-ruled, is_word, word-cong}
use Rattle.pairs.specs.Pairs.{allows_of, partners_of}
use Rattle.pairs.specs.Frames.{Stored}
use Rattle.step_sides.specs.declared.sides.Side.{Side}
use Rattle.step_sides.specs.Sides.{Apart, partner_at, PartnersIn, told_at, reach_at, kept_at}

-- ---- the partner of one value

module _ (w : ℕ) (rows : List ℕ) (s : Side) (a : ℕ) where
  -- A free variable's value is its own partner.
  pub partner-own : s.leader ≡ s.named → a ≡ partner_at w rows s a
  unfolding partner_at
  partner-own e = sym (if-true _ _ _ (eq-eqb _ _ e))

  -- Another's is the lowest of row AND domain.
  pub partner-led : {row both r : ℕ} → (s.leader ≡ s.named → ⊥) → row ≡ word w (allows_of w rows s.leader s.named a)
      → both ≡ word w (λ (u : ℕ). and (has s.domain u) (has row u)) → r ≡ first w (has both) → r ≡ partner_at w rows s a
  unfolding partner_at
  partner-led {row} {both} d re be e =
      e
      ∙ first_cong w _ _ (λ c l. has-ruled w _ be c l ∙ ap (and (has s.domain c)) (has-ruled w _ re c l))
      ∙ sym (if-false _ _ _ (ne_eqb _ _ d))

-- ---- a row of the table, told to a leader

module _ (w : ℕ) (rows : List ℕ) (s : Side) (row : ℕ) where
  -- To a free variable it tells its own values,
  pub told-own : row < 2 ^ w → s.leader ≡ s.named → row ≡ word w (told_at w rows s row)
  unfolding told_at
  told-own l e = is_word w row _ l (λ b k. sym (if-true _ _ _ (eq-eqb _ _ e)))

  -- and to another the partners of its members in the domain.
  pub told-led : {both r : ℕ} → (s.leader ≡ s.named → ⊥) → both ≡ word w (λ (u : ℕ). and (has s.domain u) (has row u))
      → r ≡ partners_of w rows s.named s.leader both → r ≡ word w (told_at w rows s row)
  unfolding told_at partners_of
  told-led {both} d be e =
      e ∙ word-cong w _ _ (λ b k.
      some-cong w _ _ (λ u m. ap (λ (n : Bool). and n (allows_of w rows s.named s.leader u b)) (has-ruled w _ be u m))
      ∙ sym (if-false _ _ _ (ne_eqb _ _ d)))

-- The row of a value's partner says what the table allows with the value.
pub reach-is : (w : ℕ) (rows table : List ℕ) (s t : Side) (a : ℕ) {c r : ℕ} → c ≡ partner_at w rows s a → r ≡ word w (told_at w rows t (get_or table c 0))
    → r ≡ word w (reach_at w rows table s t a)
unfolding reach_at
reach-is w rows table s t a ce e = e ∙ ap (λ (n : ℕ). word w (told_at w rows t (get_or table n 0))) ce

-- ---- one value of the first leader

module _ (w : ℕ) (rows table : List ℕ) (s t : Side) (a : ℕ) where
  -- Of two free variables, each value is its own partner.
  pub free-reach : s.leader ≡ s.named → t.leader ≡ t.named → (b : ℕ) → has (get_or table a 0) b ≡ reach_at w rows table s t a b
  unfolding reach_at told_at
  free-reach se te b = ap (λ (c : ℕ). has (get_or table c 0) b) (partner-own w rows s a se) ∙ sym (if-true _ _ _ (eq-eqb _ _ te))

  -- Of one leader, a value stays where the table allows its two partners.
  pub kept-one : {c d : ℕ} {r : Bool} → has s.values a ≡ true → ((row : ℕ) → told_at w rows t row a ≡ has row (partner_at w rows t a))
      → c ≡ partner_at w rows s a → d ≡ partner_at w rows t a → r ≡ has (get_or table c 0) d → r ≡ kept_at w rows table s t a
  unfolding kept_at reach_at
  kept-one h te ce de re = re ∙ ap₂ (λ (x y : ℕ). has (get_or table x 0) y) ce de ∙ sym (te _) ∙ sym (and-holds _ _ h)

-- ---- all values

-- While the leaders' pair is stored, what the table is told through is as before.
module _ (w : ℕ) {before now : List ℕ} {s t : Side} (A : Apart s t) {f : ℕ → ℕ → Bool} {n : ℕ}
    (st : Stored w before now s.leader t.leader f n) where
  told-first : (a c : ℕ) → allows_of w now s.leader s.named a c ≡ allows_of w before s.leader s.named a c
  told-first a c = st.rest _ _ a c (record { not_ij = λ _ e. A.first_apart e; not_ji = λ e _. A.leaders_apart e })

  told-second : (d b : ℕ) → allows_of w now t.named t.leader d b ≡ allows_of w before t.named t.leader d b
  told-second d b = st.rest _ _ d b (record { not_ij = λ e _. A.second_apart e; not_ji = λ _ e. A.leaders_apart (sym e) })

  partner-stays : (a : ℕ) → partner_at w now s a ≡ partner_at w before s a
  unfolding partner_at
  partner-stays a = ap (if _ a) (first_cong w _ _ (λ c l. ap (and (has s.domain c)) (told-first a c)))

  pub partners-stay : (table : List ℕ) → PartnersIn w before table s → PartnersIn w now table s
  partners-stay table h a d = rw (partner-stays a) (h a d)

  pub reach-stays : (table : List ℕ) (a b : ℕ) → reach_at w now table s t a b ≡ reach_at w before table s t a b
  unfolding reach_at told_at
  reach-stays table a b =
      rw (partner-stays a)
      (ap (if _ _) (some-cong w _ _ (λ d l. ap (and (and (has t.domain d) (has (get_or table (partner_at w before s a) 0) d))) (told-second d b))))
