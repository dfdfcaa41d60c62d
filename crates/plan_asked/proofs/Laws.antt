-- The cases of a word.
use mathlib.Core.Bool.{Bool, true, false, true≢false, ◌&&◌}
use mathlib.Core.List.{List, [], ◌∷◌}
use mathlib.Core.Path.{◌≡◌, refl, sym, ◌∙◌, ap}
use Prim.Native.Nat.{ℕ, ◌<◌}
use native.Mathlib.Omega.{arith}
use lib.Dec.{eqb}
use lib.ListN.{length, get_or, take}
use lib.Pointwise.{pointwise}
use borrow.Author.Tests.{eqb-true, lt-ltb, le-ltb, eq-eqb}
use Rattle.std.specs.Bool.{MatchBool}
use Rattle.std.specs.List.{HoldsAt, AllWithin}
use Rattle.std.specs.Char.{is_ascii_digit}
use Rattle.std.specs.Option.{is_some}
use Rattle.std.specs.Prelude.{Some}
use Rattle.bounded.specs.Bool.{and}
use Rattle.bounded.specs.Fold.{every}
use Rattle.bounded.proofs.Bool.{if-true, if-false, false-and, bool-ext, and_i, and_r, not-true→false}
use Rattle.bounded.proofs.Fold.{every-i, every-e}
use Rattle.text_lines.specs.Text.{ascii}
use Rattle.plan_asked.specs.declared.Phase.TheVariants as phase
use Rattle.plan_asked.specs.declared.Asked.{Asked}
use Rattle.plan_asked.specs.Asked.{same, is_digit, is_number, faulty, helped, with_page, with_lead, with_file, with_word}

-- The slices' test of two words.
and-is : (s t : Bool) → (s && t) ≡ and s t
unfolding and
and-is true t = refl
and-is false t = refl

same-is : (a b : List ℕ) → pointwise eqb a b ≡ same a b
unfolding same
same-is [] [] = refl
same-is [] (y ∷ b) = refl
same-is (x ∷ a) [] = refl
same-is (x ∷ a) (y ∷ b) = and-is _ _ ∙ ap (and (eqb x y)) (same-is a b)

pub same-told : (a : List ℕ) {b c : List ℕ} {r s : Bool} → b ≡ c → r ≡ pointwise eqb a b → r ≡ s → same a c ≡ s
same-told a {b} {c} e p q = ap (same a) (sym e) ∙ sym (same-is a b) ∙ sym p ∙ q

-- The first byte of an empty word is none.
and-true : (s : Bool) → (s && true) ≡ s
and-true true = refl
and-true false = refl

eqb-other : (x y : ℕ) → eqb x y ≡ eqb y x
eqb-other x y = bool-ext (eqb x y) (eqb y x) (λ t. eq-eqb y x (sym (eqb-true x y t))) (λ t. eq-eqb x y (sym (eqb-true y x t)))

pub dashed-told : (word : List ℕ) {r s : Bool} → r ≡ pointwise eqb (45 ∷ []) (take 1 word) → r ≡ s → eqb (get_or word 0 0) 45 ≡ s
dashed-told [] p q = sym p ∙ q
dashed-told (x ∷ word) p q = eqb-other x 45 ∙ sym (and-true _) ∙ sym p ∙ q

-- A second leader, and a first.
module _ (a : Asked) {led : Bool} (e : led ≡ is_some a.lead) where
  pub lead_twice : {r : Asked} → led ≡ true → r ≡ faulty a → r ≡ with_lead a
  unfolding with_lead
  lead_twice t f = f ∙ sym (if-true _ _ _ (sym e ∙ t))

  pub lead_once : led ≡ false → record { phase = phase.Leader; page9 = a.page9; lead = Some 0; file = a.file } ≡ with_lead a
  unfolding with_lead
  lead_once t = sym (if-false _ _ _ (sym e ∙ t))

-- What a word asks for.
module _ (a : Asked) (k : ℕ) (word : List ℕ) where
  pub word-page : same word (ascii "--page9") ≡ true → with_word a k word ≡ with_page a
  unfolding with_word
  word-page h = if-true _ _ _ h

  module _ (p : same word (ascii "--page9") ≡ false) where
    pub word-lead : same word (ascii "--lead") ≡ true → with_word a k word ≡ with_lead a
    unfolding with_word
    word-lead h = if-false _ _ _ p ∙ if-true _ _ _ h

    module _ (l : same word (ascii "--lead") ≡ false) where
      pub word-help : same word (ascii "--help") ≡ true → with_word a k word ≡ helped a
      unfolding with_word
      word-help h = if-false _ _ _ p ∙ if-false _ _ _ l ∙ if-true _ _ _ h

      module _ (q : same word (ascii "--help") ≡ false) where
        pub word-dashed : eqb (get_or word 0 0) 45 ≡ true → with_word a k word ≡ faulty a
        unfolding with_word
        word-dashed h = if-false _ _ _ p ∙ if-false _ _ _ l ∙ if-false _ _ _ q ∙ if-true _ _ _ h

        pub word-file : eqb (get_or word 0 0) 45 ≡ false → with_word a k word ≡ with_file a k
        unfolding with_word
        word-file h = if-false _ _ _ p ∙ if-false _ _ _ l ∙ if-false _ _ _ q ∙ if-false _ _ _ h

-- A digit, and a number of digits.
digit_is : (byte : ℕ) → is_ascii_digit byte ≡ is_digit byte
unfolding is_digit
digit_is byte = and-is _ _

pub digits-told : (word : List ℕ) (r : Bool)
    → MatchBool r (AllWithin (λ x. is_ascii_digit x ≡ true) word 0 (length word)) ((k : ℕ) × (k < length word) × HoldsAt (λ x. is_ascii_digit x ≡ false) word k)
    → (length word ≡ 0 → ⊥) → r ≡ is_number word
unfolding is_number
digits-told word true h e =
    sym (and_i _ _ (lt-ltb 0 (length word) (omega arith)) (every-i _ _ (λ k l. sym (digit_is _) ∙ h k 0 (omega arith) l)))
digits-told word false h e =
    sym (not-true→false _ (λ t. true≢false (sym (every-e _ _ (and_r _ _ t) h.0 h.1) ∙ sym (digit_is _) ∙ h.2 0)))

pub no_number : (word : List ℕ) → length word ≡ 0 → false ≡ is_number word
unfolding is_number
no_number word e = sym (ap (λ (b : Bool). and b (every (length word) (λ (k : ℕ). is_digit (get_or word k 0)))) (le-ltb 0 (length word) (omega arith)) ∙ false-and _)
