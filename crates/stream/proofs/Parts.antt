-- Inputs in parts, and one byte more.
use mathlib.Core.Bool.{true, false}
use mathlib.Core.List.{List, [], ◌∷◌, ◌++◌, append_assoc, append-nil}
use mathlib.Core.Path.{◌≡◌, refl, sym, ◌∙◌, ap}
use Prim.Native.Nat.{ℕ, suc, ◌+◌, ◌-◌, ◌≤◌, ◌<◌}
use native.Mathlib.Numerals.{add-one}
use native.Mathlib.Omega.{arith}
use lib.Dec.{eqb}
use lib.ListN.{length, get_or, take, drop, length-drop}
use lib.Seq.{take-suc, get_or-drop}
use Rattle.bounded.proofs.Bool.{if-true, if-false}
use Rattle.stream.specs.Program.{Program}
use Rattle.stream.specs.Bytes.{At, ended, moved, next, text, after, texts, last_text, last_state, parts_text, parts_state, joined, between}

pub between_none : (from : ℕ) (bytes : List ℕ) → between from from bytes ≡ []
between_none from bytes = let e : from - from ≡ 0 = omega arith in rw e

pub between_more : (from to : ℕ) (bytes : List ℕ) → from ≤ to → to < length bytes
    → between from (to + 1) bytes ≡ between from to bytes ++ (get_or bytes to 0 ∷ [])
between_more from to bytes h k =
    let e : to + 1 - from ≡ suc (to - from) = omega arith in
    let p : from + (to - from) ≡ to = omega arith in
    rw (e, take-suc (drop from bytes) (to - from) 0 (omega (arith, length-drop from bytes)), get_or-drop from bytes (to - from) 0, p)

module _ {L S : Type 0} (P : Program L S) where
  -- A line feed, and any other byte.
  module _ (y : At L S) (b : ℕ) where
    pub next-ended : eqb b 10 ≡ true → next P y b ≡ ended P y
    unfolding next
    next-ended h = if-true _ _ _ h

    pub next-moved : eqb b 10 ≡ false → next P y b ≡ moved P y b
    unfolding next
    next-moved h = if-false _ _ _ h

    pub text-ended : eqb b 10 ≡ true → text P y b ≡ P.answer y.state y.seen
    unfolding text
    text-ended h = if-true _ _ _ h

    pub text-moved : eqb b 10 ≡ false → text P y b ≡ []
    unfolding text
    text-moved h = if-false _ _ _ h

  pub after-append : (y : At L S) (a b : List ℕ) → after P y (a ++ b) ≡ after P (after P y a) b
  unfolding after
  after-append y [] b = refl
  after-append y (x ∷ a) b = after-append (next P y x) a b

  pub texts-append : (y : At L S) (a b : List ℕ) → texts P y (a ++ b) ≡ texts P y a ++ texts P (after P y a) b
  unfolding after texts
  texts-append y [] b = refl
  texts-append y (x ∷ a) b =
      rw (texts-append (next P y x) a b) (sym (append_assoc (text P y x) (texts P (next P y x) a) (texts P (after P (next P y x) a) b)))

  text-one : (y : At L S) (b : ℕ) → texts P y (b ∷ []) ≡ text P y b
  unfolding texts
  text-one y b = append-nil (text P y b)

  -- One byte more of a slice.
  module _ (y : At L S) (from to : ℕ) (bytes : List ℕ) (h : from ≤ to) (k : to < length bytes) where
    pub after_more : after P y (between from (to + 1) bytes) ≡ next P (after P y (between from to bytes)) (get_or bytes to 0)
    unfolding after
    after_more = rw (between_more from to bytes h k) (after-append y (between from to bytes) (get_or bytes to 0 ∷ []))

    pub texts-more : texts P y (between from (to + 1) bytes)
        ≡ texts P y (between from to bytes) ++ text P (after P y (between from to bytes)) (get_or bytes to 0)
    texts-more =
        rw (between_more from to bytes h k)
        (texts-append y (between from to bytes) (get_or bytes to 0 ∷ [])
        ∙ ap (λ (t : List ℕ). texts P y (between from to bytes) ++ t) (text-one (after P y (between from to bytes)) (get_or bytes to 0)))

  -- One byte more of the first ones.
  pub after-take : (y : At L S) (i : ℕ) (bytes : List ℕ) → i < length bytes
      → after P y (take (i + 1) bytes) ≡ next P (after P y (take i bytes)) (get_or bytes i 0)
  unfolding after
  after-take y i bytes h = rw (add-one, take-suc bytes i 0 h) (after-append y (take i bytes) (get_or bytes i 0 ∷ []))

  -- It does not matter where an input is parted.
  pub parts-text : (ps : List (List ℕ)) (y : At L S) → parts_text P y ps ≡ texts P y (joined ps) ++ last_text P (after P y (joined ps))
  unfolding parts_text joined texts after
  parts-text [] y = refl
  parts-text (p ∷ ps) y =
      ap (λ (t : List ℕ). texts P y p ++ t) (parts-text ps (after P y p))
      ∙ sym (append_assoc (texts P y p) (texts P (after P y p) (joined ps)) (last_text P (after P (after P y p) (joined ps))))
      ∙ rw (texts-append y p (joined ps), after-append y p (joined ps))

  pub parts-state : (ps : List (List ℕ)) (y : At L S) → parts_state P y ps ≡ last_state P (after P y (joined ps))
  unfolding parts_state joined after
  parts-state [] y = refl
  parts-state (p ∷ ps) y = parts-state ps (after P y p) ∙ rw (after-append y p (joined ps))
