-- Lists, for a loop that goes over one element after the other.
--     next_is        the rest from i on is element i and the rest from i + 1 on
--     upto f i xs    xs with f done to its first i elements.        upto_zero, upto-length, upto-at, upto_next, upto_all
use mathlib.Core.Path.{◌≡◌, refl, sym, ap, ◌∙◌}
use Prim.Native.Nat.{ℕ, zero, suc, ◌+◌, ◌<◌, ◌≤◌}
use native.Mathlib.Nat.{add-zero, add-suc, not-suc-le-zero, le_of_suc-le-suc}
use mathlib.Core.List.{List, [], ◌∷◌, map}
use lib.ListN.{length, get_or, set, drop}

pub one_more : (i : ℕ) → i + 1 ≡ suc i
one_more i = add-suc i zero ∙ ap suc (add-zero i)

module _ {A : Type 0} where
  next-suc : (xs : List A) (i : ℕ) (d : A) → i < length xs → drop i xs ≡ get_or xs i d ∷ drop (suc i) xs
  next-suc [] i d l = absurd (not-suc-le-zero l)
  next-suc (x ∷ xs) zero d l = refl
  next-suc (x ∷ xs) (suc i) d l = next-suc xs i d (le_of_suc-le-suc l)

  pub next_is : (xs : List A) (i : ℕ) (d : A) → i < length xs → drop i xs ≡ get_or xs i d ∷ drop (i + 1) xs
  next_is xs i d l = next-suc xs i d l ∙ ap (λ (k : ℕ). get_or xs i d ∷ drop k xs) (sym (one_more i))

  module _ (f : A → A) where
    abbrev pub upto : ℕ → List A → List A
    upto i [] = []
    upto zero (x ∷ xs) = x ∷ xs
    upto (suc i) (x ∷ xs) = f x ∷ upto i xs

    pub upto_zero : (xs : List A) → upto 0 xs ≡ xs
    upto_zero [] = refl
    upto_zero (x ∷ xs) = refl

    pub upto-length : (i : ℕ) (xs : List A) → length (upto i xs) ≡ length xs
    upto-length i [] = refl
    upto-length zero (x ∷ xs) = refl
    upto-length (suc i) (x ∷ xs) = ap suc (upto-length i xs)

    pub upto-at : (i : ℕ) (xs : List A) (d : A) → get_or (upto i xs) i d ≡ get_or xs i d
    upto-at i [] d = refl
    upto-at zero (x ∷ xs) d = refl
    upto-at (suc i) (x ∷ xs) d = upto-at i xs d

    next : (i : ℕ) (xs : List A) (d : A) → i < length xs → set (upto i xs) i (f (get_or xs i d)) ≡ upto (suc i) xs
    next i [] d l = absurd (not-suc-le-zero l)
    next zero (x ∷ xs) d l = ap {B = List A} (λ r. f x ∷ r) (sym (upto_zero xs))
    next (suc i) (x ∷ xs) d l = ap {B = List A} (λ r. f x ∷ r) (next i xs d (le_of_suc-le-suc l))

    pub upto_next : (i : ℕ) (xs : List A) (d : A) → i < length xs → set (upto i xs) i (f (get_or xs i d)) ≡ upto (i + 1) xs
    upto_next i xs d l = next i xs d l ∙ ap (λ (k : ℕ). upto k xs) (sym (one_more i))

    pub upto_all : (i : ℕ) (xs : List A) → length xs ≤ i → upto i xs ≡ map f xs
    upto_all i [] l = refl
    upto_all zero (x ∷ xs) l = absurd (not-suc-le-zero l)
    upto_all (suc i) (x ∷ xs) l = ap {B = List A} (λ r. f x ∷ r) (upto_all i xs (le_of_suc-le-suc l))
