-- How long the lines of a refusal are.
use mathlib.Core.Bool.{Bool, true}
use mathlib.Core.List.{List, [], ◌∷◌}
use mathlib.Core.Path.{◌≡◌, refl}
use Prim.Native.Nat.{ℕ, zero, suc, ◌^◌, ◌≤◌, ◌<◌}
use native.Mathlib.Omega.{arith}
use lib.Dec.{leb}
use lib.ListN.{length, get_or, length-append}
use borrow.Author.Tests.{leb-true}
use Rattle.bounded.specs.Bool.{and}
use Rattle.bounded.proofs.Bool.{and_l, and_r}
use Rattle.cause.specs.declared.Cause.{Cause}
use Rattle.cause.specs.Number.{number_of}
use Rattle.cause.proofs.Laws.{number-range}
use Rattle.buffers.proofs.Digits.{length-decimal-le}
use Rattle.text_lines.specs.Text.{ascii}
use Rattle.text_put.proofs.Laws.{digits-64}
use Rattle.text_phrase.specs.Phrase.{phrases, phrase, ending, phrase_end, refused_number, refusal_line, refusal_at_line}

-- ---- lengths

-- Each text is at most so long.
all_within : ℕ → List (List ℕ) → Bool
all_within most [] = true
all_within most (x ∷ l) = and (leb (length x) most) (all_within most l)

one-within : (most : ℕ) (l : List (List ℕ)) (k : ℕ) (d : List ℕ) → all_within most l ≡ true → length d ≤ most → length (get_or l k d) ≤ most
unfolding all_within
one-within most [] k d t h = h
one-within most (x ∷ l) zero d t h = leb-true _ _ (and_l _ _ t)
one-within most (x ∷ l) (suc k) d t h = one-within most l k d (and_r _ _ t) h

pub phrase-le : (number : ℕ) → length (phrase number) ≤ 140
unfolding phrase phrases ascii all_within and
phrase-le number = one-within 140 phrases number (ascii "no cause has this number") refl (omega arith)

ending-le : (number : ℕ) → length (phrase_end number) ≤ 143
unfolding phrase_end ending ascii
ending-le number = simp length-append (omega (arith, phrase-le number))

pub refusal-le : (number : ℕ) → number < 100 → length (refusal_line number) ≤ 153
unfolding refusal_line refused_number ascii
refusal-le number h = simp length-append (omega (arith, ending-le number, length-decimal-le 1 number h))

pub refusal-at-le : (number place : ℕ) → number < 100 → place < 2 ^ 64 → length (refusal_at_line number place) ≤ 177
unfolding refusal_at_line refused_number ascii
refusal-at-le number place h k = simp length-append (omega (arith, ending-le number, length-decimal-le 1 number h, digits-64 place k))

-- A cause has a number of at most two digits.
pub cause-small : (c : Cause) → number_of c < 100
cause-small c = omega (arith, number-range c)
