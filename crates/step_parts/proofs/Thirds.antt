-- The third variables, taken one after the other: a loop drops the lowest member of the rest of them.
use mathlib.Core.Bool.{true, false}
use mathlib.Core.Path.{◌≡◌, refl, sym, ◌∙◌}
use Prim.Native.Nat.{ℕ, ◌^◌, ◌<◌}
use lib.Dec.{eqb, ltb}
use borrow.Author.Tests.{eq-eqb, ne_eqb, ltb-true, ltb-false}
use Rattle.bounded.specs.Bool.{and, not}
use Rattle.bounded.specs.Fold.{first}
use Rattle.bounded.proofs.Bool.{by_cases, and-false, and-true}
use Rattle.words.specs.Word.{has, word}
use Rattle.words.proofs.Laws.{has-past, has-below}
use Rattle.pairs.proofs.Runs.{Within, lowest-in, rest-is, rest_lt, rest-within}

-- What is left of them.
pub record Left (w thirds rest : ℕ) : Type 0 where
  pub fits : rest < 2 ^ w
  pub within : Within rest thirds

pub all_left : (w : ℕ) {thirds : ℕ} → thirds < 2 ^ w → Left w thirds thirds
all_left w f = record { fits = f; within = λ u t. t }

-- The lowest of the rest is one of them.
pub third-found : (w m : ℕ) {thirds rest k : ℕ} → thirds < 2 ^ m → Left w thirds rest → (rest ≡ 0 → ⊥) → k ≡ first w (has rest)
    → (k < m) × (has thirds k ≡ true)
third-found w m {thirds} {rest} {k} b L n low =
    let t = L.within k (lowest-in w rest k L.fits n low).1 in
    (has-below m thirds k t b, t)

-- A turn takes k from the rest.
pub record Taken (w thirds rest rest' k : ℕ) : Type 0 where
  pub in_word : k < w
  pub in_rest : has rest k ≡ true
  pub is_third : has thirds k ≡ true
  pub gone : has rest' k ≡ false
  pub others : (x : ℕ) → (x ≡ k → ⊥) → has rest' x ≡ has rest x
  pub still : Left w thirds rest'

module _ (w : ℕ) {thirds rest rest' k : ℕ} (L : Left w thirds rest) (n : rest ≡ 0 → ⊥) (low : k ≡ first w (has rest))
    (re : rest' ≡ word w (λ (u : ℕ). and (has rest u) (not (eqb u (first w (has rest)))))) where
  after-lt : rest' < 2 ^ w
  after-lt = rest_lt w L.fits n low re

  is : (x : ℕ) → x < w → has rest' x ≡ and (has rest x) (not (eqb x k))
  is = rest-is w L.fits n low re

  pub taken : Taken w thirds rest rest' k
  unfolding not
  taken =
      let i = lowest-in w rest k L.fits n low in
      record {
        in_word = i.0;
        in_rest = i.1;
        is_third = L.within k i.1;
        gone = is k i.0 ∙ rw (eq-eqb k k refl) (and-false (has rest k));
        others =
            λ x d. by_cases (ltb x w)
            (λ t. is x (ltb-true x w t) ∙ rw (ne_eqb x k d) (and-true (has rest x)))
            (λ t. has-past w rest' x after-lt (ltb-false x w t) ∙ sym (has-past w rest x L.fits (ltb-false x w t)));
        still = record { fits = after-lt; within = rest-within w L.fits n low re thirds L.within };
      }
