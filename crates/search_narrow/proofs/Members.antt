-- Members of words, and the values of a domain that are not tried yet.
use mathlib.Core.Bool.{true}
use mathlib.Core.List.{List}
use mathlib.Core.Path.{◌≡◌, refl, sym, fun_ext, ◌∙◌}
use Prim.Native.Nat.{ℕ, ◌^◌, ◌<◌}
use native.Mathlib.Omega.{arith}
use lib.Dec.{eqb, ltb}
use lib.ListN.{get_or}
use borrow.Author.Tests.{eqb-false, eq-eqb, ne_eqb, ltb-true, ltb-false}
use Rattle.bounded.specs.Bool.{and, not}
use Rattle.bounded.specs.Fold.{first}
use Rattle.bounded.proofs.Bool.{by_cases, clash, and_l, and_r, not-e, if-true, if-false}
use Rattle.bounded.proofs.Fold.{is-or-not, first_below}
use Rattle.words.specs.Word.{has, word}
use Rattle.words.proofs.Laws.{word_lt, has-ruled, has-below}
use Rattle.pairs.proofs.Laws.{higher}
use Rattle.pairs.proofs.Runs.{rest-is, rest_lt}
use Rattle.search_narrow.specs.Narrow.{listed, untried}

-- A member of both words is one of the second.
pub in-second : (w x y z j : ℕ) → z ≡ word w (λ (u : ℕ). and (has x u) (has y u)) → has z j ≡ true → has y j ≡ true
in-second w x y z j e t =
    let l = has-below w z j t (rw e (word_lt w _)) in
    and_r _ _ (sym (has-ruled w _ e j l) ∙ t)

-- A word without its lowest member, a, has members above it alone.
pub above-lowest : (w rest rest' a : ℕ) → rest < 2 ^ w → (rest ≡ 0 → ⊥) → a ≡ first w (has rest)
    → rest' ≡ word w (λ (u : ℕ). and (has rest u) (not (eqb u (first w (has rest)))))
    → (j : ℕ) → has rest' j ≡ true → (has rest j ≡ true) × (a < j)
above-lowest w rest rest' a fits more low e j t =
    let l = has-below w rest' j t (rest_lt w fits more low e) in
    let q = sym (rest-is w fits more low e j l) ∙ t in
    let d : j ≡ a → ⊥ = eqb-false j a (not-e _ (and_r _ _ q)) in
    by_cases (ltb j a)
    (λ b. clash (and_l _ _ q) (first_below w (has rest) j (omega (arith, ltb-true j a b))))
    (λ b. (and_l _ _ q, higher (ltb-false j a b) d))

-- ---- the values to be tried

module _ (domains : List ℕ) (k : ℕ) where
  pub untried-here : (rest a : ℕ) → untried domains k rest k a ≡ has rest a
  unfolding untried
  untried-here rest a = if-true _ _ _ (eq-eqb k k refl)

  pub untried-there : (rest i a : ℕ) → (i ≡ k → ⊥) → untried domains k rest i a ≡ listed domains i a
  unfolding untried listed
  untried-there rest i a d = if-false _ _ _ (ne_eqb i k d)

  -- At first they are all those in the domain.
  pub all-untried : untried domains k (get_or domains k 0) ≡ listed domains
  unfolding listed
  all-untried =
      fun_ext (is-or-not k (λ (i : ℕ). untried domains k (get_or domains k 0) i ≡ listed domains i)
      (fun_ext (untried-here (get_or domains k 0)))
      (λ i d. fun_ext (λ a. untried-there (get_or domains k 0) i a d)))
