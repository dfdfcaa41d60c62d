-- The test of a path finds one exactly where there is one.
use mathlib.Core.Bool.{Bool, true, false}
use mathlib.Core.Logic.{◌↔◌}
use mathlib.Core.Path.{◌≡◌, refl, sym, ◌∙◌, ap, ap₂, subst}
use Prim.Native.Nat.{ℕ, zero, suc, ◌<◌}
use native.Mathlib.Omega.{arith}
use lib.Dec.{eqb}
use borrow.Author.Tests.{eq-eqb, eqb-true}
use Rattle.bounded.specs.Bool.{and, or, if}
use Rattle.bounded.proofs.Bool.{by_cases, bool-ext, and_comm, and_i, and_l, and_r, or_l, or_r, or_elim, if-true, if-false}
use Rattle.words.specs.Word.{has, word}
use Rattle.words.proofs.Laws.{has_word, word-cong}
use Rattle.bounded.proofs.Fold.{below_suc}
use Rattle.network.specs.Network.{Network}
use Rattle.network.specs.Sound.{Sound}
use Rattle.network.specs.Reach.{Way, here, along, via, leads_to, reach}

module _ (E : ℕ → ℕ → Bool) where
  pub path_join : {i j k : ℕ} → Way E i j → Way E j k → Way E i k
  path_join here q = q
  path_join (along e p) q = along e (path_join p q)

  pub via-path : (m i j : ℕ) → via E m i j ≡ true → Way E i j
  unfolding via
  via-path zero i j h = or_elim _ _ h (λ e. subst (Way E i) (eqb-true i j e) here) (λ e. along e here)
  via-path (suc m) i j h =
      or_elim _ _ h (via-path m i j) (λ p. path_join (via-path m i m (and_l _ _ p)) (via-path m m j (and_r _ _ p)))

  via-more : (m i j : ℕ) → via E m i j ≡ true → via E (suc m) i j ≡ true
  unfolding via
  via-more m i j h = or_l _ _ h

  via-at : (m i j : ℕ) → via E m i m ≡ true → via E m m j ≡ true → via E (suc m) i j ≡ true
  unfolding via
  via-at m i j h k = or_r _ _ (and_i _ _ h k)

  pub via-refl : (m i : ℕ) → via E m i i ≡ true
  unfolding via
  via-refl zero i = or_l _ _ (eq-eqb i i refl)
  via-refl (suc m) i = via-more m i i (via-refl m i)

  pub via-edge : (m i j : ℕ) → E i j ≡ true → via E m i j ≡ true
  unfolding via
  via-edge zero i j h = or_r _ _ h
  via-edge (suc m) i j h = via-more m i j (via-edge m i j h)

  -- A path from or to m needs m between its ends no more.
  to_last : (m i : ℕ) → via E (suc m) i m ≡ true → via E m i m ≡ true
  unfolding via
  to_last m i h = or_elim _ _ h (λ p. p) (and_l _ _)

  from_last : (m j : ℕ) → via E (suc m) m j ≡ true → via E m m j ≡ true
  unfolding via
  from_last m j h = or_elim _ _ h (λ p. p) (and_r _ _)

  -- Two paths that meet below m are one.
  pub via-meet : (m x i j : ℕ) → x < m → via E m i x ≡ true → via E m x j ≡ true → via E m i j ≡ true
  unfolding via
  via-meet zero x i j l h k = absurd (let z : ⊥ = omega arith in z)
  via-meet (suc m) x i j l h k =
      below_suc m x l
      (λ e. via-at m i j (to_last m i (subst (λ (y : ℕ). via E (suc m) i y ≡ true) e h)) (from_last m j (subst (λ (y : ℕ). via E (suc m) y j ≡ true) e k)))
      (λ s. or_elim _ _ h
      (λ p. or_elim _ _ k
      (λ q. via-more m i j (via-meet m x i j s p q))
      (λ q. via-at m i j (via-meet m x i m s p (and_l _ _ q)) (and_r _ _ q)))
      (λ p. or_elim _ _ k
      (λ q. via-at m i j (and_l _ _ p) (via-meet m x m j s (and_r _ _ p) q))
      (λ q. via-at m i j (and_l _ _ p) (and_r _ _ q))))

  -- Where every edge is to a number below n, each path is found.
  pub path-via : (n : ℕ) → ((x y : ℕ) → E x y ≡ true → y < n) → {i j : ℕ} → Way E i j → via E n i j ≡ true
  path-via n within {i = i} here = via-refl n i
  path-via n within (along {i = i} {j = x} {k = j} e p) = via-meet n x i j (within i x e) (via-edge n i x e) (path-via n within p)

-- The rounds as words, one row to a word: round m joins row m to each row that has the bit m. It leaves row m and the column m as they were, so that it may
-- be done in place, in any order of rows.
module _ (E : ℕ → ℕ → Bool) (m : ℕ) where
  pub round-row : (i j : ℕ) → via E (suc m) i j ≡ if (via E m i m) (or (via E m i j) (via E m m j)) (via E m i j)
  unfolding via
  round-row i j = round (via E m i j) (via E m i m) (via E m m j)
    where
      round : (a b c : Bool) → or a (and b c) ≡ if b (or a c) a
      round a true c = unfold and if in refl
      round true false c = unfold or if in refl
      round false false c = unfold and or if in refl

  pub round-own : (j : ℕ) → via E (suc m) m j ≡ via E m m j
  round-own j = bool-ext _ _ (from_last E m j) (via-more E m m j)

  pub round-column : (i : ℕ) → via E (suc m) i m ≡ via E m i m
  round-column i = bool-ext _ _ (to_last E m i) (via-more E m i m)

  pub round-words : (w i : ℕ) → m < w
      → word w (via E (suc m) i)
      ≡ if (has (word w (via E m i)) m) (word w (λ (j : ℕ). or (has (word w (via E m i)) j) (has (word w (via E m m)) j))) (word w (via E m i))
  round-words w i l =
      let bits : (x v : ℕ) → v < w → has (word w (via E m x)) v ≡ via E m x v = λ x v k. has_word w (via E m x) v k in
      by_cases (via E m i m)
      (λ t. word-cong w _ _ (λ j k. round-row i j ∙ (if-true _ _ _ t ∙ sym (ap₂ or (bits i j k) (bits m j k))))
      ∙ sym (if-true _ _ _ (bits i m l ∙ t)))
      (λ t. word-cong w _ _ (λ j k. round-row i j ∙ if-false _ _ _ t)
      ∙ sym (if-false _ _ _ (bits i m l ∙ t)))

-- Paths of turned edges are turned paths: the columns.
pub via-turned : (E : ℕ → ℕ → Bool) (m i j : ℕ) → via (λ (x y : ℕ). E y x) m i j ≡ via E m j i
unfolding via
via-turned E zero i j = ap (λ (b : Bool). or b (E j i)) (eqb-sym i j)
  where
    eqb-sym : (x y : ℕ) → eqb x y ≡ eqb y x
    eqb-sym x y = bool-ext _ _ (λ t. eq-eqb y x (sym (eqb-true x y t))) (λ t. eq-eqb x y (sym (eqb-true y x t)))
via-turned E (suc m) i j =
    ap₂ or (via-turned E m i j) (ap₂ and (via-turned E m i m) (via-turned E m m j) ∙ and_comm _ _)

-- Paths of a sound network.
module _ (N : Network) (S : Sound N) where
  leads-in : (x y : ℕ) → leads_to N x y ≡ true → y < N.n
  unfolding leads_to
  leads-in x y h = (S.stated_in x y (and_l _ _ h)).1

  pub reach-path : (i j : ℕ) → (reach N i j ≡ true) ↔ Way (leads_to N) i j
  unfolding reach
  reach-path i j = (via-path (leads_to N) N.n i j, λ p. path-via (leads_to N) N.n leads-in p)

  pub reach-refl : (i : ℕ) → reach N i i ≡ true
  unfolding reach
  reach-refl i = via-refl (leads_to N) N.n i

  pub reach-trans : (i j k : ℕ) → reach N i j ≡ true → reach N j k ≡ true → reach N i k ≡ true
  reach-trans i j k p q = (reach-path i k).1 (path_join (leads_to N) ((reach-path i j).0 p) ((reach-path j k).0 q))
