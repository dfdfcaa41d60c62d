-- Leaders and stated pairs after a step, entry by entry.
use mathlib.Core.Bool.{Bool, true, false}
use mathlib.Core.List.{List}
use mathlib.Core.Path.{◌≡◌, refl, sym, ap, ◌∙◌}
use Prim.Native.Nat.{ℕ, suc, ◌+◌, ◌^◌, ◌<◌}
use native.Mathlib.Numerals.{add-one}
use native.Mathlib.Omega.{arith}
use lib.Dec.{eqb}
use lib.ListN.{length, get_or, set, length-set}
use lib.Seq.{get_or-set_same, get_or-set_other}
use borrow.Author.Tests.{eq-eqb, ne_eqb}
use Rattle.bounded.specs.Array.{Array}
use Rattle.bounded.specs.Bool.{and, or, not}
use Rattle.bounded.specs.Table.{tabulate}
use Rattle.bounded.proofs.Bool.{by_cases, clash, and-true, and-false, or_l, or_r, if-true, if-false, if-or, and_assoc}
use Rattle.bounded.proofs.Fold.{is-or-not}
use Rattle.bounded.proofs.Table.{is-table}
use Rattle.network.specs.Pairs.{Stays}
use Rattle.network.proofs.Pairs.{Moved, moved}
use Rattle.words.specs.Word.{has, word}
use Rattle.words.proofs.Laws.{has-zero, word-cong, is_word, has-ruled}
use Rattle.step_parts.specs.StepParts.{led_after, leader_after, third_of, stated_after}
use Rattle.step_parts.proofs.Thirds.{Taken}

-- ---- leaders

module _ (i j l : ℕ) where
  pub follower-of-j-led : l ≡ j + 1 → i + 1 ≡ led_after i j l
  unfolding led_after
  follower-of-j-led e = add-one i ∙ sym (if-true _ _ _ (eq-eqb l (suc j) (e ∙ add-one j)))

  pub other-led : (l ≡ j + 1 → ⊥) → l ≡ led_after i j l
  unfolding led_after
  other-led e = sym (if-false _ _ _ (ne_eqb l (suc j) (λ q. e (q ∙ sym (add-one j)))))

  pub j-led : (x : ℕ) → x ≡ j → i + 1 ≡ leader_after i j x l
  unfolding leader_after
  j-led x e = add-one i ∙ sym (if-true _ _ _ (or_l _ _ (eq-eqb x j e)))

  pub led-same : (x : ℕ) {r : ℕ} → (x ≡ j → ⊥) → r ≡ led_after i j l → r ≡ leader_after i j x l
  unfolding led_after leader_after or
  led-same x d e = rw (ne_eqb x j d) e

-- ---- the third variables

pub thirds-found : (w others i j : ℕ) {si sj y r : ℕ} → si ≡ word w (λ (u : ℕ). eqb u i) → sj ≡ word w (λ (u : ℕ). eqb u j)
    → y ≡ word w (λ (u : ℕ). and (has others u) (not (has si u))) → r ≡ word w (λ (u : ℕ). and (has y u) (not (has sj u)))
    → r ≡ word w (third_of i j (has others))
unfolding third_of
thirds-found w others i j ei ej e f =
    f ∙ word-cong w _ _ (λ v l. rw (has-ruled w _ e v l, has-ruled w _ ei v l, has-ruled w _ ej v l) (and_assoc (has others v) _ _))

-- ---- stated pairs

or-true : (a : Bool) → or a true ≡ true
or-true a = or_r a true refl

or-false : (a : Bool) → or a false ≡ a
unfolding or
or-false true = refl
or-false false = refl

module _ (i j : ℕ) (T others : ℕ → Bool) (d : i ≡ j → ⊥) (ti : T i ≡ false) (tj : T j ≡ false) where
  table : Moved i j T (λ (x y : ℕ). true) (λ (x y : ℕ). true) false (λ (x y : ℕ). others y) (λ (x y : ℕ). stated_after i j T x others y)
  unfolding stated_after
  table = moved i j T _ _ false _ d ti tj (λ x y. simp if-or)

  stated-i : (y : ℕ) → or (others y) (T y) ≡ stated_after i j T i others y
  stated-i y =
      by_cases (T y)
      (λ t. rw t (or-true (others y)) ∙ sym (table.at_ik y t))
      (λ t. rw t (or-false (others y))
      ∙ sym (table.elsewhere i y (record { left_i = λ e. t; right_i = λ e. ti; left_j = λ e. absurd (d e); right_j = λ e. ti })))

  stated-j : (y : ℕ) → and (others y) (not (T y)) ≡ stated_after i j T j others y
  unfolding not
  stated-j y =
      by_cases (T y)
      (λ t. rw t (and-false (others y)) ∙ sym (table.at_jk y t))
      (λ t. rw t (and-true (others y))
      ∙ sym (table.elsewhere j y (record { left_i = λ e. absurd (d (sym e)); right_i = λ e. tj; left_j = λ e. t; right_j = λ e. tj })))

  stated-k : (k y : ℕ) → T k ≡ true → and (or (others y) (eqb y i)) (not (eqb y j)) ≡ stated_after i j T k others y
  unfolding not
  stated-k k y t =
      is-or-not i (λ (v : ℕ). and (or (others v) (eqb v i)) (not (eqb v j)) ≡ stated_after i j T k others v)
      (rw (eq-eqb i i refl, ne_eqb i j d, or-true (others i)) (and-true true) ∙ sym (table.at_ki k t))
      (λ v p. is-or-not j (λ (u : ℕ). (u ≡ i → ⊥) → and (or (others u) (eqb u i)) (not (eqb u j)) ≡ stated_after i j T k others u)
      (λ q. rw (eq-eqb j j refl) (and-false (or (others j) (eqb j i))) ∙ sym (table.at_kj k t))
      (λ u q r. rw (ne_eqb u i r, ne_eqb u j q, or-false (others u)) (and-true (others u)) ∙ sym (table.elsewhere k u (stays u r q)))
      v p)
      y
    where
      stays : (u : ℕ) → (u ≡ i → ⊥) → (u ≡ j → ⊥) → Stays i j T k u
      stays u p q =
          record {
            left_i = λ e. clash t (ap T e ∙ ti);
            right_i = λ e. absurd (p e);
            left_j = λ e. clash t (ap T e ∙ tj);
            right_j = λ e. absurd (q e);
          }

  stated-other : (x y : ℕ) → (x ≡ i → ⊥) → (x ≡ j → ⊥) → T x ≡ false → others y ≡ stated_after i j T x others y
  stated-other x y p q t =
      sym (table.elsewhere x y (record { left_i = λ e. absurd (p e); right_i = λ e. t; left_j = λ e. absurd (q e); right_j = λ e. t }))

-- The array of them, in which what is not in the rest is as it is to be.
pub record Linked (w : ℕ) (stated : List ℕ) (thirds i j : ℕ) (after : List ℕ) (rest : ℕ) : Type 0 where
  pub whole : length after ≡ 16
  pub linked : (x : ℕ) → x < 16 → has rest x ≡ false → get_or after x 0 ≡ word w (stated_after i j (has thirds) x (has (get_or stated x 0)))

module _ (w : ℕ) {stated : List ℕ} {thirds i j : ℕ} where
  -- In the end all are.
  pub all-linked : {after : List ℕ} {rest : ℕ} → rest ≡ 0 → Linked w stated thirds i j after rest
      → after ≡ tabulate 16 (λ (x : ℕ). word w (stated_after i j (has thirds) x (has (get_or stated x 0))))
  all-linked z L = is-table 16 _ _ 0 L.whole (λ x l. L.linked x l (rw z (has-zero x)))

  module _ (d : i ≡ j → ⊥) (ti : has thirds i ≡ false) (tj : has thirds j ≡ false) where
    -- At first i and j are, and who is no third variable.
    pub ends-linked : {a b : ℕ} → i < 16 → j < 16 → Array 16 (2 ^ w) stated
        → a ≡ word w (λ (u : ℕ). or (has (get_or stated i 0) u) (has thirds u))
        → b ≡ word w (λ (u : ℕ). and (has (get_or stated j 0) u) (not (has thirds u)))
        → Linked w stated thirds i j (set (set stated i a) j b) thirds
    ends-linked {a} {b} li lj A ea eb =
        let m : length (set stated i a) ≡ 16 = length-set stated i a ∙ A.array_length in
        record {
          whole = length-set (set stated i a) j b ∙ m;
          linked =
              λ x lx f. is-or-not j (λ (y : ℕ). has thirds y ≡ false → get_or (set (set stated i a) j b) y 0 ≡ word w (stated_after i j (has thirds) y (has (get_or stated y 0))))
              (λ _. get_or-set_same (set stated i a) j b 0 (omega arith)
              ∙ eb ∙ word-cong w _ _ (λ v _. stated-j i j (has thirds) (has (get_or stated j 0)) d ti tj v))
              (λ y p. is-or-not i (λ (z : ℕ). (z ≡ j → ⊥) → has thirds z ≡ false → get_or (set (set stated i a) j b) z 0 ≡ word w (stated_after i j (has thirds) z (has (get_or stated z 0))))
              (λ q _. get_or-set_other (set stated i a) j i b 0 q ∙ get_or-set_same stated i a 0 (omega (arith, A.array_length))
              ∙ ea ∙ word-cong w _ _ (λ v _. stated-i i j (has thirds) (has (get_or stated i 0)) d ti tj v))
              (λ z r q n. get_or-set_other (set stated i a) j z b 0 q ∙ get_or-set_other stated i z a 0 r
              ∙ is_word w _ _ (A.element_lt z) (λ v _. stated-other i j (has thirds) (has (get_or stated z 0)) d ti tj z v r q n))
              y p)
              x f;
        }

    -- A third variable more: i takes the place of j.
    pub third-linked : {after : List ℕ} {rest rest' k si sj y r : ℕ} → Linked w stated thirds i j after rest → Taken w thirds rest rest' k → k < 16
        → si ≡ word w (λ (u : ℕ). eqb u i) → sj ≡ word w (λ (u : ℕ). eqb u j)
        → y ≡ word w (λ (u : ℕ). or (has (get_or stated k 0) u) (has si u)) → r ≡ word w (λ (u : ℕ). and (has y u) (not (has sj u)))
        → Linked w stated thirds i j (set after k r) rest'
    third-linked {after} {rest} {rest'} {k} {si} {sj} {y} {r} L t lk ei ej ey er =
        record {
          whole = length-set after k r ∙ L.whole;
          linked =
              λ x lx f. is-or-not k (λ (z : ℕ). z < 16 → has rest' z ≡ false → get_or (set after k r) z 0 ≡ word w (stated_after i j (has thirds) z (has (get_or stated z 0))))
              (λ _ _. get_or-set_same after k r 0 (omega (arith, L.whole))
              ∙ er ∙ word-cong w _ _ (λ v l. rw (has-ruled w _ ey v l, has-ruled w _ ei v l, has-ruled w _ ej v l)
              (stated-k i j (has thirds) (has (get_or stated k 0)) d ti tj k v t.is_third)))
              (λ z p l g. get_or-set_other after k z r 0 p ∙ L.linked z l (sym (t.others z p) ∙ g))
              x lx f;
        }
