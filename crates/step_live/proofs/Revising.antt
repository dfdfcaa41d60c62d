-- The lists of others held against that of j, one turn for each of them.
use mathlib.Core.Bool.{Bool, true, false}
use mathlib.Core.Bool as b
use mathlib.Core.List.{List}
use mathlib.Core.Path.{◌≡◌, refl, sym, ap, ap₂, ◌∙◌}
use Prim.Native.Nat.{ℕ, ◌*◌, ◌%◌, ◌^◌, ◌≤◌, ◌<◌}
use native.Mathlib.Nat.{mod-eq_of_lt, one-mul, zero-mul}
use native.Mathlib.Omega.{arith}
use lib.Bits.{bit_or, or_lt}
use lib.Dec.{eqb}
use lib.ListN.{length, get_or, set, length-set}
use lib.Pow.{pow_pos, pow-lt}
use lib.Seq.{get_or-set_same, get_or-set_other}
use mir.Val.{bool_byte}
use borrow.Author.Tests.{eq-eqb, ne_eqb}
use Rattle.bounded.specs.Bool.{and, or, not}
use Rattle.bounded.specs.Fold.{first}
use Rattle.bounded.proofs.Bool.{clash, bool-ext, and_i, and_l, and-true, and-false, true-and, false-and, not-i, not-false-i, if-true, if-false}
use Rattle.bounded.proofs.Fold.{is-or-not}
use Rattle.bounded.proofs.Table.{is-table}
use Rattle.words.specs.Word.{has, word}
use Rattle.words.proofs.Laws.{has-zero, has_one, has-or, has-ruled, has-below, is_word, word_lt}
use Rattle.pairs.specs.Pairs.{variables}
use Rattle.pairs.proofs.Runs.{Within, lowest-in, rest-is, rest_lt, rest-within}
use Rattle.step_compose.specs.Compose.{supported_at}
use Rattle.step_live.specs.Live.{revised_at, Revised}

machine-not : (t : Bool) → b.not t ≡ not t
unfolding not
machine-not true = refl
machine-not false = refl

-- The word whose one member is x, or none.
placed : (w m x : ℕ) (t : Bool) → x < w → 2 ^ x < m → bool_byte t * 2 ^ x % m ≡ word w (λ (v : ℕ). and t (eqb v x))
placed w m x true l h = rw (one-mul (2 ^ x), mod-eq_of_lt h) (is_word w (2 ^ x) _ (pow-lt l) (λ v _. has_one x v ∙ sym (true-and (eqb v x))))
placed w m x false l h =
    let z : 0 % m ≡ 0 = mod-eq_of_lt (omega arith) in
    rw (zero-mul (2 ^ x), z) (is_word w 0 _ (pow_pos w) (λ v _. has-zero v ∙ sym (false-and (eqb v x))))

module _ (w : ℕ) (rows domains : List ℕ) (others j x : ℕ) where
  pub left_alone : has others x ≡ false → get_or domains x 0 ≡ revised_at w rows domains others j x
  unfolding revised_at
  left_alone t = sym (if-false _ _ _ t)

  pub held-against : {r : ℕ} → has others x ≡ true → r ≡ supported_at w rows x j (get_or domains x 0) (get_or domains j 0)
      → r ≡ revised_at w rows domains others j x
  unfolding revised_at
  held-against t e = e ∙ sym (if-true _ _ _ t)

false-or : (t : Bool) → or false t ≡ t
unfolding or
false-or t = refl

or-false : (t : Bool) → or t false ≡ t
unfolding or
or-false true = refl
or-false false = refl

-- In the midst of the loop: the rest are still to be held against j's list.
pub record Revising (w : ℕ) (rows domains : List ℕ) (others j : ℕ) (after : List ℕ) (changed rest : ℕ) : Type 0 where
  pub whole : length after ≡ variables
  pub rest_fits : rest < 2 ^ w
  pub rest_in : Within rest others
  pub revised : (x : ℕ) → has rest x ≡ false → get_or after x 0 ≡ revised_at w rows domains others j x
  pub waiting : (x : ℕ) → has rest x ≡ true → get_or after x 0 ≡ get_or domains x 0
  pub changed_fits : changed < 2 ^ variables
  pub changed_is : (x : ℕ) → x < variables → has changed x ≡ not (eqb (get_or domains x 0) (get_or after x 0))

module _ {w : ℕ} {rows domains : List ℕ} {others j : ℕ} where
  pub revising-none : length domains ≡ variables → others < 2 ^ w → Revising w rows domains others j domains 0 others
  revising-none n f =
      record {
        whole = n;
        rest_fits = f;
        rest_in = λ x t. t;
        revised = λ x t. left_alone w rows domains others j x t;
        waiting = λ x t. refl;
        changed_fits = pow_pos variables;
        changed_is = λ x _. has-zero x ∙ sym (not-false-i _ (eq-eqb (get_or domains x 0) _ refl));
      }

  pub revising-end : {after : List ℕ} {changed rest : ℕ} → Revising w rows domains others j after changed rest → rest ≡ 0
      → Revised w rows domains others j after changed
  revising-end R z =
      record {
        lists_are = is-table variables _ _ 0 R.whole (λ x _. R.revised x (rw z (has-zero x)));
        changed_are = is_word variables _ _ R.changed_fits R.changed_is;
      }

  module _ {after : List ℕ} {changed rest : ℕ} (R : Revising w rows domains others j after changed rest) (more : rest ≡ 0 → ⊥)
      {x : ℕ} (low : x ≡ first w (has rest)) (inside : x < variables)
      {list : ℕ} (le : list ≡ supported_at w rows x j (get_or after x 0) (get_or domains j 0))
      {rest' : ℕ} (se : rest' ≡ word w (λ (u : ℕ). and (has rest u) (not (eqb u (first w (has rest)))))) where
    next : (x < w) × (has rest x ≡ true)
    next = lowest-in w rest x R.rest_fits more low

    -- The rest is as it was, but for x.
    rest-here : has rest' x ≡ false
    rest-here =
        rest-is w R.rest_fits more low se x next.0
        ∙ ap (and (has rest x)) (not-false-i _ (eq-eqb x x refl))
        ∙ and-false _

    rest-there : (y : ℕ) → (y ≡ x → ⊥) → has rest' y ≡ has rest y
    rest-there y d =
        let is = rest-is w R.rest_fits more low se y in
        bool-ext _ _
        (λ t. and_l _ _ (sym (is (has-below w rest' y t (rest_lt w R.rest_fits more low se))) ∙ t))
        (λ t. is (has-below w rest y t R.rest_fits) ∙ and_i _ _ t (not-i _ (ne_eqb y x d)))

    -- x was not held against j before, and is now.
    was : get_or after x 0 ≡ get_or domains x 0
    was = R.waiting x next.1

    here : get_or (set after x list) x 0 ≡ list
    here = get_or-set_same after x list 0 (omega (arith, R.whole))

    there : (y : ℕ) → (y ≡ x → ⊥) → get_or (set after x list) y 0 ≡ get_or after y 0
    there y d = get_or-set_other after x y list 0 d

    module _ (m : ℕ) (big : 2 ^ variables ≤ m) where
      abbrev found : ℕ
      found = bool_byte (b.not (eqb (get_or after x 0) list)) * 2 ^ x % m

      found_is : found ≡ word variables (λ (v : ℕ). and (not (eqb (get_or after x 0) list)) (eqb v x))
      found_is =
          placed variables m x _ inside (omega (arith, pow-lt inside))
          ∙ ap (λ (t : Bool). word variables (λ (v : ℕ). and t (eqb v x))) (machine-not (eqb (get_or after x 0) list))

      now : (y : ℕ) → y < variables → has (bit_or changed found) y ≡ or (not (eqb (get_or domains y 0) (get_or after y 0))) (and (not (eqb (get_or after x 0) list)) (eqb y x))
      now y l = has-or changed found y ∙ ap₂ or (R.changed_is y l) (has-ruled variables _ found_is y l)

      pub revising-more : Revising w rows domains others j (set after x list) (bit_or changed found) rest'
      revising-more =
          record {
            whole = length-set after x list ∙ R.whole;
            rest_fits = rest_lt w R.rest_fits more low se;
            rest_in = rest-within w R.rest_fits more low se others R.rest_in;
            revised = is-or-not x _
                (λ _. here ∙ held-against w rows domains others j x (R.rest_in x next.1) (rw was at le))
                (λ y d t. there y d ∙ R.revised y (sym (rest-there y d) ∙ t));
            waiting = is-or-not x _
                (λ t. clash t rest-here)
                (λ y d t. there y d ∙ R.waiting y (sym (rest-there y d) ∙ t));
            changed_fits = or_lt variables changed found R.changed_fits (rw found_is (word_lt variables _));
            changed_is = is-or-not x _
                (λ l. now x l
                ∙ ap₂ or (not-false-i _ (eq-eqb _ _ (sym was))) (ap (and _) (eq-eqb x x refl) ∙ and-true _)
                ∙ false-or _
                ∙ ap₂ (λ (u v : ℕ). not (eqb u v)) was (sym here))
                (λ y d l. now y l
                ∙ ap (or _) (ap (and _) (ne_eqb y x d) ∙ and-false _)
                ∙ or-false _
                ∙ ap (λ (v : ℕ). not (eqb (get_or domains y 0) v)) (sym (there y d)));
          }
