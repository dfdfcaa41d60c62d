-- The cases of the lines.
use mathlib.Core.Bool.{Bool, true, false, cond}
use mathlib.Core.List.{List, [], ◌++◌}
use mathlib.Core.Path.{◌≡◌, refl, sym, ◌∙◌, ap}
use Prim.Native.Nat.{ℕ, zero, suc, ◌+◌, ◌≤◌}
use native.Mathlib.Numerals.{add-one}
use native.Mathlib.Omega.{arith}
use lib.Dec.{eqb, ltb}
use lib.ListN.{length, get_or, take}
use borrow.Author.Tests.{eq-eqb, ne_eqb}
use Rattle.std.specs.List.{filter, count_by}
use Rattle.std.specs.Prelude.{not as none}
use Rattle.std.proofs.lemmas.List.Filters.{length-filter_more}
use Rattle.std.proofs.lemmas.List.Sums.{length-filter}
use Rattle.bounded.specs.Bool.{and, not, bit}
use Rattle.bounded.specs.Fold.{sum, count}
use Rattle.bounded.proofs.Bool.{if-true, if-false}
use Rattle.words.specs.Word.{width, has, word}
use Rattle.words.proofs.Laws.{word-cong, has-ruled}
use Rattle.buffers.specs.Digits.{decimal}
use Rattle.text_lines.specs.Text.{ascii}
use Rattle.plan_lines.specs.Lines.{spaced, value_among, values_line, option_line, steps_of, stock_line, idle_word, builds_line}

pub value_in : (x v : ℕ) → has x v ≡ true → value_among x v ≡ spaced v
unfolding value_among
value_in x v t = if-true _ _ _ t

pub value_out : (x v : ℕ) → has x v ≡ false → value_among x v ≡ []
unfolding value_among
value_out x v t = if-false _ _ _ t

pub option-live : (i leader list : ℕ) → leader ≡ 0 → option_line i leader list ≡ values_line (ascii "LIVE ") i list
unfolding option_line
option-live i leader list h = if-true _ _ _ (eq-eqb leader 0 h)

pub option-follows : (i leader list : ℕ) → (leader ≡ 0 → ⊥)
    → option_line i leader list ≡ (ascii "FOLLOWS " ++ decimal (i + 1)) ++ ((ascii " OF " ++ decimal leader) ++ ascii "\n")
unfolding option_line
option-follows i leader list h = if-false _ _ _ (ne_eqb leader 0 h)

pub stock-none : (kind : List ℕ) (i x : ℕ) → x ≡ 0 → stock_line kind i x ≡ []
unfolding stock_line
stock-none kind i x h = if-true _ _ _ (eq-eqb x 0 h)

pub stock-some : (kind : List ℕ) (i x : ℕ) → (x ≡ 0 → ⊥) → stock_line kind i x ≡ values_line kind i x
unfolding stock_line
stock-some kind i x h = if-false _ _ _ (ne_eqb x 0 h)

pub builds-over : (more : Bool) (builds : ℕ) → more ≡ true → builds_line more builds ≡ ascii "BUILDS OVER 18446744073709551615\n"
unfolding builds_line
builds-over more builds h = if-true _ _ _ h

pub builds-told : (more : Bool) (builds : ℕ) → more ≡ false → builds_line more builds ≡ (ascii "BUILDS " ++ decimal builds) ++ ascii "\n"
unfolding builds_line
builds-told more builds h = if-false _ _ _ h

-- The values of a full list that are not used.
pub idle-is : (size used : ℕ) {wide full r : ℕ} → wide ≡ size → full ≡ word width (λ (v : ℕ). ltb v wide)
    → r ≡ word width (λ (v : ℕ). and (has full v) (not (has used v))) → r ≡ idle_word size used
unfolding idle_word
idle-is size used w f e =
    e
    ∙ word-cong width _ _ (λ v l. ap (λ (b : Bool). and b (not (has used v))) (has-ruled width _ f v l ∙ ap (ltb v) w))

-- The steps are the leaders that are not 0.
one-step : (b : Bool) → cond (none b) 1 0 ≡ bit (not b)
unfolding bit not
one-step true = refl
one-step false = refl

steps-filtered : (leaders : List ℕ) (n : ℕ) → n ≤ length leaders → length (filter (λ l. none (eqb l 0)) (take n leaders)) ≡ steps_of leaders n
unfolding steps_of count sum
steps-filtered leaders zero h = refl
steps-filtered leaders (suc n) h =
    let e : length (filter (λ l. none (eqb l 0)) (take (suc n) leaders)) ≡ length (filter (λ l. none (eqb l 0)) (take n leaders)) + cond (none (eqb (get_or leaders n 0) 0)) 1 0
    = rw add-one at (length-filter_more (λ l. none (eqb l 0)) leaders n 0 (omega arith)) in
    omega (arith, e, steps-filtered leaders n (omega arith), one-step (eqb (get_or leaders n 0) 0))

pub steps-told : (leaders : List ℕ) (n : ℕ) → n ≤ length leaders → count_by (λ l. none (eqb l 0)) (take n leaders) ≡ steps_of leaders n
steps-told leaders n h = sym (length-filter _ (take n leaders)) ∙ steps-filtered leaders n h
