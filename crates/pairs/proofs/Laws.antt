-- Laws of what an array of rows allows, for any number w of values. Callers use these and no place of a row.
use mathlib.Core.Bool.{Bool, true, false}
use mathlib.Core.List.{List}
use mathlib.Core.Path.{◌≡◌, refl, sym, ◌∙◌}
use Prim.Native.Nat.{ℕ, ◌+◌, ◌*◌, ◌/◌, ◌%◌, ◌^◌, ◌≤◌, ◌<◌}
use native.Mathlib.Omega.{arith}
use lib.Dec.{ltb}
use lib.ListN.{length, get_or}
use borrow.Author.Tests.{ltb-true, ltb-false, lt-ltb, le-ltb}
use Rattle.bounded.specs.Array.{Array}
use Rattle.bounded.proofs.Bool.{by_cases, clash, bool-ext, and_l, and_r, and_i, and-holds, and-cong, if-true, if-false, not-true→false}
use Rattle.bounded.proofs.Array.{table-array}
use Rattle.bounded.proofs.Table.{get_d_tabulate, is-table}
use Rattle.words.specs.Word.{has, word}
use Rattle.words.proofs.Laws.{has_word, word_lt, is_word}
use Rattle.pairs.specs.Pairs.{slot, row_at, inside, allows_of, upper_of, lower_of, rows_of}
use Rattle.pairs.specs.Frames.{Words}
use Rattle.pairs.proofs.Places.{placed, row-slot, row-value, row_lt, every-place}

-- ---- within the array

pub record Inside (w i j a b : ℕ) : Type 0 where
  pub first_in : i < 16
  pub second_in : j < 16
  pub value_in : a < w
  pub other_in : b < w

inside-i : {w i j a b : ℕ} → Inside w i j a b → inside w i j a b ≡ true
unfolding inside
inside-i {w} {i} {j} {a} {b} h =
    and_i _ _ (and_i _ _ (lt-ltb i 16 h.first_in) (lt-ltb j 16 h.second_in)) (and_i _ _ (lt-ltb a w h.value_in) (lt-ltb b w h.other_in))

inside-e : (w i j a b : ℕ) → inside w i j a b ≡ true → Inside w i j a b
unfolding inside
inside-e w i j a b t =
    let l = and_l _ _ t in
    let r = and_r _ _ t in
    record {
      first_in = ltb-true i 16 (and_l _ _ l);
      second_in = ltb-true j 16 (and_r _ _ l);
      value_in = ltb-true a w (and_l _ _ r);
      other_in = ltb-true b w (and_r _ _ r);
    }

module _ (w : ℕ) (rows : List ℕ) (i j a b : ℕ) where
  -- From the lower variable a row says it,
  pub allows-up : i < j → j < 16 → a < w → b < w → allows_of w rows i j a b ≡ has (row_at w rows i j a) b
  unfolding allows_of
  allows-up l m h k =
      and-holds (inside w i j a b) _ (inside-i (record { first_in = omega arith; second_in = m; value_in = h; other_in = k }))
      ∙ if-true (ltb i j) _ _ (lt-ltb i j l)

  -- and from the higher one the row of the other value does.
  pub allows-down : j < i → i < 16 → a < w → b < w → allows_of w rows i j a b ≡ has (row_at w rows j i b) a
  unfolding allows_of
  allows-down l m h k =
      and-holds (inside w i j a b) _ (inside-i (record { first_in = m; second_in = omega arith; value_in = h; other_in = k }))
      ∙ if-false (ltb i j) _ _ (le-ltb i j (omega arith))
      ∙ and-holds (ltb j i) _ (lt-ltb j i l)

  -- What is allowed is within the array,
  pub allows-inside : allows_of w rows i j a b ≡ true → Inside w i j a b
  unfolding allows_of
  allows-inside t = inside-e w i j a b (and_l _ _ t)

  -- and of two variables that differ.
  pub allows_apart : allows_of w rows i j a b ≡ true → i ≡ j → ⊥
  unfolding allows_of
  allows_apart t e =
      by_cases (ltb i j)
      (λ u. let l = ltb-true i j u in let z : ⊥ = omega arith in z)
      (λ u. let v = ltb-true j i (and_l (ltb j i) _ (sym (if-false (ltb i j) _ _ u) ∙ and_r _ _ t)) in let z : ⊥ = omega arith in z)

  pub allows-not : (Inside w i j a b → ⊥) → allows_of w rows i j a b ≡ false
  allows-not h = not-true→false _ (λ t. h (allows-inside t))

pub allows-self : (w : ℕ) (rows : List ℕ) (i a b : ℕ) → allows_of w rows i i a b ≡ false
allows-self w rows i a b = not-true→false _ (λ t. allows_apart w rows i i a b t refl)

-- Two arrays that agree on the row which says it allow the same.
pub allows-same : (w : ℕ) (before after : List ℕ) (x y a b : ℕ)
    → (x < y → y < 16 → a < w → b < w → has (row_at w after x y a) b ≡ has (row_at w before x y a) b)
    → (y < x → x < 16 → a < w → b < w → has (row_at w after y x b) a ≡ has (row_at w before y x b) a)
    → allows_of w after x y a b ≡ allows_of w before x y a b
unfolding allows_of
allows-same w before after x y a b up down =
    and-cong (inside w x y a b) _ _ (λ t.
    let n = inside-e w x y a b t in
    by_cases (ltb x y)
    (λ u. if-true (ltb x y) _ _ u ∙ up (ltb-true x y u) n.second_in n.value_in n.other_in ∙ sym (if-true (ltb x y) _ _ u))
    (λ u. if-false (ltb x y) _ _ u
    ∙ and-cong (ltb y x) _ _ (λ v. down (ltb-true y x v) n.first_in n.value_in n.other_in)
    ∙ sym (if-false (ltb x y) _ _ u)))

-- Not lower and not the same: higher.
pub higher : {i j : ℕ} → j ≤ i → (i ≡ j → ⊥) → j < i
higher h d = omega arith

alike : (w : ℕ) (rows : List ℕ) (i j a b : ℕ) → allows_of w rows i j a b ≡ true → allows_of w rows j i b a ≡ true
alike w rows i j a b t =
    let n = allows-inside w rows i j a b t in
    by_cases (ltb i j)
    (λ u. let l = ltb-true i j u in
    allows-down w rows j i b a l n.second_in n.other_in n.value_in
    ∙ sym (allows-up w rows i j a b l n.second_in n.value_in n.other_in) ∙ t)
    (λ u. let k : j < i = let d = allows_apart w rows i j a b t in let g = ltb-false i j u in higher g d in
    allows-up w rows j i b a k n.first_in n.other_in n.value_in
    ∙ sym (allows-down w rows i j a b k n.first_in n.value_in n.other_in) ∙ t)

-- "a pair seen from its two options says the same": by construction.
pub allows-alike : (w : ℕ) (rows : List ℕ) (i j a b : ℕ) → allows_of w rows i j a b ≡ allows_of w rows j i b a
allows-alike w rows i j a b = bool-ext _ _ (alike w rows i j a b) (alike w rows j i b a)

row_has : (w : ℕ) (rows : List ℕ) (i j a b : ℕ) → i < j → j < 16 → a < w → b < w → has (get_or rows (slot i j * w + a) 0) b ≡ allows_of w rows i j a b
unfolding row_at
row_has w rows i j a b l m h k = sym (allows-up w rows i j a b l m h k)

-- ---- an array and the rule that it holds

-- A row of the array of a rule is what the rule says.
pub row-of-rule : (w : ℕ) (p : ℕ → ℕ → ℕ → ℕ → Bool) (i j a : ℕ) → i < j → j < 16 → a < w → row_at w (rows_of w p) i j a ≡ word w (p i j a)
unfolding row_at rows_of
row-of-rule w p i j a l m k =
    let q = placed i j l m in
    get_d_tabulate (120 * w) _ (slot i j * w + a) 0 (row_lt w (slot i j) a q.slot_lt k)
    ∙ rw (row-slot w (slot i j) a k, row-value w (slot i j) a k, q.upper_is, q.lower_is)

-- What an array may allow: nothing past 16 variables or w values, nothing of a variable with itself, and the same from both sides.
pub record Pairwise (w : ℕ) (p : ℕ → ℕ → ℕ → ℕ → Bool) : Type 0 where
  pub within : (i j a b : ℕ) → p i j a b ≡ true → Inside w i j a b
  pub no_self : (i a b : ℕ) → p i i a b ≡ false
  pub sides : (i j a b : ℕ) → p i j a b ≡ p j i b a

module _ (w : ℕ) (p : ℕ → ℕ → ℕ → ℕ → Bool) where
  -- The array of a rule allows what the rule allows,
  rule-up : (i j a b : ℕ) → i < j → j < 16 → a < w → b < w → allows_of w (rows_of w p) i j a b ≡ p i j a b
  rule-up i j a b l m h k = allows-up w (rows_of w p) i j a b l m h k ∙ rw (row-of-rule w p i j a l m h) (has_word w (p i j a) b k)

  inside-rule : Pairwise w p → (i j a b : ℕ) → Inside w i j a b → allows_of w (rows_of w p) i j a b ≡ p i j a b
  inside-rule h i j a b n =
      by_cases (ltb i j)
      (λ u. rule-up i j a b (ltb-true i j u) n.second_in n.value_in n.other_in)
      (λ u. by_cases (ltb j i)
      (λ v. allows-alike w (rows_of w p) i j a b ∙ rule-up j i b a (ltb-true j i v) n.first_in n.other_in n.value_in ∙ h.sides j i b a)
      (λ v. let e : i ≡ j = omega (arith, ltb-false i j u, ltb-false j i v) in rw e (allows-self w (rows_of w p) j a b ∙ sym (h.no_self j a b))))

  pub allows-rule : Pairwise w p → (i j a b : ℕ) → allows_of w (rows_of w p) i j a b ≡ p i j a b
  allows-rule h i j a b =
      by_cases (inside w i j a b)
      (λ t. inside-rule h i j a b (inside-e w i j a b t))
      (λ t. let out : Inside w i j a b → ⊥ = λ n. clash (inside-i n) t in
      allows-not w (rows_of w p) i j a b out ∙ sym (not-true→false _ (λ u. out (h.within i j a b u))))

  -- and an array of words of w bits that allows it is that array.
  pub rows-rule : (rows : List ℕ) → length rows ≡ 120 * w → Words w rows
      → ((i j a b : ℕ) → i < j → j < 16 → a < w → b < w → allows_of w rows i j a b ≡ p i j a b)
      → rows ≡ rows_of w p
  unfolding rows_of
  rows-rule rows e f allowed =
      is-table (120 * w) _ rows 0 e
      (every-place w (λ (k : ℕ). get_or rows k 0 ≡ word w (p (lower_of (k / w)) (upper_of (k / w)) (k % w)))
      (λ i j a l m h. let q = placed i j l m in
      rw (row-slot w (slot i j) a h, row-value w (slot i j) a h, q.upper_is, q.lower_is)
      (is_word w _ _ (f (slot i j * w + a)) (λ b k. row_has w rows i j a b l m h k ∙ allowed i j a b l m h k))))

-- So an array of such words is the array of the rule that it holds.
pub rows-allows : (w : ℕ) (rows : List ℕ) → length rows ≡ 120 * w → Words w rows → rows_of w (allows_of w rows) ≡ rows
rows-allows w rows e f = sym (rows-rule w (allows_of w rows) rows e f (λ i j a b l m h k. refl))

pub rows-array : (w : ℕ) (p : ℕ → ℕ → ℕ → ℕ → Bool) → Array (120 * w) (2 ^ w) (rows_of w p)
unfolding rows_of
rows-array w p = table-array (120 * w) (2 ^ w) _ (omega (arith, word_lt w (p 0 0 0))) (λ k l. word_lt w _)
