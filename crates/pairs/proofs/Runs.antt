-- Laws of runs of rows, and of `row` and `partners` over them, for any number w of values.
use mathlib.Core.Bool.{Bool, true, false, not}
use mathlib.Core.List.{List}
use mathlib.Core.Path.{◌≡◌, refl, sym, ap, ◌∙◌}
use Prim.Native.Nat.{ℕ, suc, ◌+◌, ◌*◌, ◌/◌, ◌%◌, ◌^◌, ◌≤◌, ◌<◌}
use native.Mathlib.Nat.{mod-eq_of_lt, mul-le-mul_right, one-mul, zero-mul}
use native.Mathlib.Numerals.{add-one}
use native.Mathlib.Omega.{arith}
use lib.Bits.{bit_and, bit_or, or_shifted_r, and_le_l, and_mask}
use lib.Dec.{eqb, leb}
use lib.ListN.{get_or}
use lib.Pow.{pow_pos, pow_mono, pow-lt}
use mir.Val.{bool_byte}
use borrow.Author.Tests.{eqb-true, eqb-false, eq-eqb}
use Rattle.bounded.specs.Bool.{and, or, bit, if}
use Rattle.bounded.specs.Bool as b
use Rattle.bounded.specs.Fold.{some, count, first}
use Rattle.bounded.proofs.Bool.{by_cases, bit_le, bool-ext, and_l, and_r, and_i, and_comm, and-false, and-fails, true-and, and-true, or_l, or_r, or_elim, not-i, not-e, not-false-i, not-true→false, clash, implies-i, implies-e}
use Rattle.bounded.proofs.Fold.{below_suc, every-i, every-e, some-i, some-e, some-cong, some-none, first_some, first_passes, count-without, count-cong}
use Rattle.words.specs.Word.{has, word}
use Rattle.words.proofs.Laws.{has-digit, has_one, empty, has_word, has-ruled, has-zero, nonempty, word_lt, word-suc, is_word, has-and, has-below, word-cong}
use Rattle.pairs.specs.Pairs.{slot, row_at, allows_of, partners_of, partners_at, partners_within, hits_at, union_at, join_of}
use Rattle.pairs.proofs.Laws.{allows-up, allows-down}

choose : (t r x : Bool) → or (and r (b.not t)) (and t x) ≡ if t x r
unfolding and or b.not if
choose true true x = refl
choose true false x = refl
choose false true x = refl
choose false false x = refl

-- ---- hits

some-member : (w x : ℕ) → x < 2 ^ w → not (eqb x 0) ≡ some w (has x)
some-member w x h =
    by_cases (eqb x 0)
    (λ t. rw (t, eqb-true x 0 t) (sym (some-none w (has 0) (λ v l. has-zero v))))
    (λ t. rw t (sym (nonempty w x h (eqb-false x 0 t))))

-- `x & y != 0` says that the words have a common member.
pub meets-is : (w x y : ℕ) → x < 2 ^ w → not (eqb (bit_and x y) 0) ≡ some w (λ (v : ℕ). and (has x v) (has y v))
meets-is w x y h = some-member w (bit_and x y) (omega (arith, and_le_l x y)) ∙ some-cong w _ _ (λ v l. has-and x y v)

pub byte-bit : (t : Bool) → bool_byte t ≡ bit t
unfolding bit
byte-bit true = refl
byte-bit false = refl

moved-kept : (m b : ℕ) (t : Bool) → 2 ^ suc b ≤ m → bit t * 2 ^ b % m ≡ bit t * 2 ^ b
moved-kept m b t l = mod-eq_of_lt (omega (arith, mul-le-mul_right (2 ^ b) (bit_le t), pow_pos b))

-- One more bit of a word.
pub bit-joins : (m : ℕ) (p : ℕ → Bool) {r : ℕ} (n : ℕ) {t : Bool} → 2 ^ suc n ≤ m → r ≡ word n p → t ≡ p n
    → bit_or r (bool_byte t * 2 ^ n % m) ≡ word (n + 1) p
bit-joins m p n l e h =
    rw (e, h, byte-bit (p n), moved-kept m n (p n) l, add-one n) (or_shifted_r (bit (p n)) n (word n p) (word_lt n p) ∙ sym (word-suc n p))

-- ---- union

and-not-false : (a : Bool) → and a (b.not false) ≡ a
unfolding b.not
and-not-false a = and-true a

-- What the rows of the values that are in the set and not in the rest have together.
unfoldable pub union_but : ℕ → List ℕ → ℕ → ℕ → ℕ → ℕ
union_but w rows at set rest =
    word w (λ (v : ℕ). some w (λ (a : ℕ). and (and (has set a) (b.not (has rest a))) (has (get_or rows (at + a) 0) v)))

abbrev pub Within : ℕ → ℕ → Type 0
Within rest set = (u : ℕ) → has rest u ≡ true → has set u ≡ true

-- Nothing is left out at first,
pub union-none : (w : ℕ) (rows : List ℕ) (at set : ℕ) → 0 ≡ union_but w rows at set set
unfolding union_but
union-none w rows at set =
    sym (empty w _ (word_lt w _) (λ v k. has_word w _ v k
    ∙ some-none w _ (λ a l. not-true→false _ (λ t. let q = and_l _ _ t in clash (and_l _ _ q) (not-e _ (and_r _ _ q))))))

-- and all is there in the end.
pub union-all : (w : ℕ) (rows : List ℕ) (at set : ℕ) {rest r : ℕ} → rest ≡ 0 → r ≡ union_but w rows at set rest → r ≡ union_at w rows at set
unfolding union_but union_at
union-all w rows at set z e =
    e ∙ word-cong w _ _ (λ v k. some-cong w _ _ (λ a l.
    ap (λ (t : Bool). and t (has (get_or rows (at + a) 0) v)) (rw (z, has-zero a) (and-not-false (has set a)))))

-- The lowest member of a word other than 0.
pub lowest-in : (w x a : ℕ) → x < 2 ^ w → (x ≡ 0 → ⊥) → a ≡ first w (has x) → (a < w) × (has x a ≡ true)
lowest-in w x a h n e =
    let l = first_some w (has x) (nonempty w x h n) in
    rw e (l, first_passes w (has x) l)

-- A word from which its lowest member a was dropped.
module _ (w : ℕ) {rest rest' a : ℕ} (f : rest < 2 ^ w) (n : rest ≡ 0 → ⊥) (low : a ≡ first w (has rest))
    (re : rest' ≡ word w (λ (u : ℕ). and (has rest u) (b.not (eqb u (first w (has rest)))))) where
  pub rest-is : (u : ℕ) → u < w → has rest' u ≡ and (has rest u) (b.not (eqb u a))
  rest-is u k = has-ruled w _ re u k ∙ ap (λ (n : ℕ). and (has rest u) (b.not (eqb u n))) (sym low)

  pub rest_lt : rest' < 2 ^ w
  rest_lt = rw re (word_lt w _)

  pub rest-within : (set : ℕ) → Within rest set → Within rest' set
  rest-within set sub u t = sub u (and_l _ _ (sym (rest-is u (has-below w rest' u t rest_lt)) ∙ t))

  -- There is one member less.
  pub rest-less : count w (has rest') < count w (has rest)
  rest-less =
      let i = lowest-in w rest a f n low in
      omega (arith, count-without w (has rest) a i.0 i.1, count-cong w (has rest') (λ (u : ℕ). and (has rest u) (b.not (eqb u a))) rest-is)

-- A turn moves the row of one value from the rest to the union.
module _ (w : ℕ) (rows : List ℕ) (at set : ℕ) {rest rest' all all' a : ℕ} (f : rest < 2 ^ w) (n : rest ≡ 0 → ⊥) (low : a ≡ first w (has rest))
    (re : rest' ≡ word w (λ (u : ℕ). and (has rest u) (b.not (eqb u (first w (has rest))))))
    (sub : Within rest set)
    (ae : all ≡ union_but w rows at set rest)
    (ae' : all' ≡ word w (λ (u : ℕ). or (has all u) (has (get_or rows (at + a) 0) u))) where
  all_is : (v : ℕ) → v < w → has all v ≡ some w (λ (u : ℕ). and (and (has set u) (b.not (has rest u))) (has (get_or rows (at + u) 0) v))
  unfolding union_but
  all_is v k = has-ruled w _ ae v k

  pub union-step : all' ≡ union_but w rows at set rest'
  unfolding union_but
  union-step =
      let i = lowest-in w rest a f n low in
      let is = rest-is w f n low re in
      ae' ∙ word-cong w _ _ (λ v k. bool-ext _ _
      (λ t. or_elim _ _ t
      (λ p. some-e w _ (sym (all_is v k) ∙ p) (λ u h q.
      let s = and_l _ _ q in
      some-i w _ u h (and_i _ _ (and_i _ _ (and_l _ _ s) (not-i _ (is u h ∙ and-fails _ _ (not-e _ (and_r _ _ s))))) (and_r _ _ q))))
      (λ p. some-i w _ a i.0 (and_i _ _ (and_i _ _ (sub a i.1) (not-i _ (is a i.0 ∙ rw (i.1, eq-eqb a a refl) (true-and (b.not true) ∙ not-false-i true refl)))) p)))
      (λ t. some-e w _ t (λ u h q.
      let s = and_l _ _ q in
      by_cases (eqb u a)
      (λ y. or_r _ _ (let e : has (get_or rows (at + u) 0) v ≡ true = and_r _ _ q in rw (eqb-true u a y) at e))
      (λ y. or_l _ _ (all_is v k ∙ some-i w _ u h (and_i _ _ (and_i _ _ (and_l _ _ s)
      (not-i _ (not-true→false _ (λ z. clash (is u h ∙ and_i _ _ z (not-i _ y)) (not-e _ (and_r _ _ s)))))) (and_r _ _ q)))))))

-- ---- a run joined

pub join-none : (w : ℕ) (rows : List ℕ) (at : ℕ) → 0 ≡ join_of w rows at 0
unfolding join_of some
join-none w rows at = sym (empty w _ (word_lt w _) (λ v k. has_word w _ v k))

pub join_more : (w : ℕ) (rows : List ℕ) (at n all all' : ℕ) → all ≡ join_of w rows at n
    → all' ≡ word w (λ (u : ℕ). or (has all u) (has (get_or rows (at + n) 0) u)) → all' ≡ join_of w rows at (suc n)
unfolding join_of
join_more w rows at n all all' e e' =
    e' ∙ word-cong w _ _ (λ v k. bool-ext _ _
    (λ t. or_elim _ _ t
    (λ p. some-e n _ (sym (has-ruled w _ e v k) ∙ p) (λ u h q. some-i (suc n) _ u (omega arith) q))
    (λ p. some-i (suc n) _ n (omega arith) p))
    (λ t. some-e (suc n) _ t (λ u h q. below_suc n u h
    (λ y. or_r _ _ (let r : has (get_or rows (at + u) 0) v ≡ true = q in rw y at r))
    (λ l. or_l _ _ (has-ruled w _ e v k ∙ some-i n _ u l q)))))

-- A run has together what some row of it has.
pub join-has : (w : ℕ) (rows : List ℕ) (at n v : ℕ) → v < w → has (join_of w rows at n) v ≡ some n (λ (k : ℕ). has (get_or rows (at + k) 0) v)
unfolding join_of
join-has w rows at n v l = has_word w _ v l

-- ---- a bit of a row

-- A bit moved to the place of a is the word of a, where it is set.
pub moved-is : (w x b : ℕ) {a m : ℕ} → a < w → 2 ^ w ≤ m → bit_and (x / 2 ^ b) 1 * 2 ^ a % m ≡ word w (λ (v : ℕ). and (eqb v a) (has x b))
unfolding bit
moved-is w x b {a} {m} l h =
    let e : bit_and (x / 2 ^ b) 1 ≡ bit (has x b) = and_mask (x / 2 ^ b) 1 ∙ sym (has-digit x b) in
    rw e (moved-kept m a (has x b) (omega (arith, pow_mono {j = w} l))
    ∙ by_cases (has x b)
    (λ t. rw t (one-mul (2 ^ a) ∙ is_word w (2 ^ a) _ (pow-lt l) (λ v k. has_one a v ∙ sym (and-true (eqb v a)))))
    (λ t. rw t (zero-mul (2 ^ a) ∙ sym (empty w _ (word_lt w _) (λ v k. has_word w _ v k ∙ and-false (eqb v a))))))

pub marked-is : (w row a : ℕ) (t : Bool) {one kept put r : ℕ} → one ≡ word w (λ (u : ℕ). eqb u a)
    → kept ≡ word w (λ (u : ℕ). and (has row u) (b.not (has one u)))
    → put ≡ word w (λ (u : ℕ). and (eqb u a) t)
    → r ≡ word w (λ (u : ℕ). or (has kept u) (has put u))
    → r ≡ word w (λ (v : ℕ). if (eqb v a) t (has row v))
marked-is w row a t {one} {kept} {put} oe ke pe re =
    re ∙ word-cong w _ _ (λ v k.
    let o : has one v ≡ eqb v a = has-ruled w _ oe v k in
    let p : has put v ≡ and (eqb v a) t = has-ruled w _ pe v k in
    let q : has kept v ≡ and (has row v) (b.not (has one v)) = has-ruled w _ ke v k in
    rw (p, q, o) (choose (eqb v a) (has row v) t))

-- ---- both sides of a pair

pub row_up : (w : ℕ) (rows : List ℕ) (i j a x : ℕ) → i < j → j < 16 → a < w → x < 2 ^ w → x ≡ get_or rows (slot i j * w + a) 0
    → x ≡ word w (allows_of w rows i j a)
unfolding row_at
row_up w rows i j a x l m h f e = is_word w x _ f (λ b k. ap (λ (n : ℕ). has n b) e ∙ sym (allows-up w rows i j a b l m h k))

partners-same : (w : ℕ) (rows : List ℕ) (i j set : ℕ) (q : ℕ → ℕ → Bool)
    → ((a b : ℕ) → a < w → b < w → q a b ≡ allows_of w rows i j a b)
    → word w (λ (b : ℕ). some w (λ (a : ℕ). and (has set a) (q a b))) ≡ partners_of w rows i j set
unfolding partners_of
partners-same w rows i j set q h = word-cong w _ _ (λ b k. some-cong w _ _ (λ a l. ap (and (has set a)) (h a b l k)))

pub partners-up : (w : ℕ) (rows : List ℕ) {i j : ℕ} (set : ℕ) {at r : ℕ} → i < j → j < 16 → at ≡ slot i j * w → r ≡ union_at w rows at set
    → r ≡ partners_of w rows i j set
unfolding union_at row_at
partners-up w rows {i} {j} set {at} l m e h =
    rw e at h ∙ partners-same w rows i j set (λ (a b : ℕ). has (get_or rows (slot i j * w + a) 0) b) (λ a b p q. sym (allows-up w rows i j a b l m p q))

pub partners-down : (w : ℕ) (rows : List ℕ) {i j : ℕ} (set : ℕ) {at r : ℕ} → j < i → i < 16 → at ≡ slot j i * w → r ≡ hits_at w rows at set
    → r ≡ partners_of w rows i j set
unfolding hits_at row_at
partners-down w rows {i} {j} set {at} l m e h =
    rw e at h ∙ word-cong w _ _ (λ b k. some-cong w _ _ (λ a p. and_comm _ _))
    ∙ partners-same w rows i j set (λ (a b : ℕ). has (get_or rows (slot j i * w + b) 0) a) (λ a b p q. sym (allows-down w rows i j a b l m p q))

-- The partners of one value are its row.
pub partners-one : (w : ℕ) (rows : List ℕ) (i j : ℕ) {a set r : ℕ} → a < w → set ≡ word w (λ (u : ℕ). eqb u a) → r ≡ partners_of w rows i j set
    → r ≡ word w (allows_of w rows i j a)
unfolding partners_of
partners-one w rows i j {a} {set} l e h =
    h ∙ word-cong w _ _ (λ b k. bool-ext _ _
    (λ t. some-e w _ t (λ u m q.
    let s : has set u ≡ true = and_l _ _ q in
    let y : eqb u a ≡ true = sym (has-ruled w _ e u m) ∙ s in
    let z : allows_of w rows i j u b ≡ true = and_r _ _ q in
    rw (eqb-true u a y) at z))
    (λ t. some-i w _ a l (and_i _ _ (has-ruled w _ e a l ∙ eq-eqb a a refl) t)))

-- ---- partners within bounds

-- What decides one value: the ones of row AND domain.
pub partners-count : (w dj : ℕ) (p : ℕ → Bool) {row x c : ℕ} → row ≡ word w p → x ≡ word w (λ (u : ℕ). and (has dj u) (has row u)) → c ≡ count w (has x)
    → c ≡ count w (λ (b : ℕ). and (has dj b) (p b))
partners-count w dj p re xe ce =
    ce ∙ count-cong w _ _ (λ b k. has-ruled w _ xe b k ∙ ap (and (has dj b)) (has-ruled w p re b k))

-- The values that are no longer in the rest have been found within the bounds.
pub record Passed (w : ℕ) (rows : List ℕ) (i j di dj least most rest : ℕ) : Type 0 where
  pub rest_fits : rest < 2 ^ w
  pub rest_in : Within rest di
  pub passed : (a : ℕ) → a < w → has di a ≡ true → has rest a ≡ false
      → and (leb least (partners_at w rows i j dj a)) (leb (partners_at w rows i j dj a) most) ≡ true

module _ {w : ℕ} {rows : List ℕ} {i j di dj least most : ℕ} where
  pub passed_none : di < 2 ^ w → Passed w rows i j di dj least most di
  passed_none f = record { rest_fits = f; rest_in = λ u t. t; passed = λ a l t z. clash t z }

  pub passed-all : {rest : ℕ} → Passed w rows i j di dj least most rest → rest ≡ 0 → partners_within w rows i j di dj least most ≡ true
  unfolding partners_within
  passed-all p z = every-i w _ (λ a l. implies-i _ _ (λ t. p.passed a l t (rw z (has-zero a))))

  module _ {rest a c : ℕ} (p : Passed w rows i j di dj least most rest) (n : rest ≡ 0 → ⊥) (low : a ≡ first w (has rest))
      (ce : c ≡ partners_at w rows i j dj a) where
    -- A value outside the bounds decides,
    pub passed-not : and (leb least c) (leb c most) ≡ false → partners_within w rows i j di dj least most ≡ false
    unfolding partners_within
    passed-not f =
        let i = lowest-in w rest a p.rest_fits n low in
        not-true→false _ (λ t. clash (implies-e _ _ (every-e w _ t a i.0) (p.rest_in a i.1)) (rw ce at f))

    -- and one within them leaves the rest.
    pub passed-more : {rest' : ℕ} → and (leb least c) (leb c most) ≡ true
        → rest' ≡ word w (λ (u : ℕ). and (has rest u) (b.not (eqb u (first w (has rest)))))
        → Passed w rows i j di dj least most rest'
    passed-more {rest'} t re =
        record {
          rest_fits = rest_lt w p.rest_fits n low re;
          rest_in = rest-within w p.rest_fits n low re di p.rest_in;
          passed =
              λ v l d z.
              by_cases (eqb v a)
              (λ y. rw (eqb-true v a y, ← ce) t)
              (λ y. p.passed v l d (not-true→false _ (λ r. clash (rest-is w p.rest_fits n low re v l ∙ and_i _ _ r (not-i _ y)) z)));
        }
