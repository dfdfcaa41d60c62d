-- Laws of words as sets of values, for any width: a word of w bits is below 2 ^ w.
-- All rest on `has-digit`, `word-zero` and `word-suc`, which alone look into the definitions.
use mathlib.Core.Bool.{Bool, true, false}
use mathlib.Core.Bool as machine
use mathlib.Core.Path.{◌≡◌, refl, sym, ap, ap₂, ◌∙◌}
use Prim.Native.Nat.{ℕ, zero, suc, ◌+◌, ◌-◌, ◌*◌, ◌/◌, ◌%◌, ◌^◌, ◌≤◌, ◌<◌, min, max}
use native.Mathlib.Nat.{mod-one, div-one, mod-lt, mod-eq_of_lt, div-eq_of_lt, sub-add_cancel, pow-suc, mul-le-mul_right, add-mul-div_right, add-mul-mod_self_right, mul-add-mod_self_right}
use native.Mathlib.Numerals.{one-add}
use native.Mathlib.Omega.{arith}
use lib.Bits.{bit_and, bit_or, and_step, or_step, and_shr, or_shr, and_le_l}
use lib.Count.{ones, ones_cat, count_trailing_zeros, under}
use lib.Dec.{eqb, leb, ltb}
use lib.Pow.{pow_pos, pow_mono, pow-add, high, mod-pow-add, shr-shr}
use borrow.Author.Tests.{ltb-true, ltb-false, lt-ltb, le-ltb, le-leb, lt-leb, eq-eqb, eqb-true, eqb-false, ne_eqb}
use Rattle.bounded.specs.Bool.{and, or, implies, not, bit, if}
use Rattle.bounded.specs.Fold.{every, some, sum, count, first}
use Rattle.bounded.proofs.Bool.{by_cases, clash, bool-ext, not-true→false, implies-i, implies-e, false-and, bit_le, bit-true, bit-false}
use Rattle.bounded.proofs.Fold.{below_suc, every-i, every-e, some-e, some-none, none_of, count-cong, count_none, count-pos, count-two, count-unique, count-without, first_some, first_passes, first_cong}
use Rattle.words.specs.Word.{has, word}

-- ---- the definitions

two_pos : zero < 2
two_pos = omega arith

bit-of-digit : (d : ℕ) → d < 2 → bit (eqb d 1) ≡ d
unfolding bit
bit-of-digit zero h = refl
bit-of-digit (suc zero) h = refl
bit-of-digit (suc (suc d)) h = absurd (let x : ⊥ = omega arith in x)

-- The bit of x at v is 1 where v is a member, and 0 where it is none.
pub has-digit : (x v : ℕ) → bit (has x v) ≡ x / 2 ^ v % 2
unfolding has
has-digit x v = search (bit-of-digit, mod-lt, two_pos)

-- No bits: the word is 0.
pub word-zero : (p : ℕ → Bool) → word 0 p ≡ 0
unfolding word sum
word-zero p = omega arith

-- One more value: the word gains the bit of its weight.
pub word-suc : (w : ℕ) (p : ℕ → Bool) → word (suc w) p ≡ bit (p w) * 2 ^ w + word w p
unfolding word sum
word-suc w p = omega arith

-- ---- the members of a word

bit_inj : (a b : Bool) → bit a ≡ bit b → a ≡ b
unfolding bit
bit_inj true true e = refl
bit_inj true false e = absurd (let x : ⊥ = omega arith in x)
bit_inj false true e = absurd (let x : ⊥ = omega arith in x)
bit_inj false false e = refl

-- A membership is told by its bit.
pub digit-is : (x v : ℕ) (b : Bool) → x / 2 ^ v % 2 ≡ bit b → has x v ≡ b
digit-is x v b e = bit_inj (has x v) b (has-digit x v ∙ e)

-- A word of w bits is below 2 ^ w.
pub word_lt : (w : ℕ) (p : ℕ → Bool) → word w p < 2 ^ w
word_lt zero p = omega (arith, word-zero p)
word_lt (suc w) p = omega (arith, word-suc w p, mul-le-mul_right (2 ^ w) (bit_le (p w)), word_lt w p)

-- Bits above v do not touch the bit at v.
has-low : (a w r v : ℕ) → v < w → has (a * 2 ^ w + r) v ≡ has r v
has-low a w r v h =
    let e : 2 ^ w ≡ 2 ^ (w - suc v) * (2 ^ v * 2) =
    ap (λ (n : ℕ). 2 ^ n) (sym (sub-add_cancel h)) ∙ pow-add 2 (w - suc v) (suc v) ∙ ap (λ (n : ℕ). 2 ^ (w - suc v) * n) (pow-suc 2 v) in
    let s : a * 2 ^ w + r ≡ r + a * 2 ^ (w - suc v) * 2 * 2 ^ v = omega (arith, ap (λ (n : ℕ). a * n) e) in
    digit-is (a * 2 ^ w + r) v (has r v)
    (rw (s, add-mul-div_right r (a * 2 ^ (w - suc v) * 2) (pow_pos v), add-mul-mod_self_right (r / 2 ^ v) (a * 2 ^ (w - suc v)) 2)
    (sym (has-digit r v)))

bit-mod : (b : Bool) → bit b % 2 ≡ bit b
bit-mod b = mod-eq_of_lt (omega (arith, bit_le b))

-- The members of a word are the values below its width that pass.
pub has_word : (w : ℕ) (p : ℕ → Bool) (v : ℕ) → v < w → has (word w p) v ≡ p v
has_word zero p v h = absurd (let x : ⊥ = omega arith in x)
has_word (suc w) p v h =
    rw (word-suc w p)
    (below_suc w v h
    (λ e. rw e (digit-is _ w (p w) (ap (λ (n : ℕ). n % 2) (high (bit (p w)) w (word_lt w p)) ∙ bit-mod (p w))))
    (λ l. has-low (bit (p w)) w (word w p) v l ∙ has_word w p v l))

-- Members of a word that is given by a rule.
pub has-ruled : (w : ℕ) {x : ℕ} (p : ℕ → Bool) → x ≡ word w p → (v : ℕ) → v < w → has x v ≡ p v
has-ruled w p e v l = ap (λ (n : ℕ). has n v) e ∙ has_word w p v l

-- A number below 2 ^ w has no member at or past w.
pub has-past : (w x v : ℕ) → x < 2 ^ w → w ≤ v → has x v ≡ false
unfolding bit
has-past w x v h l = digit-is x v false (rw (div-eq_of_lt {n = x} {m = 2 ^ v} (omega (arith, pow_mono l))))

-- A word has no member at or past its width.
pub has-word-past : (w : ℕ) (p : ℕ → Bool) (v : ℕ) → w ≤ v → has (word w p) v ≡ false
has-word-past w p v l = has-past w (word w p) v (word_lt w p) l

-- So every member of a number below 2 ^ w is below w.
pub has-below : (w x v : ℕ) → has x v ≡ true → x < 2 ^ w → v < w
has-below w x v m h = by_cases (ltb v w) (λ t. ltb-true v w t) (λ t. clash m (has-past w x v h (ltb-false v w t)))

-- Where the test holds of no value at or past the width, the word has just the values that pass.
pub has_all : (w : ℕ) (p : ℕ → Bool) (v : ℕ) → (w ≤ v → p v ≡ false) → has (word w p) v ≡ p v
has_all w p v h =
    by_cases (ltb v w)
    (λ t. has_word w p v (ltb-true v w t))
    (λ t. has-word-past w p v (ltb-false v w t) ∙ sym (h (ltb-false v w t)))

-- ---- a word from its members

-- Tests that agree below the width make the same word.
pub word-cong : (w : ℕ) (p q : ℕ → Bool) → ((v : ℕ) → v < w → p v ≡ q v) → word w p ≡ word w q
word-cong zero p q h = word-zero p ∙ sym (word-zero q)
word-cong (suc w) p q h =
    rw (word-suc w p, word-suc w q, h w (omega arith), word-cong w p q (λ v l. h v (omega arith)))

-- The members of x below w make what x leaves modulo 2 ^ w.
pub word_mod : (w x : ℕ) → word w (has x) ≡ x % 2 ^ w
word_mod zero x = word-zero (has x) ∙ sym (mod-one x)
word_mod (suc w) x =
    word-suc w (has x)
    ∙ ap₂ (λ (a b : ℕ). a * 2 ^ w + b) (has-digit x w) (word_mod w x)
    ∙ sym (mod-pow-add x 1 w)
    ∙ ap (λ (n : ℕ). x % 2 ^ n) (one-add w)

-- A word is made of its members.
pub word-has : (w x : ℕ) → x < 2 ^ w → word w (has x) ≡ x
word-has w x h = word_mod w x ∙ mod-eq_of_lt h

-- A number whose members are the values that pass is the word of those.
pub is_word : (w x : ℕ) (p : ℕ → Bool) → x < 2 ^ w → ((v : ℕ) → v < w → has x v ≡ p v) → x ≡ word w p
is_word w x p h e = sym (word-has w x h) ∙ word-cong w (has x) p e

-- Words with the same members are equal.
pub same-members : (w x y : ℕ) → x < 2 ^ w → y < 2 ^ w → ((v : ℕ) → v < w → has x v ≡ has y v) → x ≡ y
same-members w x y h k e = is_word w x (has y) h e ∙ word-has w y k

-- More bits change nothing where none of them is set.
pub word-widen : (w u : ℕ) (p : ℕ → Bool) → w ≤ u → ((v : ℕ) → w ≤ v → v < u → p v ≡ false) → word u p ≡ word w p
word-widen w u p l h =
    sym (is_word u (word w p) p (omega (arith, word_lt w p, pow_mono l)) (λ v m. has_all w p v (λ k. h v k m)))

-- A word with no member at or above k is below 2 ^ k.
pub within : (w x k : ℕ) → x < 2 ^ w → ((v : ℕ) → k ≤ v → v < w → has x v ≡ false) → x < 2 ^ k
within w x k h e =
    by_cases (ltb w k)
    (λ t. omega (arith, pow_mono {i = w} {j = k} (omega (arith, ltb-true w k t))))
    (λ t. let m : x ≡ word k (has x) = sym (word-has w x h) ∙ word-widen k w (has x) (ltb-false w k t) e in
    omega (arith, word_lt k (has x)))

-- Being below 2 ^ k and having no member at or above k are one test.
pub within-every : (w x k : ℕ) → x < 2 ^ w → ltb x (2 ^ k) ≡ every w (λ (v : ℕ). implies (has x v) (ltb v k))
within-every w x k h =
    bool-ext _ _
    (λ t. every-i w _ (λ v l. implies-i (has x v) (ltb v k) (λ m. lt-ltb v k (has-below k x v m (ltb-true x (2 ^ k) t)))))
    (λ t. lt-ltb x (2 ^ k) (within w x k h (λ v l m. not-true→false (has x v)
    (λ q. clash (implies-e (has x v) (ltb v k) (every-e w _ t v m) q) (le-ltb v k l)))))

-- ---- the empty word

-- 0 has no member.
pub has-zero : (v : ℕ) → has 0 v ≡ false
has-zero v = has-past 0 0 v (omega arith) (omega arith)

-- A word with no member is 0.
pub empty : (w x : ℕ) → x < 2 ^ w → ((v : ℕ) → v < w → has x v ≡ false) → x ≡ 0
empty w x h e = same-members w x 0 h (pow_pos w) (λ v l. e v l ∙ sym (has-zero v))

-- A word other than 0 has a member.
pub nonempty : (w x : ℕ) → x < 2 ^ w → (x ≡ 0 → ⊥) → some w (has x) ≡ true
nonempty w x h n = by_cases (some w (has x)) (λ t. t) (λ t. absurd (n (empty w x h (none_of w (has x) t))))

-- ---- operations on words

-- An operation that goes bit by bit, by f, goes member by member, by the test g that f computes.
module _ (op f : ℕ → ℕ → ℕ) (g : Bool → Bool → Bool)
    (shr : (x y v : ℕ) → op x y / 2 ^ v ≡ op (x / 2 ^ v) (y / 2 ^ v))
    (step : (x y : ℕ) → op x y ≡ op (x / 2) (y / 2) * 2 + f (x % 2) (y % 2))
    (test : (a b : Bool) → f (bit a) (bit b) % 2 ≡ bit (g a b)) where
  has-op : (x y v : ℕ) → has (op x y) v ≡ g (has x v) (has y v)
  has-op x y v =
      let a = x / 2 ^ v in
      let b = y / 2 ^ v in
      digit-is (op x y) v (g (has x v) (has y v))
      (rw (shr x y v, step a b, mul-add-mod_self_right (op (a / 2) (b / 2)) 2 (f (a % 2) (b % 2)), ← has-digit x v, ← has-digit y v)
      (test (has x v) (has y v)))

min-test : (a b : Bool) → min (bit a) (bit b) % 2 ≡ bit (and a b)
unfolding bit and
min-test true true = refl
min-test true false = refl
min-test false true = refl
min-test false false = refl

max-test : (a b : Bool) → max (bit a) (bit b) % 2 ≡ bit (or a b)
unfolding bit or
max-test true true = refl
max-test true false = refl
max-test false true = refl
max-test false false = refl

-- `&` keeps the members of both words.
pub has-and : (x y v : ℕ) → has (bit_and x y) v ≡ and (has x v) (has y v)
has-and = has-op bit_and min and and_shr and_step min-test

-- `|` has the members of either word.
pub has-or : (x y v : ℕ) → has (bit_or x y) v ≡ or (has x v) (has y v)
has-or = has-op bit_or max or or_shr or_step max-test

bit_not : (t : Bool) → bit (not t) + bit t ≡ 1
unfolding bit not
bit_not true = refl
bit_not false = refl

complement-word : (w : ℕ) (p : ℕ → Bool) → suc (word w (λ (v : ℕ). not (p v)) + word w p) ≡ 2 ^ w
complement-word zero p = rw (word-zero p, word-zero (λ (v : ℕ). not (p v)))
complement-word (suc w) p =
    omega (arith, word-suc w p, word-suc w (λ (v : ℕ). not (p v)), complement-word w p, ap (λ (n : ℕ). n * 2 ^ w) (bit_not (p w)))

-- `!` has the values that a word lacks.
pub has-complement : (w x v : ℕ) → x < 2 ^ w → v < w → has (2 ^ w - 1 - x) v ≡ not (has x v)
has-complement w x v h l =
    let e : 2 ^ w - 1 - x ≡ word w (λ (u : ℕ). not (has x u)) = omega (arith, complement-word w (has x), word-has w x h) in
    rw e (has_word w _ v l)

-- Half of a word has its members, but 0, each one less.
pub has-half : (x v : ℕ) → has (x / 2) v ≡ has x (suc v)
has-half x v =
    digit-is (x / 2) v (has x (suc v))
    (ap (λ (n : ℕ). n % 2) (shr-shr x 1 v ∙ ap (λ (n : ℕ). x / 2 ^ n) (one-add v)) ∙ sym (has-digit x (suc v)))

-- ---- one value, and all values below a bound

one_word : (k : ℕ) → word (suc k) (λ (v : ℕ). eqb v k) ≡ 2 ^ k
one_word k =
    let z : word k (λ (v : ℕ). eqb v k) ≡ 0 = empty k _ (word_lt k _) (λ v l. has_word k _ v l ∙ ne_eqb v k (omega arith)) in
    omega (arith, word-suc k (λ (v : ℕ). eqb v k), ap (λ (n : ℕ). n * 2 ^ k) (bit-true (eqb k k) (eq-eqb k k refl)))

-- A power of two has one member, its exponent.
pub has_one : (k v : ℕ) → has (2 ^ k) v ≡ eqb v k
has_one k v = rw (← one_word k) (has_all (suc k) (λ (u : ℕ). eqb u k) v (λ l. ne_eqb v k (omega arith)))

all-word : (k : ℕ) → word k (λ (v : ℕ). true) + 1 ≡ 2 ^ k
unfolding bit
all-word zero = ap (λ (n : ℕ). n + 1) (word-zero (λ (v : ℕ). true))
all-word (suc k) = omega (arith, word-suc k (λ (v : ℕ). true), all-word k)

-- One less than a power of two has all values below its exponent.
pub has-full : (k v : ℕ) → has (2 ^ k - 1) v ≡ ltb v k
has-full k v =
    let e : word k (λ (u : ℕ). ltb u k) ≡ 2 ^ k - 1 =
    word-cong k _ (λ (u : ℕ). true) (λ u l. lt-ltb u k l) ∙ omega (arith, all-word k) in
    rw (← e) (has_all k (λ (u : ℕ). ltb u k) v (λ l. le-ltb v k l))

-- ---- counts

ones_bit : (b : Bool) → ones (bit b) ≡ bit b
unfolding ones bit
ones_bit true = refl
ones_bit false = refl

-- A word has as many bits set as values pass.
pub ones-word : (w : ℕ) (p : ℕ → Bool) → ones (word w p) ≡ count w p
unfolding count sum ones
ones-word zero p = ap ones (word-zero p)
ones-word (suc w) p =
    ap ones (word-suc w p)
    ∙ ones_cat w (bit (p w)) (word w p) (word_lt w p)
    ∙ ap₂ (λ (a b : ℕ). a + b) (ones_bit (p w)) (ones-word w p)

-- A number has as many bits set as it has members.
pub ones-count : (w x : ℕ) → x < 2 ^ w → ones x ≡ count w (has x)
ones-count w x h = ap ones (sym (word-has w x h)) ∙ ones-word w (has x)

-- With at most one bit set any two members are equal.
pub ones-two : (w x : ℕ) → x < 2 ^ w → ones x ≤ 1 → (u v : ℕ) → has x u ≡ true → has x v ≡ true → u ≡ v
ones-two w x h o u v a b =
    count-two w (has x) (omega (arith, ones-count w x h)) u v (has-below w x u a h) (has-below w x v b h) a b

-- Where any two members are equal at most one bit is set.
pub ones-unique : (w x : ℕ) → x < 2 ^ w → ((u v : ℕ) → u < w → v < w → has x u ≡ true → has x v ≡ true → u ≡ v) → ones x ≤ 1
ones-unique w x h e = omega (arith, ones-count w x h, count-unique w (has x) e)

has-lowest : (x : ℕ) → x % 2 ≡ bit (has x 0)
has-lowest x = ap (λ (n : ℕ). n % 2) (sym (div-one x)) ∙ sym (has-digit x 0)

under-if : (b : Bool) (t : ℕ) → under (bit b) t ≡ if b 0 (suc t)
unfolding bit if
under-if true t = refl
under-if false t = refl

-- The zeros below the lowest set bit lead to the lowest member; the empty word has w of them.
pub trailing-first : (w x : ℕ) → count_trailing_zeros w x ≡ first w (has x)
unfolding count_trailing_zeros first
trailing-first zero x = refl
trailing-first (suc w) x =
    ap₂ under (has-lowest x) (trailing-first w (x / 2) ∙ first_cong w _ _ (λ v l. has-half x v))
    ∙ under-if (has x 0) (first w (λ (v : ℕ). has x (suc v)))

-- ---- without the lowest value

and_self : (b : Bool) → and b b ≡ and b true
unfolding and
and_self true = refl
and_self false = refl

eqb-suc : (u v : ℕ) → eqb (suc u) (suc v) ≡ eqb u v
eqb-suc u v =
    bool-ext _ _
    (λ t. eq-eqb u v (omega (arith, eqb-true (suc u) (suc v) t)))
    (λ t. eq-eqb (suc u) (suc v) (omega (arith, eqb-true u v t)))

drop-odd : (x v : ℕ) → has x 0 ≡ true → and (has x v) (has (x - 1) v) ≡ and (has x v) (not (eqb v 0))
unfolding not bit
drop-odd x zero t =
    let l : x % 2 ≡ 1 = has-lowest x ∙ bit-true (has x 0) t in
    let e : bit (has (x - 1) 0) ≡ 0 = sym (has-lowest (x - 1)) ∙ omega arith in
    ap (and (has x 0)) (bit_inj (has (x - 1) 0) false e)
drop-odd x (suc u) t =
    let l : x % 2 ≡ 1 = has-lowest x ∙ bit-true (has x 0) t in
    let e : (x - 1) / 2 ≡ x / 2 = omega arith in
    rw (← has-half (x - 1) u, e, has-half x u, ne_eqb (suc u) 0 (omega arith)) (and_self (has x (suc u)))

drop-even : (w x v : ℕ) → has x 0 ≡ false → 0 < x → x < 2 ^ suc w
    → ((u : ℕ) → and (has (x / 2) u) (has (x / 2 - 1) u) ≡ and (has (x / 2) u) (not (eqb u (first w (has (x / 2))))))
    → and (has x v) (has (x - 1) v) ≡ and (has x v) (not (eqb v (suc (first w (λ (k : ℕ). has x (suc k))))))
drop-even w x zero f p h again = rw f (false-and (has (x - 1) 0) ∙ sym (false-and (not (eqb 0 (suc (first w (λ (k : ℕ). has x (suc k))))))))
drop-even w x (suc u) f p h again =
    let l : x % 2 ≡ 0 = has-lowest x ∙ bit-false (has x 0) f in
    let e : (x - 1) / 2 ≡ x / 2 - 1 = omega arith in
    let g : first w (has (x / 2)) ≡ first w (λ (k : ℕ). has x (suc k)) = first_cong w _ _ (λ k m. has-half x k) in
    rw (← has-half (x - 1) u, e, ← has-half x u, ← g, eqb-suc) (again u)

-- `x - 1` lacks the lowest member of x and has every higher one.
drop-lowest : (w x v : ℕ) → x < 2 ^ w → 0 < x → and (has x v) (has (x - 1) v) ≡ and (has x v) (not (eqb v (first w (has x))))
unfolding first if
drop-lowest zero x v h p = absurd (let z : ⊥ = omega arith in z)
drop-lowest (suc w) x v h p =
    by_cases (has x 0)
    (λ t. rw t (drop-odd x v t))
    (λ f. rw f (drop-even w x v f p h
    (λ u. let l : x % 2 ≡ 0 = has-lowest x ∙ bit-false (has x 0) f in
    let b : x < 2 * 2 ^ w = omega (arith, pow-suc 2 w) in
    drop-lowest w (x / 2) u (omega arith) (omega arith))))

-- `x & (x - 1)` is x without its lowest member.
pub dropped-is : (w x : ℕ) → x < 2 ^ w → 0 < x → bit_and x (x - 1) ≡ word w (λ (u : ℕ). and (has x u) (not (eqb u (first w (has x)))))
dropped-is w x h p = is_word w (bit_and x (x - 1)) _ (omega (arith, and_le_l x (x - 1))) (λ v l. has-and x (x - 1) v ∙ drop-lowest w x v h p)

-- A word of no members is 0.
pub word_none : (w : ℕ) (p : ℕ → Bool) → ((v : ℕ) → v < w → p v ≡ false) → word w p ≡ 0
word_none w p h = sym (is_word w 0 p (omega (arith, word_lt w p)) λ v l. has-zero v ∙ sym (h v l))

-- ---- two members or more

count-zero : (w : ℕ) → count w (has 0) ≡ 0
count-zero w = count_none w (has 0) (some-none w (has 0) λ v l. has-zero v)

pub crowded-none : (w : ℕ) {x : ℕ} → x ≡ 0 → false ≡ leb 2 (count w (has x))
crowded-none w e = rw (e, count-zero w) refl

-- Without its lowest member a word with a second one is not 0.
pub crowded-dropped : (w x : ℕ) {d : ℕ} → x < 2 ^ w → (x ≡ 0 → ⊥) → d ≡ word w (λ (u : ℕ). and (has x u) (not (eqb u (first w (has x)))))
    → machine.not (eqb d 0) ≡ leb 2 (count w (has x))
crowded-dropped w x {d} h n e =
    let low = first_some w (has x) (nonempty w x h n) in
    let less = count-without w (has x) (first w (has x)) low (first_passes w (has x) low) in
    let same : count w (has d) ≡ count w (λ (u : ℕ). and (has x u) (not (eqb u (first w (has x))))) = count-cong w _ _ (has-ruled w _ e) in
    by_cases (eqb d 0)
    (λ t. let z : count w (has d) ≡ 0 = rw (eqb-true d 0 t) (count-zero w) in rw t (sym (lt-leb 2 (count w (has x)) (omega arith))))
    (λ t. some-e w _ (nonempty w d (rw e (word_lt w _)) (eqb-false d 0 t)) λ u l m.
    rw t (sym (le-leb 2 (count w (has x)) (omega (arith, count-pos w (has d) u l m)))))

-- Without its lowest member a word has one member fewer.
pub dropped-less : (w x : ℕ) {d : ℕ} → x < 2 ^ w → (x ≡ 0 → ⊥) → d ≡ word w (λ (u : ℕ). and (has x u) (not (eqb u (first w (has x)))))
    → count w (has d) < count w (has x)
dropped-less w x {d} h n e =
    let low = first_some w (has x) (nonempty w x h n) in
    let less = count-without w (has x) (first w (has x)) low (first_passes w (has x) low) in
    let same : count w (has d) ≡ count w (λ (u : ℕ). and (has x u) (not (eqb u (first w (has x))))) = count-cong w _ _ (has-ruled w _ e) in
    omega arith
