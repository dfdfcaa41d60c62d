-- Laws of numbers as digits.
use mathlib.Core.List.{List, [], ◌∷◌, ◌++◌}
use mathlib.Core.Path.{◌≡◌, refl, sym, ◌∙◌, ap}
use Prim.Native.Nat.{ℕ, zero, suc, ◌+◌, ◌-◌, ◌*◌, ◌/◌, ◌%◌, ◌^◌, ◌≤◌, ◌<◌}
use native.Mathlib.Nat.{mul-suc, pow-suc}
use native.Mathlib.Numerals.{unary_clauses}
use native.Mathlib.Omega.{arith}
use lib.Dec.{ltb}
use lib.Pow.{pow-add}
use lib.ListN.{length, get_or, take, length-append}
use borrow.Author.Tests.{lt-ltb, le-ltb, ltb-true, ltb-false}
use Rattle.bounded.proofs.Bool.{by_cases, if-true, if-false}
use Rattle.buffers.specs.Wrote.{Wrote}
use Rattle.buffers.specs.Digits.{decimal_within, decimal, hex_digit, hex_text}
use Rattle.buffers.proofs.Laws.{copied-room, copied_more, copied_all}

within-one : (most n : ℕ) → n < 10 → decimal_within (suc most) n ≡ (48 + n) ∷ []
unfolding decimal_within
within-one most n h = if-true _ _ _ (lt-ltb n 10 h)

within_more : (most n : ℕ) → 10 ≤ n → decimal_within (suc most) n ≡ decimal_within most (n / 10) ++ ((48 + n % 10) ∷ [])
unfolding decimal_within
within_more most n h = if-false _ _ _ (le-ltb n 10 h)

-- Room for more digits than there are does not matter.
within-enough : (m k n : ℕ) → n < m → n < k → decimal_within m n ≡ decimal_within k n
within-enough zero k n h l = absurd (let x : ⊥ = omega arith in x)
within-enough (suc m) zero n h l = absurd (let x : ⊥ = omega arith in x)
within-enough (suc m) (suc k) n h l =
    by_cases (ltb n 10)
    (λ t. let d : n < 10 = ltb-true n 10 t in within-one m n d ∙ sym (within-one k n d))
    (λ t. let d : 10 ≤ n = ltb-false n 10 t in
    within_more m n d
    ∙ ap (λ (x : List ℕ). x ++ ((48 + n % 10) ∷ [])) (within-enough m k (n / 10) (omega arith) (omega arith))
    ∙ sym (within_more k n d))

-- A number below 10 is its digit.
pub decimal-one : (n : ℕ) → n < 10 → decimal n ≡ (48 + n) ∷ []
unfolding decimal
decimal-one n h = within-one n n h

-- Any other is its tenth, and its last digit behind it.
pub decimal-more : (n : ℕ) → 10 ≤ n → decimal n ≡ decimal (n / 10) ++ ((48 + n % 10) ∷ [])
unfolding decimal
decimal-more n h =
    within_more n n h
    ∙ ap (λ (x : List ℕ). x ++ ((48 + n % 10) ∷ [])) (within-enough n (suc (n / 10)) (n / 10) (omega arith) (omega arith))

pub length-decimal-one : (n : ℕ) → n < 10 → length (decimal n) ≡ 1
length-decimal-one n h = ap length (decimal-one n h)

pub length-decimal-more : (n : ℕ) → 10 ≤ n → length (decimal n) ≡ length (decimal (n / 10)) + 1
length-decimal-more n h = ap length (decimal-more n h) ∙ length-append (decimal (n / 10)) ((48 + n % 10) ∷ [])

-- A number below a power of ten has at most as many digits.
pub length-decimal-le : (k n : ℕ) → n < 10 ^ suc k → length (decimal n) ≤ suc k
length-decimal-le zero n h = omega (arith, length-decimal-one n h)
length-decimal-le (suc k) n h =
    by_cases (ltb n 10)
    (λ t. let d : n < 10 = ltb-true n 10 t in omega (arith, length-decimal-one n d))
    (λ t. let d : 10 ≤ n = ltb-false n 10 t in
    let p : n < 10 ^ suc k * 10 = rw (← pow-suc 10 (suc k)) h in
    omega (arith, length-decimal-more n d, length-decimal-le k (n / 10) (omega arith)))

within-grows : (most m n : ℕ) → m ≤ n → length (decimal_within most m) ≤ length (decimal_within most n)
unfolding decimal_within
within-grows zero m n h = omega arith
within-grows (suc most) m n h =
    by_cases (ltb m 10)
    (λ t. rw (within-one most m (ltb-true m 10 t)) (some-digit most n))
    (λ t. let d : 10 ≤ m = ltb-false m 10 t in
    rw (within_more most m d, within_more most n (omega arith))
    (simp length-append (omega (arith, within-grows most (m / 10) (n / 10) (omega arith)))))
  where
    some-digit : (most n : ℕ) → 1 ≤ length (decimal_within (suc most) n)
    some-digit most n =
        by_cases (ltb n 10)
        (λ t. rw (within-one most n (ltb-true n 10 t)) (omega arith))
        (λ t. rw (within_more most n (ltb-false n 10 t)) (simp length-append (omega arith)))

-- The next number has no fewer digits.
pub length-decimal-next : (n : ℕ) → length (decimal n) ≤ length (decimal (n + 1))
unfolding decimal
length-decimal-next n =
    rw (within-enough (suc n) (suc (n + 1)) n (omega arith) (omega arith)) (within-grows (suc (n + 1)) n (n + 1) (omega arith))

pub hex-digit-low : (d : ℕ) → d < 10 → hex_digit d ≡ 48 + d
unfolding hex_digit
hex-digit-low d h = if-true _ _ _ (lt-ltb d 10 h)

pub hex-digit-high : (d : ℕ) → 10 ≤ d → hex_digit d ≡ 55 + d
unfolding hex_digit
hex-digit-high d h = if-false _ _ _ (le-ltb d 10 h)

-- A shift by k digits of d bits each is a division by the k-th power of their base.
pub shift-digits : (d k x : ℕ) → x / 2 ^ (d * k) ≡ x / (2 ^ d) ^ k
shift-digits d k x = ap (λ (b : ℕ). x / b) (powers k)
  where
    powers : (k : ℕ) → 2 ^ (d * k) ≡ (2 ^ d) ^ k
    powers zero = simp unary_clauses
    powers (suc k) = rw (mul-suc d k, pow-add 2 (d * k) d, pow-suc (2 ^ d) k, powers k)

-- A number in k digits, highest first, for every k: each is a byte.
pub record Digits : Type 0 where
  pub text : ℕ → List ℕ
  pub digit : ℕ → ℕ
  pub none : text 0 ≡ []
  pub more : (k : ℕ) → text (suc k) ≡ digit k ∷ text k

module _ (D : Digits) where
  pub length_digits : (k : ℕ) → length (D.text k) ≡ k
  length_digits zero = ap length D.none
  length_digits (suc k) = ap length (D.more k) ∙ ap suc (length_digits k)

  digit_at : (k i : ℕ) → i < k → get_or (D.text k) i 0 ≡ D.digit (k - 1 - i)
  digit_at zero i l = absurd (let x : ⊥ = omega arith in x)
  digit_at (suc k) zero l = rw (D.more k) (ap D.digit (let e : k ≡ suc k - 1 - 0 = omega arith in e))
  digit_at (suc k) (suc i) l =
      rw (D.more k) (digit_at k i (omega arith) ∙ ap D.digit (let e : k - 1 - i ≡ suc k - 1 - suc i = omega arith in e))

  -- They are written one by one. After i of them: the room for the next, one more, and all.
  module _ (k i : ℕ) where
    pub digits-room : {a b : List ℕ} {at mid : ℕ} → i < k → at + k ≤ length a → Wrote a b (take i (D.text k)) at mid → mid < length b
    digits-room l r h = let n = length_digits k in copied-room (D.text k) i (omega arith) (omega arith) h

    pub digits_more : {a b c : List ℕ} {at mid r byte : ℕ} → i < k → byte ≡ D.digit (k - 1 - i) → Wrote a b (take i (D.text k)) at mid
        → Wrote b c (byte ∷ []) mid r → Wrote a c (take (i + 1) (D.text k)) at r
    digits_more l e h w = copied_more (D.text k) i (omega (arith, length_digits k)) h (rw (digit_at k i l, ← e) w)

    pub digits-all : {a b : List ℕ} {at r : ℕ} → k ≤ i → Wrote a b (take i (D.text k)) at r → Wrote a b (D.text k) at r
    digits-all l h = copied_all (D.text k) i (omega (arith, length_digits k)) h

unfoldable pub hexadecimal : ℕ → Digits
unfolding hex_text
hexadecimal x = record { text = λ k. hex_text k x; digit = λ k. hex_digit (x / 16 ^ k % 16); none = refl; more = λ k. refl }

pub length-hex : (k x : ℕ) → length (hex_text k x) ≡ k
unfolding hexadecimal
length-hex k x = length_digits (hexadecimal x) k
