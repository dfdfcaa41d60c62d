-- Laws of writing: texts one after the other in a buffer, what they are together, and how long they are.
use mathlib.Core.Bool.{true, false}
use mathlib.Core.List.{List, [], ◌∷◌, ◌++◌, append_assoc, append-nil}
use mathlib.Core.Path.{◌≡◌, refl, sym, ◌∙◌, ap}
use Prim.Native.Nat.{ℕ, zero, suc, ◌+◌, ◌-◌, ◌/◌, ◌%◌, ◌^◌, ◌≤◌, ◌<◌}
use native.Mathlib.Nat.{add-zero}
use native.Mathlib.Omega.{arith}
use lib.ListN.{length, drop, length-append}
use Rattle.bounded.proofs.Bool.{if-true, if-false}
use Rattle.buffers.specs.Wrote.{Wrote}
use Rattle.buffers.proofs.Laws.{wrote_none, wrote_then}
use Rattle.buffers.proofs.Digits.{Digits}
use Rattle.words.specs.Word.{has}
use Rattle.network.specs.Sheet.{collect}
use Rattle.format.specs.Print.{bytes_of}
use Rattle.write_tables.specs.Texts.{joined, rows_text, table_text}

-- ---- texts in a buffer

-- What was written from the start of a buffer.
pub wrote-whole : {a b text : List ℕ} {r : ℕ} → Wrote a b text 0 r → (r ≡ length text) × (b ≡ text ++ drop (length text) a)
wrote-whole {text} {r} w =
    let e : r ≡ length text = omega arith in (e, rw e at w.holds)

-- The bytes of a number are what it has of each power of 256.
unfoldable pub octets : ℕ → Digits
unfolding bytes_of
octets v = record { text = λ k. bytes_of k v; digit = λ k. v / 256 ^ k % 256; none = refl; more = λ k. refl }

-- ---- texts that are joined

pub collect-none : {A : Type 0} (k : ℕ) (f : ℕ → List A) → collect 0 k f ≡ []
unfolding collect
collect-none k f = refl

-- One more at the end.
pub collect-snoc : {A : Type 0} (m k : ℕ) (f : ℕ → List A) → collect (suc m) k f ≡ collect m k f ++ f (k + m)
unfolding collect
collect-snoc zero k f = rw add-zero (append-nil (f k))
collect-snoc (suc m) k f =
    ap (λ (l : List _). f k ++ l) (collect-snoc m (suc k) f)
    ∙ sym (append_assoc (f k) (collect m (suc k) f) (f (suc k + m)))
    ∙ ap (λ (x : ℕ). (f k ++ collect m (suc k) f) ++ f x) (let e : suc k + m ≡ k + suc m = omega arith in e)

pub joined-none : (k : ℕ) (f : ℕ → List ℕ) → joined k k f ≡ []
unfolding joined
joined-none k f = ap (λ (c : ℕ). collect c k f) (let e : k - k ≡ 0 = omega arith in e) ∙ collect-none k f

pub joined-more : (k l : ℕ) (f : ℕ → List ℕ) → k ≤ l → joined k (l + 1) f ≡ joined k l f ++ f l
unfolding joined
joined-more k l f h =
    ap (λ (c : ℕ). collect c k f) (let e : l + 1 - k ≡ suc (l - k) = omega arith in e)
    ∙ collect-snoc (l - k) k f
    ∙ ap (λ (x : ℕ). collect (l - k) k f ++ f x) (let e : k + (l - k) ≡ l = omega arith in e)

pub length-joined-more : (k l : ℕ) (f : ℕ → List ℕ) → k ≤ l → length (joined k (l + 1) f) ≡ length (joined k l f) + length (f l)
length-joined-more k l f h = ap length (joined-more k l f h) ∙ length-append (joined k l f) (f l)

joined-grows : (d k l : ℕ) (f : ℕ → List ℕ) → k ≤ l → length (joined k l f) ≤ length (joined k (l + d) f)
joined-grows zero k l f h = rw add-zero (omega arith)
joined-grows (suc d) k l f h =
    rw (let e : l + suc d ≡ l + d + 1 = omega arith in e)
    (omega (arith, joined-grows d k l f h, length-joined-more k (l + d) f (omega arith)))

-- What has been joined so far and the next part are no longer than the whole.
joined-room : (k m l : ℕ) (f : ℕ → List ℕ) → k ≤ m → m < l → length (joined k m f) + length (f m) ≤ length (joined k l f)
joined-room k m l f h n =
    let e : m + 1 + (l - (m + 1)) ≡ l = omega arith in
    rw e at (rw (length-joined-more k m f h) at (joined-grows (l - (m + 1)) k (m + 1) f (omega arith)))

-- ---- a loop that writes joined texts: where it begins, the room for the next part, and after it

pub wrote-start : (k : ℕ) (f : ℕ → List ℕ) {buffer : List ℕ} {at : ℕ} → at ≤ length buffer → Wrote buffer buffer (joined k k f) at at
wrote-start k f {buffer} {at} h = rw joined-none (wrote_none buffer at h)

module _ (f : ℕ → List ℕ) where
  pub wrote-room : (l : ℕ) {a b : List ℕ} {k m at mid : ℕ} → k ≤ m → m < l → at + length (joined k l f) ≤ length a
      → Wrote a b (joined k m f) at mid
      → mid + length (f m) ≤ length b
  wrote-room l {k = k} {m = m} h n r w = omega (arith, joined-room k m l f h n)

  pub wrote-next : {a b c : List ℕ} {k l at mid r : ℕ} → k ≤ l → Wrote a b (joined k l f) at mid → Wrote b c (f l) mid r
      → Wrote a c (joined k (l + 1) f) at r
  wrote-next {k = k} {l = l} h x y = rw (joined-more k l f h) (wrote_then x y)

-- ---- a table

module _ (k : ℕ) (row : ℕ → ℕ → ℕ → ℕ) (size stated i j : ℕ) where
  pub table-unstated : has stated j ≡ false → table_text k row size stated i j ≡ []
  unfolding table_text
  table-unstated h = if-false _ _ _ h

  pub table-stated : has stated j ≡ true → table_text k row size stated i j ≡ suc i ∷ suc j ∷ rows_text k row size i j
  unfolding table_text
  table-stated h = if-true _ _ _ h

-- The two numbers and the rows, one after the other.
pub wrote-table : {a b c d text rows : List ℕ} {i j p q at second third r : ℕ} → text ≡ suc i ∷ suc j ∷ rows → p ≡ suc i → q ≡ suc j
    → Wrote a b (p ∷ []) at second → Wrote b c (q ∷ []) second third → Wrote c d rows third r
    → Wrote a d text at r
wrote-table t e f x y z = rw (t, ← e, ← f) (wrote_then x (wrote_then y z))

-- ---- rows, with the bytes of a row as another expression says them

module _ {k l : ℕ} (e : k ≡ l) (row : ℕ → ℕ → ℕ → ℕ) (size i j : ℕ) where
  pub same_length : length (rows_text k row size i j) ≡ length (rows_text l row size i j)
  same_length = rw e

  pub wrote-same : {a b : List ℕ} {at r : ℕ} → Wrote a b (rows_text l row size i j) at r → Wrote a b (rows_text k row size i j) at r
  wrote-same w = rw e w
