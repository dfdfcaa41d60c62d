-- Texts put one after the other.
use mathlib.Core.List.{List, [], ◌∷◌, ◌++◌}
use mathlib.Core.Path.{◌≡◌, refl, sym, ◌∙◌, ap}
use Prim.Native.Nat.{ℕ, zero, suc, ◌+◌, ◌*◌, ◌^◌, ◌≤◌, ◌<◌}
use native.Mathlib.Numerals.{add-one}
use native.Mathlib.Omega.{arith}
use lib.ListN.{length, get_or, set, take, drop, length-append, length-set}
use lib.Seq.{take-suc, take_all, take_at}
use borrow.Author.Tests.{lt-ltb, le-ltb}
use Rattle.bounded.proofs.Bool.{if-true, if-false}
use Rattle.buffers.specs.Digits.{decimal}
use Rattle.buffers.specs.Wrote.{Wrote}
use Rattle.buffers.proofs.Digits.{length-decimal-le}
use Rattle.buffers.proofs.Laws.{wrote_none, wrote_one, wrote_then}
use Rattle.text_put.specs.Put.{Place, put_byte, put_all, Put, each}

put_both : (p : Place) (x y : List ℕ) → put_all p (x ++ y) ≡ put_all (put_all p x) y
unfolding put_all
put_both p [] y = refl
put_both p (byte ∷ x) y = put_both (put_byte p byte) x y

pub put-none : (buffer : List ℕ) (at : ℕ) → Put buffer buffer [] at at
unfolding put_all
put-none buffer at = record { is_put = refl; keeps = refl }

-- A byte that has room, and one that has none.
pub put_one : (buffer : List ℕ) (at byte : ℕ) → at < length buffer → Put buffer (set buffer at byte) (byte ∷ []) at (at + 1)
unfolding put_all put_byte
put_one buffer at byte h = record { is_put = sym (if-true _ _ _ (lt-ltb at (length buffer) h)); keeps = length-set buffer at byte }

pub put-out : (buffer : List ℕ) (at byte : ℕ) → length buffer ≤ at → Put buffer buffer (byte ∷ []) at at
unfolding put_all put_byte
put-out buffer at byte h = record { is_put = sym (if-false _ _ _ (le-ltb at (length buffer) h)); keeps = refl }

pub put_then : {a b c x y : List ℕ} {at mid r : ℕ} → Put a b x at mid → Put b c y mid r → Put a c (x ++ y) at r
put_then {a} {b} {c} {x} {y} h k =
    record { is_put = k.is_put ∙ ap (λ (p : Place). put_all p y) h.is_put ∙ sym (put_both _ x y); keeps = k.keeps ∙ h.keeps }

-- The same text by another name.
pub put-text : {a b x y : List ℕ} {at r : ℕ} → x ≡ y → Put a b x at r → Put a b y at r
put-text e h = rw e at h

-- A text that is copied byte by byte, of which the first i are put: one more, and all.
module _ (text : List ℕ) (i : ℕ) where
  pub copied_more : {a b c : List ℕ} {at mid r : ℕ} → i < length text → Put a b (take i text) at mid → Put b c (get_or text i 0 ∷ []) mid r
      → Put a c (take (i + 1) text) at r
  copied_more l h k = rw (add-one, take-suc text i 0 l) (put_then h k)

  pub copied_all : {a b : List ℕ} {at r : ℕ} → length text ≤ i → Put a b (take i text) at r → Put a b text at r
  copied_all l h = rw (take_all i text l) at h

-- The texts of 0 to i - 1: before the first, one more with each turn of a loop, and how long they are.
module _ (text : ℕ → List ℕ) where
  pub each_none : (buffer : List ℕ) (at : ℕ) → Put buffer buffer (each text 0) at at
  unfolding each
  each_none = put-none

  pub each_more : (i : ℕ) {a b c : List ℕ} {at mid r : ℕ} → Put a b (each text i) at mid → Put b c (text i) mid r → Put a c (each text (i + 1)) at r
  unfolding each
  each_more i h k = rw add-one (put_then h k)

  pub length-each : (n most : ℕ) → ((k : ℕ) → k < n → length (text k) ≤ most) → length (each text n) ≤ n * most
  unfolding each
  length-each zero most h = omega arith
  length-each (suc n) most h =
      simp length-append (omega (arith, length-each n most (λ k l. h k (omega arith)), h n (omega arith)))

-- Where all of a text has room it is written whole.
put-place : (text buffer : List ℕ) (at : ℕ) → at + length text ≤ length buffer
    → (after : List ℕ) × (r : ℕ) × (put_all (record { buffer = buffer; at = at }) text ≡ record { buffer = after; at = r }) × Wrote buffer after text at r
unfolding put_all put_byte
put-place [] buffer at h = (buffer, at, refl, wrote_none buffer at (omega arith))
put-place (byte ∷ text) buffer at h =
    let w = wrote_one buffer at byte (omega arith) in
    let q = put-place text (set buffer at byte) (at + 1) (omega (arith, w.keeps)) in
    (q.0, q.1, ap (λ (p : Place). put_all p text) (if-true _ _ _ (lt-ltb at (length buffer) (omega arith))) ∙ q.2, wrote_then w q.3)

pub put-wrote : {before after text : List ℕ} {at r : ℕ} → at + length text ≤ length before → Put before after text at r → Wrote before after text at r
put-wrote {before} {after} {text} {at} {r} h p =
    let q = put-place text before at h in
    let e = p.is_put ∙ q.2 in
    let b : after ≡ q.0 = ap (λ (x : Place). x.buffer) e in
    let t : r ≡ q.1 = ap (λ (x : Place). x.at) e in
    rw (b, t) q.3

-- A text written at the start is what stands there.
pub wrote-first : {a b text : List ℕ} {r : ℕ} → Wrote a b text 0 r → take r b ≡ text
wrote-first {a} {b} {text} {r} w = ap (take r) w.holds ∙ take_at text (drop r a) r (let e : length text ≡ r = omega arith in e)

-- A number of 64 bits has at most 20 digits.
pub digits-64 : (n : ℕ) → n < 2 ^ 64 → length (decimal n) ≤ 20
digits-64 n h = length-decimal-le 19 n (omega arith)

pub wrote-end : {a b text : List ℕ} {r : ℕ} → Wrote a b text 0 r → r ≡ length (take r b)
wrote-end {a} {b} {text} {r} w = (let e : r ≡ length text = omega arith in e) ∙ ap length (sym (wrote-first w))
