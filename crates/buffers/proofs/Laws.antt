-- Texts one after the other in a buffer.
use mathlib.Core.List.{List, [], ◌∷◌, ◌++◌, append_assoc}
use mathlib.Core.Path.{◌≡◌, refl, sym, ◌∙◌, ap}
use Prim.Native.Nat.{ℕ, zero, suc, ◌+◌, ◌-◌, ◌≤◌, ◌<◌}
use native.Mathlib.Nat.{add-zero, add-suc}
use native.Mathlib.Numerals.{add-one}
use native.Mathlib.Omega.{arith}
use lib.ListN.{length, get_or, set, take, drop, length-append, length-set, take-append-drop}
use lib.Seq.{set_split, take_at, drop_at, drop-drop, length-take-le, take-suc, take_all}
use Rattle.buffers.specs.Wrote.{Wrote}

pub wrote_none : (buffer : List ℕ) (at : ℕ) → at ≤ length buffer → Wrote buffer buffer [] at at
wrote_none buffer at h = record { holds = sym (take-append-drop at buffer); ends = omega arith; room = h; keeps = refl }

pub wrote_one : (buffer : List ℕ) (at byte : ℕ) → at < length buffer → Wrote buffer (set buffer at byte) (byte ∷ []) at (at + 1)
wrote_one buffer at byte h =
    record { holds = rw add-one (set_split buffer at byte h); ends = refl; room = omega arith; keeps = length-set buffer at byte }

pub wrote_then : {a b c x y : List ℕ} {at mid r : ℕ} → Wrote a b x at mid → Wrote b c y mid r → Wrote a c (x ++ y) at r
wrote_then {a} {b} {c} {x} {y} {at} {mid} {r} h k =
    let m : length (take at a ++ x) ≡ mid = omega (arith, length-append (take at a) x, length-take-le at a (omega arith)) in
    let e : b ≡ (take at a ++ x) ++ drop mid a = h.holds ∙ sym (append_assoc (take at a) x (drop mid a)) in
    let front : take mid b ≡ take at a ++ x = ap (take mid) e ∙ take_at (take at a ++ x) (drop mid a) mid m in
    let rest : drop mid b ≡ drop mid a = ap (drop mid) e ∙ drop_at (take at a ++ x) (drop mid a) mid m in
    let back : drop r b ≡ drop r a = rw k.ends (sym (drop-drop (length y) mid b) ∙ ap (drop (length y)) rest ∙ drop-drop (length y) mid a) in
    record {
      holds = k.holds ∙ rw (front, back) (simp append_assoc);
      ends = omega (arith, length-append x y);
      room = omega arith;
      keeps = k.keeps ∙ h.keeps;
    }

-- The same text by another name.
pub wrote-text : {a b x y : List ℕ} {at r : ℕ} → x ≡ y → Wrote a b x at r → Wrote a b y at r
wrote-text e h = rw e at h

-- A text that is copied byte by byte, of which the first i are written: the room for the next, one more, and all.
module _ (text : List ℕ) (i : ℕ) where
  pub copied-room : {a b : List ℕ} {at mid : ℕ} → i < length text → at + length text ≤ length a → Wrote a b (take i text) at mid
      → mid < length b
  copied-room l r h = omega (arith, length-take-le i text (omega arith))

  pub copied_more : {a b c : List ℕ} {at mid r : ℕ} → i < length text → Wrote a b (take i text) at mid → Wrote b c (get_or text i 0 ∷ []) mid r
      → Wrote a c (take (i + 1) text) at r
  copied_more l h k = rw (add-one, take-suc text i 0 l) (wrote_then h k)

  pub copied_all : {a b : List ℕ} {at r : ℕ} → length text ≤ i → Wrote a b (take i text) at r → Wrote a b text at r
  copied_all l h = rw (take_all i text l) at h

-- A text that grows by a part with each turn of a loop: the room for the next part, and after it.
module _ (text part : ℕ → List ℕ) (more : (k : ℕ) → text (suc k) ≡ text k ++ part k) where
  length_more : (k : ℕ) → length (text (suc k)) ≡ length (text k) + length (part k)
  length_more k = ap length (more k) ∙ length-append (text k) (part k)

  grows : (d k : ℕ) → length (text k) ≤ length (text (k + d))
  grows zero k = rw add-zero (omega arith)
  grows (suc d) k = rw add-suc (omega (arith, grows d k, length_more (k + d)))

  pub turn-room : (n i : ℕ) {a b : List ℕ} {at mid : ℕ} → i < n → at + length (text n) ≤ length a → Wrote a b (text i) at mid
      → mid + length (part i) ≤ length b
  turn-room n i h r w =
      let e : suc i + (n - suc i) ≡ n = omega arith in
      omega (arith, length_more i, rw e at (grows (n - suc i) (suc i)))

  pub turn_more : (i : ℕ) {a b c : List ℕ} {at mid r : ℕ} → Wrote a b (text i) at mid → Wrote b c (part i) mid r → Wrote a c (text (i + 1)) at r
  turn_more i h k = rw (add-one, more) (wrote_then h k)
