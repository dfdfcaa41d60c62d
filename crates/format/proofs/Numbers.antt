-- Bytes that stand at a place, and the numbers in them: reading a number and writing it undo one another.
use mathlib.Core.List.{List, [], ◌∷◌, ◌++◌, append-nil, append_assoc}
use mathlib.Core.Path.{◌≡◌, refl, sym, ◌∙◌, ap}
use Prim.Native.Nat.{ℕ, zero, suc, ◌+◌, ◌*◌, ◌/◌, ◌%◌, ◌^◌, ◌≤◌, ◌<◌}
use native.Mathlib.Nat.{add-zero, mul_assoc, mul_comm, suc-mul, add-mul, pow-succ', pow-suc, one-le-pow, mul-le-mul_right}
use native.Mathlib.Nat.{mod-lt, mod-eq_of_lt, div-add-mod', mul-add-div_right, div-eq_of_lt, mul-add-mod_self_right}
use native.Mathlib.Numerals.{add-one}
use native.Mathlib.Omega.{arith}
use lib.ListN.{length, get_or, take, drop, length-append, get_or-append}
use lib.Seq.{drop-append_seam, drop-drop, drop-cons, drop-length, get_or-drop}
use Rattle.format.specs.Parse.{Octets, number_at}
use Rattle.format.specs.Print.{bytes_of}

-- At a place of the bytes stands a text, and from `next` on what follows it.
pub record Stands (bytes : List ℕ) (at : ℕ) (text : List ℕ) (next : ℕ) : Type 0 where
  pub ends : next ≡ at + length text
  pub within : next ≤ length bytes
  pub split : drop at bytes ≡ text ++ drop next bytes

-- Nothing, one byte, two texts one after the other, and each of two by itself.
module _ (bytes : List ℕ) where
  pub stands-none : (at : ℕ) → at ≤ length bytes → Stands bytes at [] at
  stands-none at h = record { ends = omega arith; within = h; split = refl }

  pub stands-byte : (at : ℕ) → at < length bytes → Stands bytes at (get_or bytes at 0 ∷ []) (suc at)
  stands-byte at h = record { ends = omega arith; within = h; split = drop-cons bytes at 0 h }

  pub stands-append : (at mid next : ℕ) (a b : List ℕ) → Stands bytes at a mid → Stands bytes mid b next → Stands bytes at (a ++ b) next
  stands-append at mid next a b x y =
      record {
        ends = omega (arith, length-append a b);
        within = y.within;
        split = x.split ∙ ap (λ (l : List ℕ). a ++ l) y.split ∙ sym (append_assoc a b (drop next bytes));
      }

  module _ (at next : ℕ) (a b : List ℕ) (h : Stands bytes at (a ++ b) next) where
    rest : drop (at + length a) bytes ≡ b ++ drop next bytes
    rest =
        sym (drop-drop (length a) at bytes) ∙ ap (drop (length a)) (h.split ∙ append_assoc a b (drop next bytes))
        ∙ drop-append_seam a (b ++ drop next bytes)

    pub stands-front : Stands bytes at a (at + length a)
    stands-front =
        record {
          ends = refl;
          within = omega (arith, length-append a b);
          split = h.split ∙ append_assoc a b (drop next bytes) ∙ ap (λ (l : List ℕ). a ++ l) (sym rest);
        }

    pub stands-back : Stands bytes (at + length a) b next
    stands-back = record { ends = omega (arith, length-append a b); within = h.within; split = rest }

  -- The bytes of a text, one by one.
  pub stands_at : (at next : ℕ) (text : List ℕ) → Stands bytes at text next → (i : ℕ) → i < length text
      → get_or bytes (at + i) 0 ≡ get_or text i 0
  stands_at at next text h i l =
      sym (get_or-drop at bytes i 0) ∙ ap (λ (r : List ℕ). get_or r i 0) h.split ∙ get_or-append text (drop next bytes) 0 i l

  -- What stands from the first place to the last is all.
  pub stands-whole : (text : List ℕ) → Stands bytes 0 text (length bytes) → text ≡ bytes
  stands-whole text h = sym (h.split ∙ ap (λ (l : List ℕ). text ++ l) (drop-length bytes) ∙ append-nil text)

pub stands_self : (text : List ℕ) → Stands text 0 text (length text)
stands_self text =
    record {
      ends = omega arith;
      within = omega arith;
      split = sym (ap (λ (l : List ℕ). text ++ l) (drop-length text) ∙ append-nil text);
    }

pub length-bytes_of : (k v : ℕ) → length (bytes_of k v) ≡ k
unfolding bytes_of
length-bytes_of zero v = refl
length-bytes_of (suc k) v = ap suc (length-bytes_of k _)

pow_pos : (k : ℕ) → 0 < 256 ^ k
pow_pos k = one-le-pow k 256 (omega arith)

carry : (k c : ℕ) → c * 256 ^ suc k ≡ c * 256 * 256 ^ k
carry k c = rw (pow-suc 256 k, mul_comm (256 ^ k) 256) (sym (mul_assoc c 256 (256 ^ k)))

-- A byte and what is below it are below the next power.
below : (k b w : ℕ) → b < 256 → w < 256 ^ k → b * 256 ^ k + w < 256 ^ suc k
below k b w hb hw =
    let m : suc b * 256 ^ k ≤ 256 * 256 ^ k = mul-le-mul_right (256 ^ k) hb in
    let e : suc b * 256 ^ k ≡ b * 256 ^ k + 256 ^ k = suc-mul b (256 ^ k) in
    let p : 256 ^ suc k ≡ 256 * 256 ^ k = pow-succ' 256 k in
    omega arith

-- The last k + 1 bytes of a number: one, and then k.
low-digits : (k v : ℕ) → v / 256 ^ k % 256 * 256 ^ k + v % 256 ^ k ≡ v % 256 ^ suc k
low-digits k v =
    let q = v / 256 ^ k in
    let low = q % 256 * 256 ^ k + v % 256 ^ k in
    let e : v ≡ q / 256 * 256 ^ suc k + low =
    rw (carry k (q / 256))
    (omega (arith, div-add-mod' v (256 ^ k), ap (λ (n : ℕ). n * 256 ^ k) (div-add-mod' q 256), add-mul (q / 256 * 256) (q % 256) (256 ^ k))) in
    let l : low < 256 ^ suc k = below k (q % 256) (v % 256 ^ k) (mod-lt q (omega arith)) (mod-lt v (pow_pos k)) in
    sym (ap (λ (n : ℕ). n % 256 ^ suc k) e ∙ mul-add-mod_self_right (q / 256) (256 ^ suc k) low ∙ mod-eq_of_lt l)

number-low : (k v : ℕ) (bytes : List ℕ) (at next : ℕ) → Stands bytes at (bytes_of k v) next → number_at k bytes at ≡ v % 256 ^ k
unfolding bytes_of number_at
number-low zero v bytes at next h = omega arith
number-low (suc k) v bytes at next h =
    let x : get_or bytes at 0 ≡ v / 256 ^ k % 256 = rw add-zero at (stands_at bytes at next (bytes_of (suc k) v) h 0 (omega arith)) in
    let later : Stands bytes (at + 1) (bytes_of k v) next = stands-back bytes at next (v / 256 ^ k % 256 ∷ []) (bytes_of k v) h in
    let y : number_at k bytes (suc at) ≡ v % 256 ^ k = rw add-one at (number-low k v bytes (at + 1) next later) in
    rw (x, y) (low-digits k v)

-- Reading what was written: a number below 256 ^ k, in k bytes.
pub number-of-bytes : (k v : ℕ) (bytes : List ℕ) (at next : ℕ) → v < 256 ^ k → Stands bytes at (bytes_of k v) next → number_at k bytes at ≡ v
number-of-bytes k v bytes at next l h = number-low k v bytes at next h ∙ mod-eq_of_lt l

-- The bytes of a number do not depend on what it has beyond them.
bytes_of-low : (k c w : ℕ) → bytes_of k (c * 256 ^ k + w) ≡ bytes_of k w
unfolding bytes_of
bytes_of-low zero c w = refl
bytes_of-low (suc k) c w =
    rw (carry k c, mul-add-div_right (pow_pos k) (c * 256) w, mul-add-mod_self_right c 256 (w / 256 ^ k), bytes_of-low k (c * 256) w)

-- Writing what was read.
module _ (bytes : List ℕ) (octets : Octets bytes) where
  pub number-below : (k at : ℕ) → number_at k bytes at < 256 ^ k
  unfolding number_at
  number-below zero at = omega arith
  number-below (suc k) at = below k (get_or bytes at 0) (number_at k bytes (suc at)) (octets at) (number-below k (suc at))

  pub bytes-of-number : (k at : ℕ) → at + k ≤ length bytes → Stands bytes at (bytes_of k (number_at k bytes at)) (at + k)
  unfolding number_at bytes_of
  bytes-of-number zero at h = rw (add-zero at) (stands-none bytes at (omega arith))
  bytes-of-number (suc k) at h =
      let b = get_or bytes at 0 in
      let w = number_at k bytes (suc at) in
      let e : suc at + k ≡ at + suc k = omega arith in
      rw (mul-add-div_right (pow_pos k) b w, div-eq_of_lt (number-below k (suc at)), add-zero b, mod-eq_of_lt (octets at), bytes_of-low k b w, ← e)
      (stands-append bytes at (suc at) (suc at + k) (b ∷ []) (bytes_of k w) (stands-byte bytes at (omega arith))
      (bytes-of-number k (suc at) (omega arith)))
