-- Laws of what storing leaves behind, for any number w of values.
use mathlib.Core.Bool.{Bool, false}
use mathlib.Core.List.{List}
use mathlib.Core.Logic.{◌⊎◌, ⊎_elim, inl, inr}
use mathlib.Core.Path.{◌≡◌, refl, sym, ap, ◌∙◌}
use Prim.Native.Nat.{ℕ, suc, ◌+◌, ◌-◌, ◌*◌, ◌^◌, ◌≤◌, ◌<◌}
use native.Mathlib.Omega.{arith}
use lib.Dec.{eqb, ltb}
use lib.ListN.{length, get_or, set, length-set}
use lib.Seq.{get_or-set_same, get_or-set_other}
use borrow.Author.Tests.{eq-eqb, ne_eqb, ltb-true, ltb-false}
use Rattle.bounded.specs.Bool.{if}
use Rattle.bounded.proofs.Bool.{by_cases, if-true, if-false}
use Rattle.bounded.proofs.Fold.{below_suc}
use Rattle.bounded.proofs.Array.{set-lt}
use Rattle.words.specs.Word.{has, word}
use Rattle.words.proofs.Laws.{has_word, word_lt}
use Rattle.pairs.specs.Pairs.{slot, row_at, allows_of}
use Rattle.pairs.specs.Frames.{Words, Other, RowPut, Stored, RunPut}
use Rattle.pairs.proofs.Places.{placed, slot-inj, row-inj, row_lt}
use Rattle.pairs.proofs.Laws.{allows-up, allows-down, allows-alike, allows-same, allows-not}

-- ---- runs

pub run_none : (before : List ℕ) (at : ℕ) (g : ℕ → ℕ) → RunPut before before at g 0
run_none before at g = record { done = λ a l. absurd (let z : ⊥ = omega arith in z); rest = λ k h. refl; size = refl }

pub run_more : {before after : List ℕ} {at : ℕ} {g : ℕ → ℕ} {n x : ℕ} → RunPut before after at g n → at + n < length before → x ≡ g n
    → RunPut before (set after (at + n) x) at g (suc n)
run_more {after} {at} {n} {x} p l e =
    let m : at + n < length after = omega (arith, p.size) in
    record {
      done =
          λ a k. below_suc n a k
          (λ y. rw y (get_or-set_same after (at + n) x 0 m ∙ e))
          (λ h. get_or-set_other after (at + n) (at + a) x 0 (λ z. let q : ⊥ = omega arith in q) ∙ p.done a h);
      rest =
          λ k h. get_or-set_other after (at + n) k x 0 (⊎_elim (λ u z. let q : ⊥ = omega arith in q) (λ u z. let q : ⊥ = omega arith in q) h)
          ∙ p.rest k (⊎_elim (λ u. inl u) (λ u. inr (omega arith)) h);
      size = length-set after (at + n) x ∙ p.size;
    }

-- A row that has not been stored yet is as before.
pub run-next : (before after : List ℕ) (at : ℕ) (g : ℕ → ℕ) (n : ℕ) → RunPut before after at g n → get_or after (at + n) 0 ≡ get_or before (at + n) 0
run-next before after at g n p = p.rest (at + n) (inr (omega arith))

-- Rows of another pair are no part of the run of a pair.
other-run : (w i j n x y c : ℕ) → i < j → j < 16 → x < y → y < 16 → c < w → n ≤ w → (x ≡ i → y ≡ j → ⊥)
    → (slot x y * w + c < slot i j * w) ⊎ (slot i j * w + n ≤ slot x y * w + c)
other-run w i j n x y c l m k h d b ne =
    by_cases (ltb (slot x y * w + c) (slot i j * w))
    (λ t. inl (ltb-true _ _ t))
    (λ t. by_cases (ltb (slot x y * w + c) (slot i j * w + n))
    (λ u. absurd (let f : slot i j * w ≤ slot x y * w + c = ltb-false _ _ t in
    let g : slot x y * w + c < slot i j * w + n = ltb-true _ _ u in
    let e : slot x y * w + c ≡ slot i j * w + (slot x y * w + c - slot i j * w) = omega arith in
    let q : slot x y * w + c - slot i j * w < w = omega arith in
    let s = slot-inj x y i j k h l m (row-inj w (slot x y) c (slot i j) (slot x y * w + c - slot i j * w) d q e).0 in
    ne s.0 s.1))
    (λ u. inr (ltb-false _ _ u)))

-- The run of a pair, stored, says what its rows are from the lower variable.
module _ (w : ℕ) (before after : List ℕ) (i j n : ℕ) (g : ℕ → ℕ) (l : i < j) (m : j < 16) (b : n ≤ w) (p : RunPut before after (slot i j * w) g n) where
  row_done : (a : ℕ) → a < n → row_at w after i j a ≡ g a
  unfolding row_at
  row_done a h = p.done a h

  row-left : (a : ℕ) → n ≤ a → a < w → row_at w after i j a ≡ row_at w before i j a
  unfolding row_at
  row-left a h k = p.rest (slot i j * w + a) (inr (omega arith))

  row-rest : (x y c : ℕ) → x < y → y < 16 → c < w → (x ≡ i → y ≡ j → ⊥) → row_at w after x y c ≡ row_at w before x y c
  unfolding row_at
  row-rest x y c k h d ne = p.rest (slot x y * w + c) (other-run w i j n x y c l m k h d b ne)

  run-left : (a v : ℕ) → n ≤ a → allows_of w after i j a v ≡ allows_of w before i j a v
  run-left a v h =
      allows-same w before after i j a v
      (λ _ _ k q. ap (λ (x : ℕ). has x v) (row-left a h k))
      (λ k _ _ _. absurd (let z : ⊥ = omega arith in z))

  run-rest : (x y a v : ℕ) → Other i j x y → allows_of w after x y a v ≡ allows_of w before x y a v
  run-rest x y a v o =
      allows-same w before after x y a v
      (λ k h d q. ap (λ (r : ℕ). has r v) (row-rest x y a k h d o.not_ij))
      (λ k h d q. ap (λ (r : ℕ). has r a) (row-rest y x v k h q (λ e f. o.not_ji f e)))

  run-words : ((a : ℕ) → a < n → g a < 2 ^ w) → Words w before → Words w after
  run-words f h k =
      by_cases (ltb k (slot i j * w))
      (λ t. rw (p.rest k (inl (ltb-true _ _ t))) (h k))
      (λ t. by_cases (ltb k (slot i j * w + n))
      (λ u. let lo : slot i j * w ≤ k = ltb-false _ _ t in
      let hi : k < slot i j * w + n = ltb-true _ _ u in
      let e : k ≡ slot i j * w + (k - slot i j * w) = omega arith in
      let q : k - slot i j * w < n = omega arith in
      rw (e, p.done (k - slot i j * w) q) (f (k - slot i j * w) q))
      (λ u. rw (p.rest k (inr (ltb-false _ _ u))) (h k)))

  pub run-stored : ((a : ℕ) → a < n → g a < 2 ^ w) → Stored w before after i j (λ (a v : ℕ). has (g a) v) n
  run-stored f =
      record {
        done = λ a v h k q. allows-up w after i j a v l m k q ∙ ap (λ (x : ℕ). has x v) (row_done a h);
        left = run-left;
        rest = run-rest;
        size = p.size;
        words = run-words f;
      }

-- Past w values nothing is allowed.
pub past_first : (w : ℕ) (rows : List ℕ) (i j a b : ℕ) → w ≤ a → allows_of w rows i j a b ≡ false
past_first w rows i j a b l = allows-not w rows i j a b (λ n. let h = n.value_in in let z : ⊥ = omega arith in z)

pub past-second : (w : ℕ) (rows : List ℕ) (i j a b : ℕ) → w ≤ b → allows_of w rows i j a b ≡ false
past-second w rows i j a b l = allows-not w rows i j a b (λ n. let h = n.other_in in let z : ⊥ = omega arith in z)

-- Seen from the higher variable.
pub stored-turned : (w : ℕ) {before after : List ℕ} {i j : ℕ} {f : ℕ → ℕ → Bool} → Stored w before after i j f w → Stored w before after j i (λ (b a : ℕ). f a b) w
stored-turned w {before} {after} {i} {j} s =
    record {
      done = λ b a h k q. allows-alike w after j i b a ∙ s.done a b q q k;
      left = λ b a h. past_first w after j i b a h ∙ sym (past_first w before j i b a h);
      rest = λ x y a b o. s.rest x y a b (record { not_ij = o.not_ji; not_ji = o.not_ij });
      size = s.size;
      words = s.words;
    }

pub stored-cong : (w : ℕ) (before after : List ℕ) {i j : ℕ} {f g : ℕ → ℕ → Bool} (n : ℕ) → Stored w before after i j f n
    → ((a b : ℕ) → a < n → a < w → b < w → f a b ≡ g a b) → Stored w before after i j g n
stored-cong w before after n s h =
    record { done = λ a b l m k. s.done a b l m k ∙ h a b l m k; left = s.left; rest = s.rest; size = s.size; words = s.words }

-- ---- one value after the other

pub stored-none : (w : ℕ) {before : List ℕ} {i j : ℕ} {f : ℕ → ℕ → Bool} → Stored w before before i j f 0
stored-none w =
    record {
      done = λ a b l m k. absurd (let z : ⊥ = omega arith in z);
      left = λ a b l. refl;
      rest = λ x y a b o. refl;
      size = refl;
      words = λ h. h;
    }

pub stored_more : (w : ℕ) (before between after : List ℕ) (i j : ℕ) (f : ℕ → ℕ → Bool) (n x : ℕ) → Stored w before between i j f n
    → RowPut w between after i j n x → ((b : ℕ) → b < w → has x b ≡ f n b) → Stored w before after i j f (suc n)
stored_more w before between after i j f n x s p e =
    record {
      done =
          λ a b l m k. below_suc n a l
          (λ y. rw y (p.put b k ∙ e b k))
          (λ h. p.left a b (λ z. let q : ⊥ = omega arith in q) ∙ s.done a b h m k);
      left = λ a b l. p.left a b (λ z. let q : ⊥ = omega arith in q) ∙ s.left a b (omega arith);
      rest = λ x y a b o. p.rest x y a b o ∙ s.rest x y a b o;
      size = p.size ∙ s.size;
      words = λ h. p.words (s.words h);
    }

-- ---- a row and a column

module _ (w : ℕ) (before : List ℕ) {i j a : ℕ} (x : ℕ) (l : i < j) (m : j < 16) (h : a < w) where
  abbrev one_set : List ℕ
  one_set = set before (slot i j * w + a) x

  at_row : slot i j * w + a < length before → row_at w one_set i j a ≡ x
  unfolding row_at
  at_row q = get_or-set_same before (slot i j * w + a) x 0 q

  off-row : (u v c : ℕ) → (slot u v * w + c ≡ slot i j * w + a → ⊥) → row_at w one_set u v c ≡ row_at w before u v c
  unfolding row_at
  off-row u v c ne = get_or-set_other before (slot i j * w + a) (slot u v * w + c) x 0 ne

  apart : (u v c : ℕ) → u < v → v < 16 → c < w → (u ≡ i → v ≡ j → ⊥) → slot u v * w + c ≡ slot i j * w + a → ⊥
  apart u v c k q d ne e = let s = slot-inj u v i j k q l m (row-inj w (slot u v) c (slot i j) a d h e).0 in ne s.0 s.1

  -- A row stored is the row of one value of the lower variable.
  pub row_put : length before ≡ 120 * w → x < 2 ^ w → RowPut w before one_set i j a x
  row_put e f =
      let at : slot i j * w + a < length before = omega (arith, row_lt w (slot i j) a (placed i j l m).slot_lt h) in
      record {
        put = λ b k. allows-up w one_set i j a b l m h k ∙ ap (λ (r : ℕ). has r b) (at_row at);
        left =
            λ c b ne. allows-same w before one_set i j c b
            (λ _ _ k q. ap (λ (r : ℕ). has r b) (off-row i j c (λ z. ne (row-inj w (slot i j) c (slot i j) a k h z).1)))
            (λ k _ _ _. absurd (let z : ⊥ = omega arith in z));
        rest =
            λ u v c b o. allows-same w before one_set u v c b
            (λ k q d _. ap (λ (r : ℕ). has r b) (off-row u v c (apart u v c k q d o.not_ij)))
            (λ k q _ d. ap (λ (r : ℕ). has r c) (off-row v u b (apart v u b k q d (λ y z. o.not_ji z y))));
        size = length-set before (slot i j * w + a) x;
        words = λ u k. set-lt (2 ^ w) before (slot i j * w + a) x f u k;
      }

-- One bit of each row of a pair, stored: what one value of the higher variable goes with.
module _ (w : ℕ) {before after : List ℕ} {i j a : ℕ} (x : ℕ) (l : j < i) (m : i < 16) (h : a < w)
    (p : RunPut before after (slot j i * w) (λ (b : ℕ). word w (λ (v : ℕ). if (eqb v a) (has x b) (has (get_or before (slot j i * w + b) 0) v))) w) where
  whole_run : Stored w before after j i (λ (b v : ℕ). has (word w (λ (v : ℕ). if (eqb v a) (has x b) (has (get_or before (slot j i * w + b) 0) v))) v) w
  whole_run = run-stored w before after j i w _ l m (omega arith) p (λ b k. word_lt w _)

  bits_are : (c b : ℕ) → c < w → b < w → allows_of w after i j c b ≡ if (eqb c a) (has x b) (has (get_or before (slot j i * w + b) 0) c)
  bits_are c b k q = allows-alike w after i j c b ∙ whole_run.done b c q q k ∙ has_word w _ c k

  column-left : (c b : ℕ) → (c ≡ a → ⊥) → allows_of w after i j c b ≡ allows_of w before i j c b
  unfolding row_at
  column-left c b ne =
      by_cases (ltb c w)
      (λ t. by_cases (ltb b w)
      (λ u. let k = ltb-true c w t in
      let q = ltb-true b w u in
      bits_are c b k q ∙ if-false (eqb c a) _ _ (ne_eqb c a ne) ∙ sym (allows-down w before i j c b l m k q))
      (λ u. past-second w after i j c b (ltb-false b w u) ∙ sym (past-second w before i j c b (ltb-false b w u))))
      (λ t. past_first w after i j c b (ltb-false c w t) ∙ sym (past_first w before i j c b (ltb-false c w t)))

  pub column-put : RowPut w before after i j a x
  column-put =
      record {
        put = λ b k. bits_are a b h k ∙ if-true (eqb a a) _ _ (eq-eqb a a refl);
        left = column-left;
        rest = λ u v c b o. whole_run.rest u v c b (record { not_ij = o.not_ji; not_ji = o.not_ij });
        size = p.size;
        words = whole_run.words;
      }
