-- What is stored, a domain or a pair, gives the head and rows of the network that it makes.
use mathlib.Core.Bool.{Bool, true, false}
use mathlib.Core.List.{List}
use mathlib.Core.Path.{◌≡◌, refl, sym, ap, ◌∙◌}
use Prim.Native.Nat.{ℕ, ◌^◌, ◌<◌}
use native.Mathlib.Omega.{arith}
use lib.Dec.{eqb}
use lib.ListN.{get_or, set, length-set}
use lib.Seq.{get_or-set_same, get_or-set_other}
use borrow.Author.Tests.{eq-eqb, ne_eqb, eqb-true, eqb-false}
use Rattle.bounded.specs.Array.{Array}
use Rattle.bounded.specs.Bool.{and, or, implies}
use Rattle.bounded.specs.Table.{tabulate}
use Rattle.bounded.proofs.Array.{set-lt}
use Rattle.bounded.proofs.Bool.{by_cases, bool-ext, and_i, and_l, and_r, or_l, or_r, or_elim, clash, if-true, if-false}
use Rattle.bounded.proofs.Fold.{is-or-not}
use Rattle.bounded.proofs.Table.{is-table, get_d_set}
use Rattle.words.specs.Word.{width, has, word}
use Rattle.words.proofs.Laws.{has_word, has-ruled, is_word, word-cong, word_lt}
use Rattle.network.specs.Network.{Network}
use Rattle.network.specs.Step.{relisted}
use Rattle.network.specs.Lists.{narrowed}
use Rattle.network.specs.Added.{cut_pair, constrained}
use Rattle.network.proofs.Lists.{narrowed-i, narrowed-other}
use Rattle.network.proofs.Added.{stated-pq, stated-qp, stated-else, allows-pq, allows-else, now-allows-sym}
use Rattle.pairs.specs.Pairs.{variables, allows_of, rows_of}
use Rattle.pairs.specs.Frames.{Other, Stored}
use Rattle.pairs.proofs.Laws.{allows-alike, rows-rule}
use Rattle.head.specs.declared.Head.{Head}
use Rattle.head.specs.Held.{HeadShaped, RowsShaped, held, head_of, sound_in}
use Rattle.head.proofs.Held.{head-of-held, held-sound}

-- ---- the head

-- One set of an array, stored: the array of a rule that says the same of the others.
set-stored : (l : List ℕ) → Array variables (2 ^ width) l → (f : ℕ → ℕ → Bool) (p x : ℕ) → p < variables → x ≡ word width (f p)
    → ((i : ℕ) → (i ≡ p → ⊥) → (v : ℕ) → v < width → has (get_or l i 0) v ≡ f i v)
    → set l p x ≡ tabulate variables (λ (i : ℕ). word width (f i))
set-stored l A f p x b e others =
    is-table variables _ _ 0 (length-set l p x ∙ A.array_length)
    (λ i _. get_d_set l p i x 0 (omega (arith, A.array_length))
    ∙ by_cases (eqb i p)
    (λ t. if-true _ _ _ t ∙ rw (eqb-true i p t) e)
    (λ t. if-false _ _ _ t ∙ is_word width (get_or l i 0) (f i) (A.element_lt i) (others i (eqb-false i p t))))

-- A member put into a set.
marked : (g f : ℕ → Bool) (q : ℕ) → f q ≡ true → ((v : ℕ) → (v ≡ q → ⊥) → f v ≡ g v) → (v : ℕ) → or (g v) (eqb v q) ≡ f v
marked g f q own others =
    is-or-not q (λ (v : ℕ). or (g v) (eqb v q) ≡ f v)
    (or_r _ _ (eq-eqb q q refl) ∙ sym own)
    (λ v d. rw (ne_eqb v q d) (or-false (g v) ∙ sym (others v d)))
  where
    or-false : (b : Bool) → or b false ≡ b
    or-false b = bool-ext _ _ (λ t. or_elim b false t (λ u. u) (λ u. clash u refl)) (or_l b false)

put_in : (s q : ℕ) (f : ℕ → Bool) {one r : ℕ} → one ≡ word width (λ (u : ℕ). eqb u q) → r ≡ word width (λ (u : ℕ). or (has s u) (has one u))
    → f q ≡ true → ((v : ℕ) → (v ≡ q → ⊥) → f v ≡ has s v) → r ≡ word width f
put_in s q f {one} oe e own others =
    e ∙ word-cong width _ _ (λ v l. ap (or (has s v)) (has-ruled width _ oe v l) ∙ marked (has s) f q own others v)

module _ (h : Head) (rows : List ℕ) (S : HeadShaped h) where
  back : head_of (held h rows) ≡ h
  back = head-of-held h rows S

  -- The domain of p is the one that is stored.
  pub narrowed-head : (p x : ℕ) (r : ℕ → Bool) → p < variables → x ≡ word width (λ (a : ℕ). and ((held h rows).domain p a) (r a))
      → record { n = h.n; sizes = h.sizes; domains = set h.domains p x; leaders = h.leaders; stated = h.stated }
      ≡ head_of (narrowed (held h rows) p r)
  unfolding held head_of narrowed relisted
  narrowed-head p x r b e =
      λ i.
      record {
        n = h.n;
        sizes = sym (ap (λ (g : Head). g.sizes) back) i;
        domains =
            set-stored h.domains S.domains_array (narrowed (held h rows) p r).domain p x b
            (e ∙ word-cong width _ _ (λ a _. sym (narrowed-i (held h rows) p r a)))
            (λ k d v _. sym (narrowed-other (held h rows) p r k v d)) i;
        leaders = sym (ap (λ (g : Head). g.leaders) back) i;
        stated = sym (ap (λ (g : Head). g.stated) back) i;
      }

  -- The two are stated with each other.
  module _ (p q : ℕ) (f : ℕ → ℕ → Bool) {one two u v : ℕ} (bp : p < variables) (bq : q < variables) (d : p ≡ q → ⊥)
      (oe : one ≡ word width (λ (w : ℕ). eqb w q)) (ue : u ≡ word width (λ (w : ℕ). or (has (get_or h.stated p 0) w) (has one w)))
      (te : two ≡ word width (λ (w : ℕ). eqb w p)) (ve : v ≡ word width (λ (w : ℕ). or (has (get_or (set h.stated p u) q 0) w) (has two w))) where
    abbrev M : Network
    M = constrained (held h rows) p q f

    first-set : u ≡ word width (M.stated p)
    unfolding held
    first-set =
        put_in (get_or h.stated p 0) q (M.stated p) oe ue (stated-pq (held h rows) p q f d)
        (λ w n. stated-else (held h rows) p q f d p w (λ _ e. n e) (λ e _. d e))

    set-array : Array variables (2 ^ width) (set h.stated p u)
    set-array =
        record {
          array_length = length-set h.stated p u ∙ S.stated_array.array_length;
          element_lt = set-lt (2 ^ width) h.stated p u (rw first-set (word_lt width (M.stated p))) S.stated_array.element_lt;
        }

    second-set : v ≡ word width (M.stated q)
    unfolding held
    second-set =
        put_in _ p (M.stated q) te ve (stated-qp (held h rows) p q f d)
        (λ w n. stated-else (held h rows) p q f d q w (λ e _. d (sym e)) (λ _ e. n e)
        ∙ ap (λ (x : ℕ). has x w) (sym (get_or-set_other h.stated p q u 0 (λ e. d (sym e)))))

    other-sets : (k : ℕ) → (k ≡ q → ⊥) → (w : ℕ) → w < width → has (get_or (set h.stated p u) k 0) w ≡ M.stated k w
    unfolding held
    other-sets k n w l =
        is-or-not p (λ (k : ℕ). (k ≡ q → ⊥) → has (get_or (set h.stated p u) k 0) w ≡ M.stated k w)
        (λ _. ap (λ (x : ℕ). has x w) (get_or-set_same h.stated p u 0 (omega (arith, S.stated_array.array_length)) ∙ first-set) ∙ has_word width _ w l)
        (λ k m n. ap (λ (x : ℕ). has x w) (get_or-set_other h.stated p k u 0 m)
        ∙ sym (stated-else (held h rows) p q f d k w (λ e _. m e) (λ e _. n e)))
        k n

    pub constrained-head : record { n = h.n; sizes = h.sizes; domains = h.domains; leaders = h.leaders; stated = set (set h.stated p u) q v } ≡ head_of M
    unfolding held head_of constrained
    constrained-head =
        λ i.
        record {
          n = h.n;
          sizes = sym (ap (λ (g : Head). g.sizes) back) i;
          domains = sym (ap (λ (g : Head). g.domains) back) i;
          leaders = sym (ap (λ (g : Head). g.leaders) back) i;
          stated = set-stored (set h.stated p u) set-array M.stated q v bq second-set other-sets i;
        }

-- ---- the rows

-- Two numbers are p, q or q, p, or neither.
pair-or-other : (p q : ℕ) (P : ℕ → ℕ → Type 0) → P p q → P q p → ((u v : ℕ) → Other p q u v → P u v) → (u v : ℕ) → P u v
pair-or-other p q P pq qp rest u v =
    by_cases (and (eqb u p) (eqb v q))
    (λ t. rw (eqb-true u p (and_l _ _ t), eqb-true v q (and_r _ _ t)) pq)
    (λ t. by_cases (and (eqb u q) (eqb v p))
    (λ s. rw (eqb-true u q (and_l _ _ s), eqb-true v p (and_r _ _ s)) qp)
    (λ s. rest u v (record { not_ij = neither p q t; not_ji = neither q p s })))
  where
    neither : (p q : ℕ) → and (eqb u p) (eqb v q) ≡ false → u ≡ p → v ≡ q → ⊥
    neither p q t e f = clash (and_i _ _ (eq-eqb u p e) (eq-eqb v q f)) t

-- The pair stored, seen from either side, and every other pair are as the network says.
module _ (h : Head) (rows : List ℕ) {after : List ℕ} (S : HeadShaped h) (t : sound_in h rows ≡ true) (R : RowsShaped rows)
    {p q : ℕ} (d : p ≡ q → ⊥) (f : ℕ → ℕ → Bool) {g : ℕ → ℕ → Bool} (st : Stored width rows after p q g width)
    (g-is : (a b : ℕ) → g a b ≡ cut_pair (held h rows) p q f a b (implies ((held h rows).stated p q) ((held h rows).allows p q a b))) where
  pub constrained-rows : after ≡ rows_of width (constrained (held h rows) p q f).allows
  unfolding held
  constrained-rows =
      rows-rule width _ after (st.size ∙ R.array_length) (st.words R.element_lt)
      (λ i j a b _ _ k m. stored i j a b k m)
    where
      pq : (a b : ℕ) → a < width → b < width → allows_of width after p q a b ≡ (constrained (held h rows) p q f).allows p q a b
      pq a b k m = st.done a b k k m ∙ g-is a b ∙ sym (allows-pq (held h rows) p q f d a b)

      stored : (i j a b : ℕ) → a < width → b < width → allows_of width after i j a b ≡ (constrained (held h rows) p q f).allows i j a b
      stored i j =
          pair-or-other p q (λ (i j : ℕ). (a b : ℕ) → a < width → b < width → allows_of width after i j a b ≡ (constrained (held h rows) p q f).allows i j a b)
          pq
          (λ a b k m. allows-alike width after q p a b ∙ pq b a m k ∙ now-allows-sym (held h rows) p q f d (held-sound h rows S t) p q b a)
          (λ u v o a b _ _. st.rest u v a b o ∙ sym (allows-else (held h rows) p q f d u v a b o.not_ij o.not_ji))
          i j
