-- A pair of leaders that is cut value by value, by whatever tells what goes with each.
use mathlib.Core.Bool.{Bool, true, false}
use mathlib.Core.List.{List}
use mathlib.Core.Path.{◌≡◌, refl, sym, ap, ◌∙◌}
use Prim.Native.Nat.{ℕ, ◌+◌, ◌<◌}
use native.Mathlib.Numerals.{add-one}
use native.Mathlib.Omega.{arith}
use lib.ListN.{length, get_or}
use Rattle.bounded.specs.Bool.{and, implies}
use Rattle.bounded.proofs.Bool.{and_assoc, and-true}
use Rattle.words.specs.Word.{has, word}
use Rattle.words.proofs.Laws.{has_word, has-ruled, has-zero, word-cong}
use Rattle.pairs.specs.Pairs.{allows_of}
use Rattle.pairs.specs.Frames.{RowPut, Stored}
use Rattle.pairs.proofs.Frames.{stored_more}
use Rattle.step_sides.specs.declared.sides.Side.{Side}
use Rattle.step_sides.specs.Sides.{Apart, PartnersIn, reach_at, cut_at}
use Rattle.step_sides.proofs.Cut.{partner-own, free-reach, reach-stays}
use Rattle.step_add.specs.Cut.{cut_by}

-- Whatever was stored: what the pair allows now.
pub now-more : (w : ℕ) {before now after : List ℕ} {i j a x : ℕ} → Stored w before now i j (allows_of w now i j) a → RowPut w now after i j a x
    → Stored w before after i j (allows_of w after i j) (a + 1)
now-more w st p =
    record {
      done = λ a b l m k. refl;
      left = λ a b l. p.left a b (λ z. let q : ⊥ = omega arith in q) ∙ st.left a b (omega arith);
      rest = λ x y a b o. p.rest x y a b o ∙ st.rest x y a b o;
      size = p.size ∙ st.size;
      words = λ h. p.words (st.words h);
    }

outside : (x : Bool) → false ≡ and false x
unfolding and
outside x = refl

anew : (m old : Bool) → m ≡ and true (and m (implies false old))
unfolding and implies
anew m old = sym (and-true m)

again : (m old : Bool) → and m old ≡ and true (and m (implies true old))
unfolding and implies
again m old = refl

-- One value more.
module _ (w : ℕ) {before now after : List ℕ} (s : Side) (q : ℕ) (was : Bool) (told : ℕ → ℕ → Bool) {a row : ℕ}
    (st : Stored w before now s.leader q (cut_by w before s q was told) a) (p : RowPut w now after s.leader q a row) where
  more : ((b : ℕ) → b < w → has row b ≡ cut_by w before s q was told a b) → Stored w before after s.leader q (cut_by w before s q was told) (a + 1)
  more e = rw (add-one a) (stored_more w before now after _ _ _ a row st p e)

  -- A value outside the domain has none,
  pub more-outside : has s.values a ≡ false → row ≡ 0 → Stored w before after s.leader q (cut_by w before s q was told) (a + 1)
  unfolding cut_by
  more-outside d e = more (λ b k. rw (e, d) (has-zero b ∙ outside _))

  module _ {r : ℕ} (d : has s.values a ≡ true) (re : r ≡ word w (told a)) where
    -- another what it is told,
    pub more-unstated : was ≡ false → row ≡ r → Stored w before after s.leader q (cut_by w before s q was told) (a + 1)
    unfolding cut_by
    more-unstated f e = more (λ b k. rw (e, has-ruled w _ re b k, d, f) (anew _ _))

    -- and, where the pair was stated before, of that what it allowed.
    pub more-stated : {old : ℕ} → was ≡ true → old ≡ word w (allows_of w now s.leader q a) → row ≡ word w (λ (u : ℕ). and (has r u) (has old u))
        → Stored w before after s.leader q (cut_by w before s q was told) (a + 1)
    unfolding cut_by
    more-stated f oe e =
        more (λ b k.
        rw (has-ruled w _ e b k, has-ruled w _ re b k, has-ruled w _ oe b k, st.left a b (omega arith), d, f) (again _ _))

-- What a table tells of two leaders.
abbrev pub by_table : ℕ → List ℕ → List ℕ → Side → Side → ℕ → ℕ → Bool
by_table w rows table s t a b = and (has t.values b) (reach_at w rows table s t a b)

module _ (w : ℕ) (rows table : List ℕ) (s t : Side) where
  -- Of two free variables the table's own row;
  pub free-told : (a : ℕ) {r : ℕ} → s.leader ≡ s.named → t.leader ≡ t.named → r ≡ word w (λ (u : ℕ). and (has t.values u) (has (get_or table a 0) u))
      → r ≡ word w (by_table w rows table s t a)
  free-told a se te e = e ∙ word-cong w _ _ (λ b k. ap (and (has t.values b)) (free-reach w rows table s t a se te b))

  pub free-in : s.leader ≡ s.named → PartnersIn w rows table s → (a : ℕ) → has s.values a ≡ true → a < length table
  free-in se h a d = let l = h a d in rw (← partner-own w rows s a se) at l

  -- of others what it reaches while the pair is stored.
  pub led-told : (a : ℕ) {now : List ℕ} {f : ℕ → ℕ → Bool} {n r : ℕ} → Apart s t → Stored w rows now s.leader t.leader f n
      → r ≡ word w (λ (u : ℕ). and (has t.values u) (has (word w (reach_at w now table s t a)) u)) → r ≡ word w (by_table w rows table s t a)
  led-told a A st e =
      e ∙ word-cong w _ _ (λ b k. ap (and (has t.values b)) (has_word w _ b k ∙ reach-stays w A st table a b))

  pub cut-told : (was : Bool) {after : List ℕ} {n : ℕ} → Stored w rows after s.leader t.leader (cut_by w rows s t.leader was (by_table w rows table s t)) n
      → Stored w rows after s.leader t.leader (cut_at w rows table s t was) n
  unfolding cut_by cut_at
  cut-told was st =
      record {
        done = λ a b l m k. st.done a b l m k ∙ (ap (and _) (and_assoc _ _ _) ∙ sym (and_assoc _ _ _));
        left = st.left;
        rest = st.rest;
        size = st.size;
        words = st.words;
      }
