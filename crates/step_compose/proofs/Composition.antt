-- Rules 1 and 2 on what an array of rows allows, for any number w of values.
use mathlib.Core.Bool.{Bool, true, false}
use mathlib.Core.List.{List}
use mathlib.Core.Path.{◌≡◌, refl, sym, ap, ap₂, ◌∙◌}
use Prim.Native.Nat.{ℕ, suc, ◌<◌}
use native.Mathlib.Omega.{arith}
use lib.Pow.{pow_pos}
use Rattle.bounded.specs.Bool.{and, implies}
use Rattle.bounded.specs.Fold.{some}
use Rattle.bounded.proofs.Bool.{and_assoc, and_comm, and-true, and-false, and-fails}
use Rattle.bounded.proofs.Fold.{below_suc, some-cong}
use Rattle.words.specs.Word.{has, word}
use Rattle.words.proofs.Laws.{has-zero, has-ruled, is_word, word-cong}
use Rattle.pairs.specs.Pairs.{allows_of, partners_of}
use Rattle.pairs.specs.Frames.{RowPut}
use Rattle.pairs.proofs.Laws.{allows-alike}
use Rattle.step_compose.specs.Compose.{supported_at, composed_at, Apart, Unread, Composing}
use Rattle.step_compose.specs.declared.Third.{Third}

-- Rule 1: a value that has a partner is a partner.
pub supported-is : (w : ℕ) (rows : List ℕ) (i j di dj : ℕ) {found r : ℕ} → found ≡ partners_of w rows j i dj
    → r ≡ word w (λ (u : ℕ). and (has di u) (has found u)) → r ≡ supported_at w rows i j di dj
unfolding supported_at partners_of
supported-is w rows i j di dj e f =
    f ∙ word-cong w _ _ (λ a l. ap (and (has di a)) (has-ruled w _ e a l
    ∙ some-cong w _ _ (λ b m. ap (and (has dj b)) (allows-alike w rows j i b a))))

-- ---- rule 2 for one value

free-made : (d s v : Bool) → and d s ≡ and (and d true) (and s (implies false v))
unfolding implies
free-made d s v = ap₂ and (sym (and-true d)) (sym (and-true s))

stated-made : (d s v : Bool) → and (and d s) v ≡ and (and d true) (and s (implies true v))
unfolding implies
stated-made d s v = and_assoc d s v ∙ ap (λ (x : Bool). and x (and s v)) (sym (and-true d))

module _ (w : ℕ) (rows : List ℕ) (t : Third) (c : ℕ) where
  -- A value outside its domain goes with none.
  pub made_none : has t.dk c ≡ false → 0 ≡ word w (λ (a : ℕ). composed_at w rows t a c)
  unfolding composed_at
  made_none f = is_word w 0 _ (pow_pos w) (λ a l. has-zero a ∙ sym (and-fails _ _ (rw f (and-false (has t.ti a)))))

  -- A value in its domain goes with the partners of its partners.
  module _ {row both reached made : ℕ} (in-k : has t.dk c ≡ true)
      (re : row ≡ word w (allows_of w rows t.k t.j c))
      (be : both ≡ word w (λ (u : ℕ). and (has t.dj u) (has row u)))
      (pe : reached ≡ partners_of w rows t.j t.i both)
      (me : made ≡ word w (λ (u : ℕ). and (has t.ti u) (has reached u))) where
    joins : (a : ℕ) → a < w
        → has reached a ≡ some w (λ (b : ℕ). and (has t.dj b) (and (allows_of w rows t.i t.j a b) (allows_of w rows t.j t.k b c)))
    unfolding partners_of
    joins a l =
        has-ruled w _ pe a l ∙ some-cong w _ _ (λ b m.
        ap (λ (n : Bool). and n (allows_of w rows t.j t.i b a)) (has-ruled w _ be b m ∙ ap (and (has t.dj b)) (has-ruled w _ re b m))
        ∙ and_assoc _ _ _
        ∙ ap (and (has t.dj b)) (and_comm _ _ ∙ ap₂ and (allows-alike w rows t.j t.i b a) (allows-alike w rows t.k t.j c b)))

    pub made-free : t.was ≡ false → made ≡ word w (λ (a : ℕ). composed_at w rows t a c)
    unfolding composed_at
    made-free f = me ∙ word-cong w _ _ (λ a l. rw (joins a l, in-k, f) (free-made _ _ _))

    -- Where the pair was stated before, the two are combined.
    pub made-stated : {before r : ℕ} → t.was ≡ true → before ≡ word w (allows_of w rows t.k t.i c)
        → r ≡ word w (λ (u : ℕ). and (has made u) (has before u))
        → r ≡ word w (λ (a : ℕ). composed_at w rows t a c)
    unfolding composed_at
    made-stated {before} f e q =
        q ∙ word-cong w _ _ (λ a l.
        rw (has-ruled w _ me a l, joins a l, has-ruled w _ e a l, allows-alike w rows t.k t.i c a, in-k, f) (stated-made _ _ _))

-- ---- rule 2 for all values

-- What rule 2 says is told by the three pairs that it reads.
composed-cong : (w : ℕ) (rows rows' : List ℕ) (t : Third) (a c : ℕ)
    → ((b : ℕ) → allows_of w rows t.i t.j a b ≡ allows_of w rows' t.i t.j a b)
    → ((b : ℕ) → allows_of w rows t.j t.k b c ≡ allows_of w rows' t.j t.k b c)
    → allows_of w rows t.i t.k a c ≡ allows_of w rows' t.i t.k a c
    → composed_at w rows t a c ≡ composed_at w rows' t a c
unfolding composed_at
composed-cong w rows rows' t a c e f g =
    ap (and (and (has t.ti a) (has t.dk c)))
    (ap₂ and (some-cong w _ _ (λ b l. ap (and (has t.dj b)) (ap₂ and (e b) (f b)))) (ap (implies t.was) g))

-- The first value is still to come,
pub composing-none : {w : ℕ} {given before : List ℕ} {t : Third} → Unread w given before t → Composing w given before before t 0
composing-none {w} {before} {t} u =
    record {
      done = λ a c l _ _. absurd (let x : ⊥ = omega arith in x);
      left = λ a c _. u.same_ik a c;
      alike = λ a c. allows-alike w before t.k t.i c a;
      rest = λ x y a b o. refl;
      size = refl;
      words = λ g. g;
    }

-- and one more is done. What it is made of is as before the step: its own value is still to come, and the rows of the other pairs are never touched.
module _ {w : ℕ} {given before now after : List ℕ} {t : Third} {c members : ℕ} (apart : Apart t) (u : Unread w given before t)
    (s : Composing w given before now t c)
    (e : members ≡ word w (λ (a : ℕ). composed_at w now t a c))
    (p : RowPut w now after t.k t.i c members) where
  value_made : (a : ℕ) → a < w → has members a ≡ composed_at w given t a c
  value_made a l =
      has-ruled w _ e a l
      ∙ composed-cong w now given t a c
      (λ b. s.rest t.i t.j a b (record { not_ij = λ _ q. apart.j_not_k q; not_ji = λ _ q. apart.i_not_j (sym q) }) ∙ u.same_ij a b)
      (λ b. s.rest t.j t.k b c (record { not_ij = λ q _. apart.i_not_j (sym q); not_ji = λ q _. apart.j_not_k q }) ∙ u.same_jk b c)
      (s.left a c (omega arith))

  other-value : (a v : ℕ) → (v ≡ c → ⊥) → allows_of w after t.i t.k a v ≡ allows_of w now t.i t.k a v
  other-value a v ne = allows-alike w after t.i t.k a v ∙ p.left v a ne ∙ allows-alike w now t.k t.i v a

  pub composing-more : Composing w given before after t (suc c)
  composing-more =
      record {
        done =
            λ a v l m h. below_suc c v l
            (λ y. rw y (allows-alike w after t.i t.k a c ∙ p.put a m ∙ value_made a m))
            (λ b. other-value a v (λ z. let x : ⊥ = omega arith in x) ∙ s.done a v b m h);
        left = λ a v l. other-value a v (λ z. let x : ⊥ = omega arith in x) ∙ s.left a v (omega arith);
        alike = λ a v. allows-alike w after t.k t.i v a;
        rest = λ x y a b o. p.rest x y a b (record { not_ij = o.not_ji; not_ji = o.not_ij }) ∙ s.rest x y a b o;
        size = p.size ∙ s.size;
        words = λ g. p.words (s.words g);
      }
