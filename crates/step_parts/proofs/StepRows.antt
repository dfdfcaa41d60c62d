-- Rule 2 on the rows: one more third variable, and all of them.
use mathlib.Core.Bool.{Bool, true, false}
use mathlib.Core.List.{List}
use mathlib.Core.Path.{◌≡◌, refl, sym, ap, subst, fun_ext, ◌∙◌}
use Prim.Native.Nat.{ℕ, ◌<◌}
use Rattle.bounded.specs.Bool.{and, not}
use Rattle.bounded.proofs.Bool.{clash, not-true→false, not-i, not-e, and_i, and_l, and_r, and-true}
use Rattle.bounded.proofs.Fold.{is-or-not}
use Rattle.network.specs.Pairs.{Stays}
use Rattle.pairs.specs.Pairs.{variables, allows_of}
use Rattle.pairs.specs.Frames.{Cleared, Other}
use Rattle.step_compose.specs.declared.Third.{Third}
use Rattle.step_compose.specs.Compose.{composed_at, Apart, Unread, Composing}
use Rattle.words.specs.Word.{has}
use Rattle.words.proofs.Laws.{has-zero}
use Rattle.step_parts.specs.StepParts.{composition, made_at, MovedRows}
use Rattle.step_parts.proofs.Thirds.{Taken}

-- k is a third variable that has been taken.
unfoldable pub done : ℕ → ℕ → ℕ → Bool
done thirds rest k = and (has thirds k) (not (has rest k))

-- Before the first turn nothing has moved,
pub none-moved : (w : ℕ) {rows : List ℕ} {i j : ℕ} (thirds : ℕ) {made : ℕ → ℕ → ℕ → Bool} → MovedRows w rows rows i j (done thirds thirds) made
unfolding done
none-moved w thirds =
    record {
      made_ik = λ k a c t _ _. none k t;
      gone_jk = λ k b c t _ _. none k t;
      kept = λ x y a b s. refl;
      same_length = refl;
      words = λ g. g;
    }
  where
    none : {A : Type 0} (k : ℕ) → and (has thirds k) (not (has thirds k)) ≡ true → A
    none k t = clash (and_l _ _ t) (not-e _ (and_r _ _ t))

-- and after the last all third variables have.
pub all_moved : (w : ℕ) {before after : List ℕ} {i j : ℕ} (thirds : ℕ) {rest : ℕ} {made : ℕ → ℕ → ℕ → Bool} → rest ≡ 0
    → MovedRows w before after i j (done thirds rest) made → MovedRows w before after i j (has thirds) made
unfolding done not
all_moved w {before} {after} {i} {j} thirds {rest} {made} z m =
    subst (λ (T : ℕ → Bool). MovedRows w before after i j T made) (fun_ext λ k. rw (z, has-zero k) (and-true (has thirds k))) m

-- What rule 2 reads for a third variable k whose turn is to come is as before the step: the variables before it have touched other pairs.
pub third-unread : (w : ℕ) {given before : List ℕ} (t : Third) {T : ℕ → Bool} {made : ℕ → ℕ → ℕ → Bool}
    → T t.i ≡ false → T t.j ≡ false → T t.k ≡ false → MovedRows w given before t.i t.j T made → Unread w given before t
third-unread w {given} {before} t {T} ti tj tk m =
    record {
      same_ij = λ a b. m.kept t.i t.j a b (stays t.i t.j ti tj);
      same_jk = λ b c. m.kept t.j t.k b c (stays t.j t.k tj tk);
      same_ik = λ a c. m.kept t.i t.k a c (stays t.i t.k ti tk);
    }
  where
    stays : (x y : ℕ) → T x ≡ false → T y ≡ false → Stays t.i t.j T x y
    stays x y p q = record { left_i = λ e. q; right_i = λ e. p; left_j = λ e. q; right_j = λ e. p }

-- One more, k: the pair i, k is composed and the pair j, k emptied.
module _ (w : ℕ) (before mid late after : List ℕ) (t : Third) (T W : ℕ → Bool) (made : ℕ → ℕ → ℕ → Bool) (apart : Apart t)
    (own : W t.k ≡ true) (Tk : T t.k ≡ false)
    (split : (x : ℕ) → (x ≡ t.k → ⊥) → W x ≡ T x)
    (is : (a c : ℕ) → composed_at w before t a c ≡ made t.k a c)
    (m : MovedRows w before mid t.i t.j T made) (composed : Composing w before mid late t w) (cleared : Cleared w late after t.j t.k) where
  fewer : (x : ℕ) → W x ≡ false → T x ≡ false
  fewer x f = is-or-not t.k (λ (y : ℕ). W y ≡ false → T y ≡ false) (λ _. Tk) (λ y d g. sym (split y d) ∙ g) x f

  -- A pair of i is another than j, k.
  i-apart : (y : ℕ) → Other t.j t.k t.i y
  i-apart y = record { not_ij = λ q _. apart.i_not_j q; not_ji = λ q _. apart.k_not_i (sym q) }

  pub one-moved : MovedRows w before after t.i t.j W made
  one-moved =
      record {
        made_ik =
            λ x a c h la lc. is-or-not t.k (λ (y : ℕ). W y ≡ true → allows_of w after t.i y a c ≡ made y a c)
            (λ _. cleared.rest t.i t.k a c (i-apart t.k) ∙ composed.done a c lc la lc ∙ is a c)
            (λ y d u. cleared.rest t.i y a c (i-apart y)
            ∙ composed.rest t.i y a c (record { not_ij = λ _ q. d q; not_ji = λ q _. apart.k_not_i (sym q) })
            ∙ m.made_ik y a c (sym (split y d) ∙ u) la lc)
            x h;
        gone_jk =
            λ x b c h lb lc. is-or-not t.k (λ (y : ℕ). W y ≡ true → allows_of w after t.j y b c ≡ false)
            (λ _. cleared.done b c lb lb lc)
            (λ y d u. cleared.rest t.j y b c (record { not_ij = λ _ q. d q; not_ji = λ q _. apart.j_not_k q })
            ∙ composed.rest t.j y b c (record { not_ij = λ q _. apart.i_not_j (sym q); not_ji = λ q _. apart.j_not_k q })
            ∙ m.gone_jk y b c (sym (split y d) ∙ u) lb lc)
            x h;
        kept =
            λ x y a b s.
            cleared.rest x y a b (record { not_ij = λ p q. out y q (s.left_j p); not_ji = λ p q. out x p (s.right_j q) })
            ∙ composed.rest x y a b (record { not_ij = λ p q. out y q (s.left_i p); not_ji = λ p q. out x p (s.right_i q) })
            ∙ m.kept x y a b
            (record { left_i = λ e. fewer y (s.left_i e); right_i = λ e. fewer x (s.right_i e); left_j = λ e. fewer y (s.left_j e); right_j = λ e. fewer x (s.right_j e) });
        same_length = cleared.size ∙ composed.size ∙ m.same_length;
        words = λ g. cleared.words (composed.words (m.words g));
      }
    where
      out : (x : ℕ) → x ≡ t.k → W x ≡ false → ⊥
      out x e f = clash own (ap W (sym e) ∙ f)

-- A third variable is neither i nor j.
third-apart : (thirds k p : ℕ) → has thirds k ≡ true → has thirds p ≡ false → k ≡ p → ⊥
third-apart thirds k p t n e = clash t (ap (has thirds) e ∙ n)

pub all_apart : (t : Third) (thirds : ℕ) → t.i < variables → t.j < variables → (t.i ≡ t.j → ⊥) → has thirds t.i ≡ false → has thirds t.j ≡ false
    → (t.k < variables) × (has thirds t.k ≡ true) → Apart t
all_apart t thirds li lj d ni nj f =
    record {
      i_in = li;
      j_in = lj;
      k_in = f.0;
      i_not_j = d;
      j_not_k = λ q. third-apart thirds t.k t.j f.1 nj (sym q);
      k_not_i = third-apart thirds t.k t.i f.1 ni;
    }

-- A turn of the loop.
pub next-moved : (w : ℕ) {before mid late after : List ℕ} (domains : List ℕ) (others : ℕ) {thirds rest rest' i j : ℕ} (ti : ℕ) {k : ℕ} {was : Bool}
    → Apart (composition domains i j ti k was) → has thirds i ≡ false → has thirds j ≡ false → Taken w thirds rest rest' k → was ≡ has others k
    → MovedRows w before mid i j (done thirds rest) (made_at w before domains others i j ti)
    → ((given : List ℕ) → Unread w given mid (composition domains i j ti k was) → Composing w given mid late (composition domains i j ti k was) w)
    → Cleared w late after j k
    → MovedRows w before after i j (done thirds rest') (made_at w before domains others i j ti)
unfolding done made_at
next-moved w {before} {mid} {late} {after} domains others {thirds} {rest} {rest'} {i} {j} ti {k} {was} apart ni nj t e m composed cleared =
    let ti' = not-true→false _ (λ q. clash (and_l _ _ q) ni) in
    let tj' = not-true→false _ (λ q. clash (and_l _ _ q) nj) in
    let tk' = not-true→false _ (λ q. clash t.in_rest (not-e _ (and_r _ _ q))) in
    one-moved w before mid late after _ _ _ _ apart
    (and_i _ _ t.is_third (not-i _ t.gone))
    tk'
    (λ x p. ap (λ (b : Bool). and (has thirds x) (not b)) (t.others x p))
    (λ a c. ap (λ (b : Bool). composed_at w before (composition domains i j ti k b) a c) e)
    m (composed before (third-unread w _ ti' tj' tk' m)) cleared
