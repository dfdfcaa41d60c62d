-- The domains that a value narrows, one turn for each of the variables in a word.
use mathlib.Core.Bool.{Bool, true, false, ◌||◌, not as flip}
use mathlib.Core.List.{List}
use mathlib.Core.Path.{◌≡◌, refl, sym, ap, ◌∙◌}
use Prim.Native.Nat.{ℕ, ◌^◌, ◌<◌}
use native.Mathlib.Omega.{arith}
use lib.Dec.{eqb}
use lib.ListN.{length, get_or, set, length-set}
use lib.Seq.{get_or-set_same, get_or-set_other}
use borrow.Author.Tests.{eqb-true, eq-eqb, ne_eqb}
use Rattle.bounded.specs.Bool.{and, implies, not, if}
use Rattle.bounded.specs.Fold.{first}
use Rattle.bounded.proofs.Bool.{by_cases, clash, bool-ext, implies_true, implies-false, and_i, and_l, and-true, and-false, not-i, not-false-i, if-true, if-false}
use Rattle.bounded.proofs.Fold.{is-or-not}
use Rattle.words.specs.Word.{has, word}
use Rattle.words.proofs.Laws.{has-zero, has-ruled, has_all, has-below, word-cong}
use Rattle.pairs.specs.Pairs.{allows_of}
use Rattle.pairs.proofs.Frames.{past-second}
use Rattle.pairs.proofs.Runs.{Within, lowest-in, rest-is, rest_lt, rest-within}
use Rattle.search_narrow.specs.Narrow.{cut_by, Narrowed}

apart : (b : Bool) → and b (not b) ≡ false
unfolding and not
apart true = refl
apart false = refl

neither : (a b : Bool) → a || flip b ≡ false → (a ≡ false) × (b ≡ true)
neither true b h = clash refl h
neither false true h = (refl, refl)
neither false false h = clash refl h

-- The domain of j once k has taken the value v, cut or not.
unfoldable pub cut_where : ℕ → List ℕ → List ℕ → ℕ → ℕ → Bool → ℕ → ℕ
cut_where w rows domains k v b j = if b (cut_by w rows k v j (get_or domains j 0)) (get_or domains j 0)

as_before : (w : ℕ) (rows domains : List ℕ) (k v : ℕ) (b : Bool) (j : ℕ) → b ≡ false → cut_where w rows domains k v b j ≡ get_or domains j 0
unfolding cut_where
as_before w rows domains k v b j t = if-false _ _ _ t

-- The values that the row of v allows are what it leaves of the domain.
pub row-cut : (w : ℕ) (rows : List ℕ) (k v j domain : ℕ) {row x : ℕ} → row ≡ word w (allows_of w rows k j v)
    → x ≡ word w (λ (u : ℕ). and (has domain u) (has row u)) → x ≡ cut_by w rows k v j domain
unfolding cut_by
row-cut w rows k v j domain re xe = xe ∙ word-cong w _ _ (λ u l. ap (and (has domain u)) (has-ruled w _ re u l))

-- The rest are some of those that are to be cut.
pub record Rest (w among rest : ℕ) : Type 0 where
  pub rest_fits : rest < 2 ^ w
  pub rest_in : Within rest among

pub rest_all : (w among rest : ℕ) → rest ≡ among → among < 2 ^ w → Rest w among rest
rest_all w among rest e f = rw e record { rest_fits = f; rest_in = λ j t. t }

pub rest_next : (w : ℕ) {among rest j : ℕ} → Rest w among rest → (rest ≡ 0 → ⊥) → j ≡ first w (has rest) → has among j ≡ true
rest_next w {rest = rest} {j = j} R more low = R.rest_in j (lowest-in w rest j R.rest_fits more low).1

pub rest_fewer : (w : ℕ) {among rest j : ℕ} → Rest w among rest → (rest ≡ 0 → ⊥) → j ≡ first w (has rest)
    → {rest' : ℕ} → rest' ≡ word w (λ (u : ℕ). and (has rest u) (not (eqb u (first w (has rest))))) → Rest w among rest'
rest_fewer w {among} R more low se =
    record { rest_fits = rest_lt w R.rest_fits more low se; rest_in = rest-within w R.rest_fits more low se among R.rest_in }

-- In the midst of the loop: the rest are still to be cut.
pub record Narrowing (w : ℕ) (rows domains : List ℕ) (among k v : ℕ) (after : List ℕ) (changed : Bool) (rest : ℕ) : Type 0 where
  pub whole : length after ≡ length domains
  pub narrowed : (j : ℕ) → get_or after j 0 ≡ cut_where w rows domains k v (and (has among j) (not (has rest j))) j
  pub unchanged : changed ≡ false → (j : ℕ) → get_or after j 0 ≡ get_or domains j 0

module _ {w : ℕ} {rows domains : List ℕ} {among k v : ℕ} where
  pub narrowing_none : {changed : Bool} {rest : ℕ} → rest ≡ among → Narrowing w rows domains among k v domains changed rest
  narrowing_none e =
      rw e record {
        whole = refl;
        narrowed = λ j. sym (as_before w rows domains k v _ j (apart (has among j)));
        unchanged = λ _ j. refl;
      }

  pub narrowing-end : {after : List ℕ} {changed : Bool} {rest : ℕ} → Narrowing w rows domains among k v after changed rest → rest ≡ 0
      → Narrowed w rows among k v changed domains after
  unfolding cut_where
  narrowing-end R z =
      record {
        whole = R.whole;
        narrowed = λ j. R.narrowed j
            ∙ ap (λ (b : Bool). cut_where w rows domains k v b j) (rw (z, has-zero j) (ap (and (has among j)) (not-i false refl) ∙ and-true _));
        unchanged = R.unchanged;
      }

  module _ {after : List ℕ} {changed : Bool} {rest : ℕ} (F : Rest w among rest) (R : Narrowing w rows domains among k v after changed rest) (more : rest ≡ 0 → ⊥)
      {j : ℕ} (low : j ≡ first w (has rest)) (inside : j < length domains)
      {domain : ℕ} (de : domain ≡ cut_by w rows k v j (get_or after j 0))
      {rest' : ℕ} (se : rest' ≡ word w (λ (u : ℕ). and (has rest u) (not (eqb u (first w (has rest)))))) where
    next : (j < w) × (has rest j ≡ true)
    next = lowest-in w rest j F.rest_fits more low

    -- The rest is as it was, but for j.
    rest-here : has rest' j ≡ false
    rest-here =
        rest-is w F.rest_fits more low se j next.0
        ∙ ap (and (has rest j)) (not-false-i _ (eq-eqb j j refl))
        ∙ and-false _

    rest-there : (i : ℕ) → (i ≡ j → ⊥) → has rest' i ≡ has rest i
    rest-there i d =
        let is = rest-is w F.rest_fits more low se i in
        bool-ext _ _
        (λ t. and_l _ _ (sym (is (has-below w rest' i t (rest_lt w F.rest_fits more low se))) ∙ t))
        (λ t. is (has-below w rest i t F.rest_fits) ∙ and_i _ _ t (not-i _ (ne_eqb i j d)))

    -- j was not cut before, and is now.
    uncut : get_or after j 0 ≡ get_or domains j 0
    uncut = R.narrowed j ∙ as_before w rows domains k v _ j (ap (and (has among j)) (not-false-i _ next.1) ∙ and-false _)

    cut : domain ≡ cut_where w rows domains k v (and (has among j) (not (has rest' j))) j
    unfolding cut_where
    cut = de ∙ ap (cut_by w rows k v j) uncut ∙ sym (if-true _ _ _ (and_i _ _ (F.rest_in j next.1) (not-i _ rest-here)))

    pub narrowing-more : Narrowing w rows domains among k v (set after j domain) (changed || flip (eqb domain (get_or after j 0))) rest'
    narrowing-more =
        let here : get_or (set after j domain) j 0 ≡ domain = get_or-set_same after j domain 0 (omega (arith, R.whole)) in
        record {
          whole = length-set after j domain ∙ R.whole;
          narrowed = is-or-not j _
              (here ∙ cut)
              (λ i d. get_or-set_other after j i domain 0 d
              ∙ R.narrowed i
              ∙ ap (λ (b : Bool). cut_where w rows domains k v (and (has among i) (not b)) i) (sym (rest-there i d)));
          unchanged = λ t. is-or-not j _
              (here ∙ eqb-true _ _ (neither changed (eqb domain (get_or after j 0)) t).1 ∙ uncut)
              (λ i d. get_or-set_other after j i domain 0 d ∙ R.unchanged (neither changed (eqb domain (get_or after j 0)) t).0 i);
        }

-- What a narrowed list still has.
pub narrowed-has : {w : ℕ} {rows : List ℕ} {among k v : ℕ} {changed : Bool} {before after : List ℕ} → Narrowed w rows among k v changed before after
    → (j u : ℕ) → has (get_or after j 0) u ≡ and (has (get_or before j 0) u) (implies (has among j) (allows_of w rows k j v u))
unfolding cut_by
narrowed-has {w} {rows} {among} {k} {v} R j u =
    ap (λ (x : ℕ). has x u) (R.narrowed j)
    ∙ by_cases (has among j)
    (λ s. ap (λ (x : ℕ). has x u) (if-true _ _ _ s)
    ∙ has_all w _ u (λ l. ap (and _) (past-second w rows k j v u l) ∙ and-false _)
    ∙ ap (and _) (sym (implies_true _ _ s)))
    (λ s. ap (λ (x : ℕ). has x u) (if-false _ _ _ s) ∙ sym (ap (and _) (implies-false _ _ s) ∙ and-true _))

-- Whether there was a change need not be said.
pub narrowed_any : {w : ℕ} {rows : List ℕ} {among k v : ℕ} {changed : Bool} {before after : List ℕ} → Narrowed w rows among k v changed before after
    → Narrowed w rows among k v true before after
narrowed_any R = record { whole = R.whole; narrowed = R.narrowed; unchanged = λ t. clash refl t }
