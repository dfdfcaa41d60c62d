-- The turns of the search on lent arrays: each way through the code has its law of the network's turns.
use mathlib.Core.Bool.{Bool, true, false}
use mathlib.Core.List.{List}
use mathlib.Core.Path.{◌≡◌, refl, sym, ap, ap₂, ◌∙◌}
use Prim.Native.Nat.{ℕ, zero, suc, ◌+◌, ◌-◌, ◌^◌, ◌≤◌, ◌<◌}
use native.Mathlib.Omega.{arith}
use lib.Dec.{eqb}
use lib.ListN.{length, get_or, set}
use lib.Seq.{get_or-set_same, get_or-set_other}
use borrow.Author.Tests.{ne_eqb, lt-ltb, ltb-true, le-leb, leb-true}
use Rattle.bounded.specs.Bool.{and, not, implies}
use Rattle.bounded.specs.Fold.{first}
use Rattle.bounded.proofs.Bool.{clash, bool-ext, not-true→false, and_i, and_l, and_r, and-true, and-fails, not-i}
use Rattle.bounded.proofs.Fold.{first_below}
use Rattle.words.specs.Word.{has, word}
use Rattle.words.proofs.Laws.{has_word, has-past, has-below, has_all, has-zero}
use Rattle.network.specs.Network.{Network, free}
use Rattle.network.specs.Turns.{FirstFrom, Narrows}
use Rattle.network.proofs.Turns.{first-end, first-skip, first-none, first-hit, first-miss, first-stuck}
use Rattle.pairs.proofs.Runs.{lowest-in, rest-is}
use Rattle.search_narrow.specs.Narrow.{listed, untried, Narrowed}
use Rattle.search_narrow.proofs.Members.{above-lowest, untried-here, untried-there, all-untried}
use Rattle.search_narrow.proofs.Narrowing.{narrowed-has}
use Rattle.search.specs.Turns.{to_choose, Left, Chooses}

-- ---- the variables to be chosen

module _ (N : Network) where
  to-choose-i : (k i : ℕ) → k ≤ i → i < N.n → free N i ≡ true → to_choose N k i ≡ true
  unfolding to_choose
  to-choose-i k i a l t = and_i _ _ (le-leb k i a) (and_i _ _ (lt-ltb i N.n l) t)

  to-choose-e : (k i : ℕ) → to_choose N k i ≡ true → (k ≤ i) × (i < N.n) × (free N i ≡ true)
  unfolding to_choose
  to-choose-e k i h = (leb-true k i (and_l _ _ h), ltb-true i N.n (and_l _ _ (and_r _ _ h)), and_r _ _ (and_r _ _ h))

  -- Fewer are to be chosen from a later one on.
  fewer : (k m i : ℕ) → k ≤ m → to_choose N k i ≡ false → to_choose N m i ≡ false
  fewer k m i l h =
      not-true→false _ (λ t. let e = to-choose-e m i t in clash (to-choose-i k i (omega (arith, e.0)) e.1 e.2) h)

  led : (k i : ℕ) → k ≤ i → i < N.n → to_choose N k i ≡ false → free N i ≡ false
  led k i a l h = not-true→false _ (λ t. clash (to-choose-i k i a l t) h)

  -- Where none is to be chosen before k + d, the first choice from there on is the first choice from k on.
  first_past : (D : ℕ → ℕ → Bool) (b : Bool) (f : ℕ → ℕ) (d k m : ℕ) → m ≡ k + d
      → ((i : ℕ) → k ≤ i → i < m → free N i ≡ false) → FirstFrom N D m b f → FirstFrom N D k b f
  first_past D b f zero k m e h p = let q : k ≡ m = omega arith in rw q p
  first_past D b f (suc d) k m e h p =
      first-skip N D k (h k (omega arith) (omega arith)) b f (first_past D b f d (k + 1) m (omega arith) (λ i a. h i (omega arith)) p)

-- ---- choosing a variable

module _ {w : ℕ} {N : Network} {stated rows : List ℕ} {k left : ℕ} (L : Left w N stated rows k left) where
  not_left : (i : ℕ) → has left i ≡ false → to_choose N k i ≡ false
  not_left i h = sym (L.left_are i) ∙ h

  -- None is left.
  pub chosen-end : {D : ℕ → ℕ → Bool} {values : List ℕ} → left ≡ 0 → Chooses N D k true values values
  chosen-end {D} e =
      let none : (i : ℕ) → to_choose N k i ≡ false = λ i. not_left i (rw (e, has-zero i)) in
      record {
        first_from = first_past N D _ _ (N.n - k) k N.n (omega (arith, L.from_n)) (λ i a l. led N k i a l (none i)) (first-end N D N.n _ _ refl refl);
        others = λ i _. refl;
      }

  -- The next one is m.
  module _ (fits : left < 2 ^ w) (more : left ≡ 0 → ⊥) {m : ℕ} (low : m ≡ first w (has left))
      {left' : ℕ} (le : left' ≡ word w (λ (u : ℕ). and (has left u) (not (eqb u (first w (has left)))))) where
    next : (k ≤ m) × (m < N.n) × (free N m ≡ true)
    next = to-choose-e N k m (sym (L.left_are m) ∙ (lowest-in w left m fits more low).1)

    chosen-left : Left w N stated rows (m + 1) left'
    chosen-left =
        record {
          from_n = omega (arith, next.1);
          stated_are = L.stated_are;
          allows_are = L.allows_are;
          left_are = λ i. bool-ext _ _ (down i) (up i);
        }
      where
        down : (i : ℕ) → has left' i ≡ true → to_choose N (m + 1) i ≡ true
        down i t =
            let q = above-lowest w left left' m fits more low le i t in
            let e = to-choose-e N k i (sym (L.left_are i) ∙ q.0) in
            to-choose-i N (m + 1) i (omega (arith, q.1)) e.1 e.2

        up : (i : ℕ) → to_choose N (m + 1) i ≡ true → has left' i ≡ true
        up i t =
            let e = to-choose-e N (m + 1) i t in
            let h = L.left_are i ∙ to-choose-i N k i (omega (arith, e.0, next.0)) e.1 e.2 in
            rest-is w fits more low le i (has-below w left i h fits)
            ∙ and_i _ _ h (not-i _ (ne_eqb i m (λ q. let x : ⊥ = omega (arith, e.0) in x)))

    -- What is chosen from m on is chosen from k on.
    pub chosen-next : (domains : List ℕ) {b : Bool} {before after : List ℕ}
        → (Left w N stated rows (m + 1) left' → free N m ≡ true → Chooses N (untried domains m (get_or domains m 0)) m b before after)
        → Chooses N (listed domains) k b before after
    chosen-next domains {b} {before} {after} c =
        let C : Chooses N (listed domains) m b before after = rw (all-untried domains m) at (c chosen-left next.2) in
        record {
          first_from = first_past N _ b _ (m - k) k m (omega (arith, next.0))
              (λ i a l. led N k i a (omega (arith, next.1)) (not_left i (first_below w (has left) i (omega arith)))) C.first_from;
          others = λ i h. C.others i (fewer N k m i next.0 h);
        }

-- ---- trying its values

-- The lowest value of `rest`, v, is taken by k, which is free: the domains are narrowed, and the other variables that are left are chosen within them.
pub record Taken (w : ℕ) (N : Network) (stated rows : List ℕ) (k left : ℕ) (domains : List ℕ) (rest v : ℕ) (changed : Bool) (later : List ℕ)
    (found : Bool) (before after : List ℕ) : Type 0 where
  pub left_after : Left w N stated rows (k + 1) left
  pub k_free : free N k ≡ true
  pub rest_fits : rest < 2 ^ w
  pub left_fits : left < 2 ^ w
  pub some : rest ≡ 0 → ⊥
  pub lowest : v ≡ first w (has rest)
  pub narrowed : Narrowed w rows (word w (λ (u : ℕ). and (has (get_or stated k 0) u) (has left u))) k v changed domains later
  pub chosen : Chooses N (listed later) (k + 1) found before after

-- No value is left.
pub tried-none : {w : ℕ} {N : Network} {stated rows : List ℕ} {k left : ℕ} (domains : List ℕ) {rest : ℕ} {values : List ℕ}
    → Left w N stated rows (k + 1) left → free N k ≡ true → rest ≡ 0 → Chooses N (untried domains k rest) k false values values
tried-none {N} {k} domains {rest} L f e =
    record {
      first_from = first-none N k (omega (arith, L.from_n)) f _ _ (λ v. untried-here domains k rest v ∙ rw e (has-zero v)) refl;
      others = λ i _. refl;
    }

module _ {w : ℕ} {N : Network} {stated rows : List ℕ} {k left : ℕ} {domains : List ℕ} {rest v : ℕ} {changed : Bool} {later : List ℕ} {found : Bool} {before after : List ℕ}
    (T : Taken w N stated rows k left domains rest v changed later found before after) where
  k-n : k < N.n
  k-n = omega (arith, T.left_after.from_n)

  others-after : (i : ℕ) → to_choose N k i ≡ false → get_or after i 0 ≡ get_or before i 0
  others-after i h = T.chosen.others i (fewer N k (k + 1) i (omega arith) h)

  narrows : Narrows N (untried domains k rest) k v (listed later)
  unfolding listed
  narrows =
      record {
        later = λ j u l m t.
            narrowed-has T.narrowed j u
            ∙ ap₂ and (sym (untried-there domains k rest j u (λ e. let x : ⊥ = omega arith in x)))
            (ap₂ implies (among-is j l m t) (sym (T.left_after.allows_are k j v u)));
      }
    where
      among-is : (j : ℕ) → k < j → j < N.n → free N j ≡ true
          → has (word w (λ (u : ℕ). and (has (get_or stated k 0) u) (has left u))) j ≡ N.stated k j
      among-is j l m t =
          let L = T.left_after in
          let h : has left j ≡ true = L.left_are j ∙ to-choose-i N (k + 1) j (omega arith) m t in
          has_word w _ j (has-below w left j h T.left_fits) ∙ (ap (and _) h ∙ and-true _) ∙ sym (L.stated_are k j)

  -- They can be chosen.
  pub taken-hit : found ≡ true → k < length after → Chooses N (untried domains k rest) k true before (set after k v)
  taken-hit q l =
      let kept : (i : ℕ) → (i ≡ k → ⊥) → get_or (set after k v) i 0 ≡ get_or after i 0 = λ i d. get_or-set_other after k i v 0 d in
      record {
        first_from = first-hit N k k-n T.k_free v narrows
            (untried-here domains k rest v ∙ (lowest-in w rest v T.rest_fits T.some T.lowest).1)
            (λ u m. untried-here domains k rest u ∙ first_below w (has rest) u (omega (arith, T.lowest)))
            T.chosen.first_from q (get_or-set_same after k v 0 l) (λ i m. kept i (λ z. let x : ⊥ = omega arith in x)) refl;
        others = λ i h. kept i (λ e. clash (to-choose-i N k k (omega arith) k-n T.k_free) (rw e at h)) ∙ others-after i h;
      }

  -- They cannot, and no domain was narrowed.
  pub taken-stuck : found ≡ false → changed ≡ false → Chooses N (untried domains k rest) k false before after
  unfolding listed
  taken-stuck q s =
      record {
        first_from = first-stuck N k k-n T.k_free v narrows
            (λ j u l _ _. ap (λ (x : ℕ). has x u) (T.narrowed.unchanged s j) ∙ sym (untried-there domains k rest j u (λ e. let x : ⊥ = omega arith in x)))
            T.chosen.first_from q refl;
        others = others-after;
      }

  -- They cannot, and the next value is tried.
  pub taken-miss : (rest' : ℕ) → rest' ≡ word w (λ (u : ℕ). and (has rest u) (not (eqb u (first w (has rest)))))
      → (b : Bool) (last : List ℕ) → found ≡ false → Chooses N (untried domains k rest') k b after last → Chooses N (untried domains k rest) k b before last
  taken-miss rest' re b last q R =
      record {
        first_from = first-miss N k k-n T.k_free v narrows (untried domains k rest')
            (λ u. untried-here domains k rest' u
            ∙ ap (λ (x : ℕ). has x u) re
            ∙ has_all w _ u (λ l. and-fails _ _ (has-past w rest u T.rest_fits l))
            ∙ ap₂ (λ (x : Bool) (y : ℕ). and x (not (eqb u y))) (sym (untried-here domains k rest u)) (sym T.lowest))
            (λ i u d. untried-there domains k rest' i u d ∙ sym (untried-there domains k rest i u d))
            T.chosen.first_from q R.first_from;
        others = λ i h. R.others i h ∙ others-after i h;
      }
