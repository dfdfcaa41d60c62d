-- Settling the variables of one value: each part of the code, and what the whole is of a network.
use mathlib.Core.Bool.{Bool, true, false}
use mathlib.Core.List.{List}
use mathlib.Core.Path.{◌≡◌, refl, sym, ap, ap₂, subst, ◌∙◌}
use Prim.Native.Nat.{ℕ, ◌^◌, ◌≤◌, ◌<◌}
use native.Mathlib.Omega.{arith}
use lib.Dec.{eqb}
use lib.ListN.{get_or}
use borrow.Author.Tests.{eqb-true, eqb-false, eq-eqb, ne_eqb, lt-ltb, ltb-true}
use Rattle.bounded.specs.Bool.{and, not}
use Rattle.bounded.specs.Fold.{some, count, first}
use Rattle.bounded.specs.Table.{tabulate}
use Rattle.bounded.proofs.Array.{array-past, get_d-table}
use Rattle.bounded.proofs.Bool.{by_cases, bool-ext, clash, not-true→false, and_i, and_l, and_r, and-false, and-holds, and-fails, and-cong, implies-i, implies-e, not-i, not-false-i}
use Rattle.bounded.proofs.Fold.{every-i, every-e, some-i, count-some, first_some, first-widen}
use Rattle.words.specs.Word.{width, has, word}
use Rattle.words.proofs.Laws.{has_all, has-past, has-zero, has-below, word-cong, word_none}
use Rattle.network.specs.Network.{free}
use Rattle.network.specs.Completion.{lowest}
use Rattle.network.specs.Survey.{tied, single, settled, settled_domain}
use Rattle.network.proofs.Sound.{stated-distinct}
use Rattle.pairs.specs.Pairs.{variables, allows_of}
use Rattle.pairs.proofs.Runs.{Within, lowest-in, rest-is, rest_lt, rest-within}
use Rattle.head.specs.declared.Head.{Head}
use Rattle.head.specs.Held.{HeadShaped, held, sound_in}
use Rattle.head.proofs.Held.{held-sound, held-n, held-size}
use Rattle.solutions.specs.Choices.{free_word}
use Rattle.search_narrow.specs.Narrow.{Narrowed}
use Rattle.search_narrow.proofs.Narrowing.{narrowed-has}
use Rattle.survey_product.specs.Tied.{tied_word}
use Rattle.survey_product.proofs.Ties.{Below, below_word, tied_below, held-count, held-some, held-free, held-tied}
use Rattle.survey.specs.Settle.{single_of, single_word, value_of, Ready, SettledFrom, unstated_word, SettledIn}

-- ---- one variable

pub single-none : (tied domain i : ℕ) → has tied i ≡ false → false ≡ single_of tied domain i
unfolding single_of
single-none tied domain i h = sym (and-fails _ _ h)

pub single-some : (tied domain i : ℕ) {c : ℕ} → has tied i ≡ true → c ≡ count width (has domain) → eqb c 1 ≡ single_of tied domain i
unfolding single_of
single-some tied domain i h e = rw e (sym (and-holds _ _ h))

pub unstated-single : (singles stated i : ℕ) → has singles i ≡ true → 0 ≡ unstated_word singles stated i
unfolding unstated_word
unstated-single singles stated i h = sym (word_none width _ (λ j _. ap (and _) (and-fails _ _ (not-false-i _ h)) ∙ and-false _))

pub unstated-other : (singles stated i : ℕ) {x : ℕ} → has singles i ≡ false → x ≡ word width (λ (u : ℕ). and (has stated u) (not (has singles u)))
    → x ≡ unstated_word singles stated i
unfolding unstated_word
unstated-other singles stated i h e = e ∙ word-cong width _ _ (λ j _. ap (and _) (sym (and-holds _ _ (not-i _ h))))

-- ---- one of them after the other

-- In the midst of the loop: the values of the rest have not narrowed the lists yet.
pub record SettlingTo (rows : List ℕ) (singles : ℕ) (domains stated before after : List ℕ) (rest : ℕ) : Type 0 where
  pub rest_fits : rest < 2 ^ width
  pub rest_in : Within rest singles
  pub so_far : SettledFrom rows singles domains stated rest before after

module _ {rows : List ℕ} {singles : ℕ} {domains stated before : List ℕ} where
  pub settling-none : {rest : ℕ} → rest ≡ singles → singles < 2 ^ width → SettlingTo rows singles domains stated before before rest
  settling-none e l =
      rw e record {
        rest_fits = l;
        rest_in = λ i t. t;
        so_far = record { whole = refl; narrowed = λ j u. (λ h. (h, λ i s r _. clash s r), λ p. p.0) };
      }

  pub settling_next : {between : List ℕ} {rest i : ℕ} → SettlingTo rows singles domains stated before between rest → (rest ≡ 0 → ⊥)
      → i ≡ first width (has rest) → has singles i ≡ true
  settling_next {rest = rest} {i = i} R more low = R.rest_in i (lowest-in width rest i R.rest_fits more low).1

  pub settling-end : {after : List ℕ} {rest : ℕ} → SettlingTo rows singles domains stated before after rest → rest ≡ 0
      → SettledFrom rows singles domains stated 0 before after
  settling-end {after} R e = subst (λ (x : ℕ). SettledFrom rows singles domains stated x before after) e R.so_far

  module _ {between : List ℕ} {rest : ℕ} (R : SettlingTo rows singles domains stated before between rest) (more : rest ≡ 0 → ⊥)
      {i : ℕ} (low : i ≡ first width (has rest)) {v : ℕ} (ve : v ≡ first width (has (get_or domains i 0)))
      {after : List ℕ} (C : Narrowed width rows (get_or stated i 0) i v true between after)
      {rest' : ℕ} (se : rest' ≡ word width (λ (u : ℕ). and (has rest u) (not (eqb u (first width (has rest)))))) where
    next : has rest i ≡ true
    next = (lowest-in width rest i R.rest_fits more low).1

    -- What has narrowed the lists is still so, and i is.
    done-before : (k : ℕ) → has rest k ≡ false → has rest' k ≡ false
    done-before k r =
        not-true→false _ (λ t.
        clash (and_l _ _ (sym (rest-is width R.rest_fits more low se k (has-below width rest' k t (rest_lt width R.rest_fits more low se))) ∙ t)) r)

    done-now : (k : ℕ) → has rest' k ≡ false → (k ≡ i → ⊥) → has rest k ≡ false
    done-now k r d =
        not-true→false _ (λ t.
        clash (rest-is width R.rest_fits more low se k (has-below width rest k t R.rest_fits) ∙ and_i _ _ t (not-i _ (ne_eqb k i d))) r)

    done-i : has rest' i ≡ false
    done-i =
        not-true→false _ (λ t.
        clash (and_r _ _ (sym (rest-is width R.rest_fits more low se i (has-below width rest' i t (rest_lt width R.rest_fits more low se))) ∙ t))
        (not-false-i _ (eq-eqb i i refl)))

    pub settling-more : SettlingTo rows singles domains stated before after rest'
    unfolding value_of
    settling-more =
        record {
          rest_fits = rest_lt width R.rest_fits more low se;
          rest_in = rest-within width R.rest_fits more low se singles R.rest_in;
          so_far = record { whole = C.whole ∙ R.so_far.whole; narrowed = λ j u. (down j u, up j u) };
        }
      where
        Allowed : ℕ → ℕ → ℕ → Type 0
        Allowed k j u = allows_of width rows k j (first width (has (get_or domains k 0))) u ≡ true

        down : (j u : ℕ) → has (get_or after j 0) u ≡ true → (has (get_or before j 0) u ≡ true)
            × ((k : ℕ) → has singles k ≡ true → has rest' k ≡ false → has (get_or stated k 0) j ≡ true
            → allows_of width rows k j (first width (has (get_or domains k 0))) u ≡ true)
        down j u h =
            let a = sym (narrowed-has C j u) ∙ h in
            let p = (R.so_far.narrowed j u).0 (and_l _ _ a) in (
              p.0,
              λ k s r q. by_cases (eqb k i)
                  (λ e. let z = eqb-true k i e in
                  subst (λ (x : ℕ). allows_of width rows x j (first width (has (get_or domains x 0))) u ≡ true) (sym z)
                  (rw ve at (implies-e _ _ (and_r _ _ a) (subst (λ (x : ℕ). has (get_or stated x 0) j ≡ true) z q))))
                  (λ e. p.1 k s (done-now k r (eqb-false k i e)) q),
            )

        up : (j u : ℕ) → (has (get_or before j 0) u ≡ true)
            × ((k : ℕ) → has singles k ≡ true → has rest' k ≡ false → has (get_or stated k 0) j ≡ true
            → allows_of width rows k j (first width (has (get_or domains k 0))) u ≡ true)
            → has (get_or after j 0) u ≡ true
        up j u p =
            narrowed-has C j u
            ∙ and_i _ _
            ((R.so_far.narrowed j u).1 (p.0, λ k s r q. p.1 k s (done-before k r) q))
            (implies-i _ _ (λ q. rw ve (p.1 i (R.rest_in i next) done-i q)))

-- ---- of a network

module _ {h : Head} (rows : List ℕ) (S : HeadShaped h) (t : sound_in h rows ≡ true)
    {fr ti si : ℕ} (F : fr ≡ free_word h.n h.leaders) (T : ti ≡ tied_word h.n fr h.stated) (G : si ≡ single_word h.n ti h.domains) where
  single-below : Below h.n (single (held h rows)) si
  unfolding single_word single_of single held
  single-below i =
      ap (λ (w : ℕ). has w i) G
      ∙ below_word h.n _ i
      ∙ and-cong _ _ _ (λ b. ap₂ (λ (a : Bool) (c : ℕ). and a (eqb c 1)) (held-tied h rows S t F T i ∙ and-holds _ _ b) (held-count h rows S t i))

  -- A variable of one value has it,
  single-one : (i : ℕ) → single (held h rows) i ≡ true → some (get_or h.sizes i 0) (has (get_or h.domains i 0)) ≡ true
  unfolding single held
  single-one i s =
      let e : count (get_or h.sizes i 0) (has (get_or h.domains i 0)) ≡ 1 = eqb-true _ _ (and_r _ _ s) in
      count-some _ _ (omega arith) (λ a l d. some-i _ _ a l d)

  -- and it is the lowest, below either bound.
  value-lowest : (i : ℕ) → single (held h rows) i ≡ true → value_of h.domains i ≡ lowest (held h rows) i
  unfolding value_of lowest held
  value-lowest i s = let most = held-size h rows S t i in first-widen _ width _ (omega arith) (single-one i s)

  single-e : (i : ℕ) → has si i ≡ true → (i < h.n) × (single (held h rows) i ≡ true)
  single-e i s = let q = sym (single-below i) ∙ s in (ltb-true i h.n (and_l _ _ q), and_r _ _ q)

  pub settle-ready : Ready si h.domains h.stated
  unfolding value_of held
  settle-ready =
      record {
        single_in = λ i s. let q = single-e i s in
            (omega (arith, q.0, held-n h rows t), first_some width _ (held-some h rows S t i ∙ single-one i q.1));
        other_in = λ i j s. (
          omega (arith, ((held-sound h rows S t).stated_in i j s).1, held-n h rows t),
          stated-distinct (held h rows) (held-sound h rows S t) i j s,
        );
      }

  module _ {lists : List ℕ} (L : SettledFrom rows si h.domains h.stated 0 h.domains lists) where
    lists-settled : (j u : ℕ) → has (get_or lists j 0) u ≡ settled_domain (held h rows) j u
    unfolding settled_domain held
    lists-settled j u =
        bool-ext _ _
        (λ q. let p = (L.narrowed j u).0 q in
        and_i _ _ p.0 (every-i h.n _ (λ i l. implies-i _ _ (λ r.
        let s = and_l _ _ r in
        subst (λ (v : ℕ). allows_of width rows i j v u ≡ true) (value-lowest i s)
        (p.1 i (single-below i ∙ and_i _ _ (lt-ltb i h.n l) s) (has-zero i) (and_r _ _ r))))))
        (λ q. (L.narrowed j u).1 (
          and_l _ _ q,
          λ i s _ r.
              let e = single-e i s in
              subst (λ (v : ℕ). allows_of width rows i j v u ≡ true) (sym (value-lowest i e.1))
              (implies-e _ _ (every-e h.n _ (and_r _ _ q) i e.0) (and_i _ _ e.1 r)),
        ))

    module _ {stated : List ℕ} (U : stated ≡ tabulate variables (λ (i : ℕ). unstated_word si (get_or h.stated i 0) i))
        {left : ℕ} (E : left ≡ tied_word h.n fr stated) where
      past : (i j : ℕ) → width ≤ j → has (get_or h.stated i 0) j ≡ false
      past i j l = has-past width _ j (S.stated_array.element_lt i) l

      empty : (i : ℕ) → variables ≤ i → unstated_word si (get_or h.stated i 0) i ≡ 0
      unfolding unstated_word
      empty i m = word_none width _ (λ j _. and-fails _ _ (rw (array-past variables (2 ^ width) h.stated S.stated_array i m) (has-zero j)))

      kept : (i j : ℕ) → has (unstated_word si (get_or h.stated i 0) i) j ≡ and (has (get_or h.stated i 0) j) (and (not (has si i)) (not (has si j)))
      unfolding unstated_word
      kept i j = has_all width _ j (λ l. and-fails _ _ (past i j l))

      stated-settled : (i j : ℕ) → (settled (held h rows)).stated i j ≡ has (get_or stated i 0) j
      unfolding settled held
      stated-settled i j =
          and-cong _ _ _ (λ s. let q = (held-sound h rows S t).stated_in i j s in
          ap₂ (λ (a b : Bool). and (not a) (not b))
          (sym (single-below i ∙ and-holds _ _ (lt-ltb i h.n q.0))) (sym (single-below j ∙ and-holds _ _ (lt-ltb j h.n q.1))))
          ∙ sym (ap (λ (l : List ℕ). has (get_or l i 0) j) U
          ∙ ap (λ (x : ℕ). has x j) (get_d-table variables _ i (empty i))
          ∙ kept i j)

      pub settled-in : SettledIn (held h rows) (record { free = fr; left = left; lists = lists; stated = stated })
      unfolding settled free held
      settled-in =
          record {
            free_are = held-free h rows S t F T;
            left_are = tied_below (settled (held h rows)) fr stated left (omega (arith, held-n h rows t)) (held-free h rows S t F T) stated-settled E;
            lists_are = lists-settled;
            stated_are = stated-settled;
          }
