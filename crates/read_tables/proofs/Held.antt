-- What the arrays hold, with one table more.
use mathlib.Core.Bool.{Bool, true, false}
use mathlib.Core.List.{List, [], ◌∷◌, ◌++◌}
use mathlib.Core.Path.{◌≡◌, refl, sym, ◌∙◌, ap}
use Prim.Native.Nat.{ℕ, suc, ◌+◌, ◌*◌, ◌≤◌, ◌<◌}
use native.Mathlib.Omega.{arith}
use lib.Dec.{eqb, ltb}
use lib.ListN.{length, get_or, set, length-set, replicate}
use borrow.Author.Tests.{eq-eqb, ne_eqb, eqb-true, ltb-true, ltb-false}
use Rattle.bounded.specs.Bool.{and, or}
use Rattle.bounded.proofs.Bool.{by_cases, bool-ext, not-true→false, clash, if-true, if-false}
use Rattle.bounded.proofs.Bool.{and_i, and_l, and_r, and_comm, false-and, or_elim, or-false-l, or-false-r}
use Rattle.bounded.specs.Table.{tabulate}
use Rattle.bounded.proofs.Table.{get_d_set, get_d_tabulate, get_d-tabulate-past}
use Rattle.words.specs.Word.{width, has, word}
use Rattle.words.proofs.Laws.{word-cong, has_word, has-zero, empty, word_lt}
use Rattle.network.specs.Sheet.{Table, is_for, tabled, row_for}
use Rattle.pairs.specs.Pairs.{variables, row_at, allows_of}
use Rattle.pairs.specs.Frames.{Stored}
use Rattle.pairs.proofs.Laws.{allows-up}
use Rattle.format.specs.Parse.{pair_of}
use Rattle.read_tables.specs.Tables.{marked, stated_by, allowed_by, Held}
use Rattle.bounded.proofs.Fill.{zeros-at, zeros-length}

or-false : (a : Bool) → or a false ≡ a
unfolding or
or-false true = refl
or-false false = refl

false-or : (a : Bool) → or false a ≡ a
unfolding or
false-or a = refl

or_assoc : (a b c : Bool) → or a (or b c) ≡ or (or a b) c
unfolding or
or_assoc true b c = refl
or_assoc false b c = refl

or-cross : (a b c d : Bool) → or (or (or a b) c) d ≡ or (or a c) (or b d)
unfolding or
or-cross true b c d = refl
or-cross false true true d = refl
or-cross false true false d = refl
or-cross false false c d = refl

-- ---- a list of tables with one more at its end

tabled-more : (ts : List Table) (t : Table) (i j : ℕ) → tabled (ts ++ (t ∷ [])) i j ≡ or (tabled ts i j) (is_for t i j)
unfolding tabled or
tabled-more [] t i j = or-false (is_for t i j)
tabled-more (x ∷ ts) t i j = rw (tabled-more ts t i j) (or_assoc (is_for x i j) (tabled ts i j) (is_for t i j))

row_for-old : (ts : List Table) (t : Table) (i j a : ℕ) → is_for t i j ≡ false → row_for (ts ++ (t ∷ [])) i j a ≡ row_for ts i j a
unfolding row_for
row_for-old [] t i j a h = if-false _ _ _ h
row_for-old (x ∷ ts) t i j a h = rw (row_for-old ts t i j a h)

row_for-new : (ts : List Table) (t : Table) (i j a : ℕ) → tabled ts i j ≡ false → is_for t i j ≡ true
    → row_for (ts ++ (t ∷ [])) i j a ≡ get_or t.rows a 0
unfolding row_for tabled
row_for-new [] t i j a h k = if-true _ _ _ k
row_for-new (x ∷ ts) t i j a h k = if-false _ _ _ (or-false-l _ _ h) ∙ row_for-new ts t i j a (or-false-r _ _ h) k

-- No table, no row.
row_for-none : (ts : List Table) (i j a : ℕ) → tabled ts i j ≡ false → row_for ts i j a ≡ 0
unfolding row_for tabled
row_for-none [] i j a h = refl
row_for-none (x ∷ ts) i j a h = if-false _ _ _ (or-false-l _ _ h) ∙ row_for-none ts i j a (or-false-r _ _ h)

-- A table with a pair is for its two variables and no others.
is-for : (t : Table) (i j : ℕ) → t.first ≡ suc i → t.second ≡ suc j → (x y : ℕ) → is_for t x y ≡ and (eqb x i) (eqb y j)
unfolding is_for
is-for t i j h k x y =
    bool-ext _ _
    (λ e. and_i _ _
    (eq-eqb x i (omega (arith, eqb-true t.first (suc x) (and_l _ _ e))))
    (eq-eqb y j (omega (arith, eqb-true t.second (suc y) (and_r _ _ e)))))
    (λ e. and_i _ _
    (eq-eqb t.first (suc x) (omega (arith, eqb-true x i (and_l _ _ e))))
    (eq-eqb t.second (suc y) (omega (arith, eqb-true y j (and_r _ _ e)))))

-- A word of no member is 0.
no_member : (p : ℕ → Bool) → ((v : ℕ) → p v ≡ false) → word width p ≡ 0
no_member p h = empty width (word width p) (word_lt width p) (λ v l. has_word width p v l ∙ h v)

-- ---- the stated pairs

-- What `mark` stores.
pub mark-stores : (stated : List ℕ) (i j : ℕ) {one joined : ℕ} → one ≡ word width (λ (v : ℕ). eqb v j)
    → joined ≡ word width (λ (v : ℕ). or (has (get_or stated i 0) v) (has one v)) → set stated i joined ≡ marked stated i j
unfolding marked
mark-stores stated i j e d = ap (set stated i) (d ∙ word-cong width _ _ (λ v l. rw (e, has_word width (λ (v : ℕ). eqb v j) v l)))

marked-length : (stated : List ℕ) (i j : ℕ) → length (marked stated i j) ≡ length stated
unfolding marked
marked-length stated i j = length-set stated i _

-- A mark joins one member to one word.
marked-is : (stated : List ℕ) (i j : ℕ) → i < length stated → (x : ℕ) (p : ℕ → Bool) → get_or stated x 0 ≡ word width p
    → get_or (marked stated i j) x 0 ≡ word width (λ (y : ℕ). or (p y) (and (eqb x i) (eqb y j)))
unfolding marked and
marked-is stated i j l x p e =
    get_d_set stated i x _ 0 l
    ∙ by_cases (eqb x i)
    (λ t. if-true _ _ _ t ∙ word-cong width _ _ (λ y k. rw (t, ← eqb-true x i t, e, has_word width p y k)))
    (λ t. if-false _ _ _ t ∙ e ∙ word-cong width _ _ (λ y k. rw t (sym (or-false _))))

-- ---- one table more

module _
    (ts : List Table) (last : ℕ) (stated rows : List ℕ) (held : Held ts last stated rows)
    (t : Table) (i j : ℕ) (at_first : t.first ≡ suc i) (at_second : t.second ≡ suc j)
    (i<j : i < j) (second_in : j < variables) (later : last < pair_of t)
  where
    here-only : (x y : ℕ) → is_for t x y ≡ and (eqb x i) (eqb y j)
    here-only = is-for t i j at_first at_second

    not_yet : tabled ts i j ≡ false
    unfolding pair_of
    not_yet = not-true→false _ (λ e. let x : ⊥ = omega (arith, held.ordered i j e) in x)

    not_back : tabled ts j i ≡ false
    not_back = not-true→false _ (λ e. let x : ⊥ = omega (arith, held.ordered j i e) in x)

    here : is_for t i j ≡ true
    here = here-only i j ∙ and_i _ _ (eq-eqb i i refl) (eq-eqb j j refl)

    no-back : is_for t j i ≡ false
    no-back = here-only j i ∙ rw (ne_eqb j i (λ e. let x : ⊥ = omega arith in x)) (false-and _)

    -- The pair allowed nothing.
    none_before : (a b : ℕ) → a < width → b < width → allows_of width rows i j a b ≡ false
    none_before a b l m =
        held.rows_are i j a b i<j second_in l m
        ∙ rw (row_for-none ts i j a not_yet, row_for-none ts j i b not_back, has-zero b, has-zero a) (or-false false)

    ordered-more : (x y : ℕ) → tabled (ts ++ (t ∷ [])) x y ≡ true → (x < y) × (suc x * 256 + suc y ≤ pair_of t)
    unfolding pair_of
    ordered-more x y e =
        or_elim (tabled ts x y) (is_for t x y) (sym (tabled-more ts t x y) ∙ e)
        (λ o. omega (arith, held.ordered x y o))
        (λ o. let k = sym (here-only x y) ∙ o in omega (arith, eqb-true x i (and_l _ _ k), eqb-true y j (and_r _ _ k)))

    stated-more : (x : ℕ) → x < variables → get_or (marked (marked stated i j) j i) x 0 ≡ word width (stated_by (ts ++ (t ∷ [])) x)
    stated-more x l =
        marked-is (marked stated i j) j i (rw marked-length (omega (arith, held.stated_length))) x _
        (marked-is stated i j (omega (arith, held.stated_length)) x _ (held.stated_are x l))
        ∙ word-cong width _ _ (λ y m.
        rw (tabled-more ts t x y, tabled-more ts t y x, here-only x y, here-only y x, and_comm (eqb y i) (eqb x j))
        (simp or-cross))

    -- The rows are stored from the lower variable.
    module _
        (rows' : List ℕ) (f : ℕ → ℕ) (count : ℕ) (rows_are : t.rows ≡ tabulate count f)
        (stored : Stored width rows rows' i j (λ (a b : ℕ). has (f a) b) count)
      where
        table-rows : (a b : ℕ) → a < width → b < width → allows_of width rows' i j a b ≡ has (get_or t.rows a 0) b
        table-rows a b l m =
            rw rows_are
            (by_cases (ltb a count)
            (λ h. let k = ltb-true a count h in stored.done a b k l m ∙ ap (λ (x : ℕ). has x b) (sym (get_d_tabulate count f a 0 k)))
            (λ h. let k = ltb-false a count h in
            stored.left a b k ∙ none_before a b l m ∙ sym (has-zero b) ∙ ap (λ (x : ℕ). has x b) (sym (get_d-tabulate-past count f a 0 k))))

        rows-here : (a b : ℕ) → a < width → b < width → allows_of width rows' i j a b ≡ allowed_by (ts ++ (t ∷ [])) i j a b
        rows-here a b l m =
            table-rows a b l m
            ∙ rw (row_for-new ts t i j a not_yet here, row_for-old ts t j i b no-back, row_for-none ts j i b not_back, has-zero a) (sym (or-false _))

        rows_other : (x y a b : ℕ) → x < y → y < variables → a < width → b < width → is_for t x y ≡ false
            → allows_of width rows' x y a b ≡ allowed_by (ts ++ (t ∷ [])) x y a b
        rows_other x y a b lx ly l m h =
            let turned : x ≡ j → y ≡ i → ⊥ = λ p q. omega arith in
            let back : is_for t y x ≡ false =
            not-true→false _ (λ k. let e = sym (here-only y x) ∙ k in turned (eqb-true x j (and_r _ _ e)) (eqb-true y i (and_l _ _ e))) in
            stored.rest x y a b (record { not_ij = λ p q. clash (rw (p, q) here) h; not_ji = turned })
            ∙ held.rows_are x y a b lx ly l m
            ∙ rw (row_for-old ts t x y a h, row_for-old ts t y x b back)

        rows_more : (x y a b : ℕ) → x < y → y < variables → a < width → b < width
            → allows_of width rows' x y a b ≡ allowed_by (ts ++ (t ∷ [])) x y a b
        rows_more x y a b lx ly l m =
            by_cases (is_for t x y)
            (λ h. let e = sym (here-only x y) ∙ h in rw (eqb-true x i (and_l _ _ e), eqb-true y j (and_r _ _ e)) (rows-here a b l m))
            (rows_other x y a b lx ly l m)

        pub held_more : Held (ts ++ (t ∷ [])) (pair_of t) (marked (marked stated i j) j i) rows'
        held_more =
            record {
              ordered = ordered-more;
              stated_length = marked-length (marked stated i j) j i ∙ marked-length stated i j ∙ held.stated_length;
              stated_are = stated-more;
              rows_length = stored.size ∙ held.rows_length;
              rows_words = stored.words held.rows_words;
              rows_are = rows_more;
            }

-- Arrays that are zero hold no table.
pub held_none : (stated rows : List ℕ) → stated ≡ replicate variables 0 → rows ≡ replicate 3840 0 → Held [] 0 stated rows
unfolding tabled row_for row_at
held_none stated rows e d =
    record {
      ordered = λ i j h. clash h refl;
      stated_length = zeros-length variables stated e;
      stated_are = λ i l. zeros-at variables stated e i ∙ sym (no_member _ (λ j. false-or false));
      rows_length = zeros-length 3840 rows d;
      rows_words = λ k. rw (zeros-at 3840 rows d k) (omega arith);
      rows_are = λ i j a b l m h k.
          allows-up width rows i j a b l m h k ∙ ap (λ (x : ℕ). has x b) (zeros-at 3840 rows d _) ∙ rw (has-zero b, has-zero a) (sym (false-or false));
    }
