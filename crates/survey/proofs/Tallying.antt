-- The tally of the survey on lent arrays: each way through the code has its law of the network's tally.
use mathlib.Core.Bool.{Bool, true, false}
use mathlib.Core.List.{List}
use mathlib.Core.Path.{◌≡◌, refl, sym, ap, ap₂, ◌∙◌}
use Prim.Native.Nat.{ℕ, suc, ◌+◌, ◌-◌, ◌^◌, ◌≤◌, ◌<◌, min}
use native.Mathlib.Nat.{add-zero, zero-add, min-eq_left, min-eq_right}
use native.Mathlib.Omega.{arith}
use lib.Dec.{eqb, leb, ltb}
use lib.ListN.{length, get_or, set}
use lib.Seq.{get_or-set_same, get_or-set_other}
use borrow.Author.Tests.{eqb-true, eqb-false, eq-eqb, ne_eqb, lt-ltb, ltb-true, le-ltb, le-leb, leb-true, leb-false}
use Rattle.bounded.specs.Bool.{and, or, implies, not}
use Rattle.bounded.specs.Fold.{first, count}
use Rattle.bounded.proofs.Bool.{by_cases, clash, bool-ext, not-true→false, and_i, and_l, and_r, and-true, and-false, and-holds, and-fails, not-i, not-false-i, or-false-i}
use Rattle.bounded.proofs.Fold.{first_below, count-widen}
use Rattle.words.specs.Word.{width, has, word}
use Rattle.words.proofs.Laws.{has_word, has-past, has-below, has_all, has-zero}
use Rattle.network.specs.Network.{Network}
use Rattle.network.specs.Survey.{Tally, taken, narrowed_by, tallied, count_limit}
use Rattle.network.proofs.Tally.{tally-past, tally-end, tally-none, last-count, last-used, value-count, value-used, counts-join}
use Rattle.pairs.specs.Pairs.{allows_of}
use Rattle.pairs.proofs.Runs.{lowest-in, rest-is}
use Rattle.search_narrow.specs.Narrow.{listed, untried, Narrowed}
use Rattle.survey.specs.Tally.{to_tally, LeftOf, InSizes, tally_from, InWords}
use Rattle.search_narrow.proofs.Narrowing.{narrowed-has}
use Rattle.search_narrow.proofs.Members.{above-lowest, all-untried, untried-here, untried-there}

or-false : (a : Bool) → or a false ≡ a
unfolding or
or-false true = refl
or-false false = refl

or_assoc : (a b c : Bool) → or (or a b) c ≡ or a (or b c)
unfolding or
or_assoc true b c = refl
or_assoc false b c = refl

one-capped : min (0 + 1) count_limit ≡ 1
unfolding count_limit
one-capped = refl

-- A capped count is 0 where the count is.
some-capped : (c : ℕ) → ltb 0 (min c count_limit) ≡ ltb 0 c
unfolding count_limit
some-capped c =
    by_cases (leb c 18446744073709551615)
    (λ t. rw (min-eq_left (leb-true _ _ t)))
    (λ t. let l : 18446744073709551615 < c = leb-false _ _ t in
    let m : 18446744073709551615 ≤ c = omega arith in
    rw (min-eq_right m) (lt-ltb 0 18446744073709551615 (omega arith) ∙ sym (lt-ltb 0 c (omega arith))))

few-capped : (c : ℕ) → c ≤ 32 → min (0 + c) count_limit ≡ c
unfolding count_limit
few-capped c l = let m : c ≤ 18446744073709551615 = omega arith in rw (zero-add c) (min-eq_left m)

-- The members of a word that is within a size are counted below either bound.
pub count-sizes : (d s : ℕ) → d < 2 ^ width → ((u : ℕ) → has d u ≡ true → u < s) → count s (has d) ≡ count width (has d)
count-sizes d s fits within =
    by_cases (leb s width)
    (λ t. sym (count-widen s width (has d) (leb-true s width t) (λ u b. not-true→false _ (λ h. let x : ⊥ = omega (arith, within u h) in x))))
    (λ t. let l : width < s = leb-false s width t in
    count-widen width s (has d) (omega arith) (λ u b. has-past width d u fits b))

from_suc : (N : Network) (T : ℕ → Bool) (D : ℕ → ℕ → Bool) (m R : ℕ) → N.n - m ≡ suc R → tally_from N T D m ≡ tallied N T (suc R) m D
unfolding tally_from
from_suc N T D m R e = rw e

module _ (N : Network) (T : ℕ → Bool) where
  to-tally-i : (k i : ℕ) → k ≤ i → i < N.n → T i ≡ true → to_tally N T k i ≡ true
  unfolding to_tally
  to-tally-i k i a l t = and_i _ _ (le-leb k i a) (and_i _ _ (lt-ltb i N.n l) t)

  to-tally-e : (k i : ℕ) → to_tally N T k i ≡ true → (k ≤ i) × (i < N.n) × (T i ≡ true)
  unfolding to_tally
  to-tally-e k i h = (leb-true k i (and_l _ _ h), ltb-true i N.n (and_l _ _ (and_r _ _ h)), and_r _ _ (and_r _ _ h))

  not-of : (k i : ℕ) → k ≤ i → i < N.n → to_tally N T k i ≡ false → T i ≡ false
  not-of k i a l h = not-true→false _ (λ t. clash (to-tally-i k i a l t) h)

-- ---- choosing a variable

module _ {N : Network} {T : ℕ → Bool} {stated rows : List ℕ} {k left : ℕ} (L : LeftOf N T stated rows k left) where
  -- None is left.
  pub tallied-end : {D : ℕ → ℕ → Bool} {used : List ℕ} → left ≡ 0 → InWords N T D k 0 1 used used
  unfolding tally_from
  tallied-end {D} e =
      let none : (i : ℕ) → k ≤ i → i < N.n → T i ≡ false = λ i a l. not-of N T k i a l (sym (L.left_are i) ∙ rw (e, has-zero i)) in
      let q = tally-end N T (N.n - k) k D (omega (arith, L.from_n)) none in
      record {
        counts = sym (ap (λ (x : ℕ). min (0 + x) count_limit) q.0 ∙ one-capped);
        marks = λ i u. sym (ap (or _) (q.1 i u) ∙ or-false _);
      }

  -- The next one is m.
  module _ (fits : left < 2 ^ width) (more : left ≡ 0 → ⊥) {m : ℕ} (low : m ≡ first width (has left))
      {left' : ℕ} (le : left' ≡ word width (λ (u : ℕ). and (has left u) (not (eqb u (first width (has left)))))) where
    next : (k ≤ m) × (m < N.n) × (T m ≡ true)
    next = to-tally-e N T k m (sym (L.left_are m) ∙ (lowest-in width left m fits more low).1)

    tallied-left : LeftOf N T stated rows (suc m) left'
    tallied-left =
        record {
          from_n = omega (arith, next.1);
          stated_are = L.stated_are;
          allows_are = L.allows_are;
          left_are = λ i. bool-ext _ _ (down i) (up i);
        }
      where
        down : (i : ℕ) → has left' i ≡ true → to_tally N T (suc m) i ≡ true
        down i t =
            let q = above-lowest width left left' m fits more low le i t in
            let e = to-tally-e N T k i (sym (L.left_are i) ∙ q.0) in
            to-tally-i N T (suc m) i (omega (arith, q.1)) e.1 e.2

        up : (i : ℕ) → to_tally N T (suc m) i ≡ true → has left' i ≡ true
        up i t =
            let e = to-tally-e N T (suc m) i t in
            let h = L.left_are i ∙ to-tally-i N T k i (omega (arith, e.0, next.0)) e.1 e.2 in
            rest-is width fits more low le i (has-below width left i h fits)
            ∙ and_i _ _ h (not-i _ (ne_eqb i m (λ q. let x : ⊥ = omega (arith, e.0) in x)))

    same-tally : (D : ℕ → ℕ → Bool) → tally_from N T D k ≡ tally_from N T D m
    unfolding tally_from
    same-tally D =
        tally-past N T (m - k) (N.n - k) (N.n - m) k m D (omega (arith, next.0)) (omega (arith, next.0, next.1))
        (λ i a l. not-of N T k i a (omega (arith, next.1)) (sym (L.left_are i) ∙ first_below width (has left) i (omega arith)))

    -- What is tallied from m on is tallied from k on.
    pub tallied-next : (domains : List ℕ) {r : ℕ} {before after : List ℕ} → InSizes N T (listed domains) k
        → (LeftOf N T stated rows (suc m) left' → T m ≡ true → InSizes N T (untried domains m (get_or domains m 0)) m
        → InWords N T (untried domains m (get_or domains m 0)) m 0 r before after)
        → InWords N T (listed domains) k 0 r before after
    tallied-next domains {r} {before} {after} B c =
        let C : InWords N T (listed domains) m 0 r before after =
        rw (all-untried domains m) at (c tallied-left next.2 (rw (all-untried domains m) (λ i v a. B i v (omega (arith, next.0))))) in
        record {
          counts = C.counts ∙ sym (ap (λ (t : Tally). min (0 + t.count) count_limit) (same-tally (listed domains)));
          marks = λ i u. C.marks i u ∙ sym (ap (λ (t : Tally). or (has (get_or before i 0) u) (t.used i u)) (same-tally (listed domains)));
        }

    -- It is the last one: each of its values is a choice, and is marked.
    pub tallied-last : (domains : List ℕ) (w r : ℕ) {used : List ℕ} → InSizes N T (listed domains) k → left' ≡ 0 → m < length used
        → ((u : ℕ) → has w u ≡ or (has (get_or used m 0) u) (has (get_or domains m 0) u))
        → r ≤ width → ((size : ℕ) → ((u : ℕ) → has (get_or domains m 0) u ≡ true → u < size) → r ≡ count size (has (get_or domains m 0)))
        → InWords N T (listed domains) k 0 r used (set used m w)
    unfolding listed
    tallied-last domains w r {used} B z inside mark few is =
        let D : ℕ → ℕ → Bool = listed domains in
        let d : ℕ = get_or domains m 0 in
        let R : ℕ = N.n - suc m in
        let eR : N.n - m ≡ suc R = omega (arith, next.1) in
        let at : m + suc R ≡ N.n = omega (arith, next.1) in
        let none : (i : ℕ) → suc m ≤ i → i < N.n → T i ≡ false =
        λ i a l. not-of N T (suc m) i a l (sym (tallied-left.left_are i) ∙ rw (z, has-zero i)) in
        let in_size : (u : ℕ) → has d u ≡ true → u < N.size m = λ u. B m u next.0 next.1 next.2 in
        let same : tally_from N T D k ≡ tallied N T (suc R) m D = same-tally D ∙ from_suc N T D m R eR in
        record {
          counts = sym (ap (λ (t : Tally). min (0 + t.count) count_limit) same
              ∙ ap (λ (x : ℕ). min (0 + x) count_limit) (last-count N T R m D at next.2 none ∙ sym (is (N.size m) in_size))
              ∙ few-capped r few);
          marks = λ i u. by_cases (eqb i m)
              (λ q. let e = eqb-true i m q in
              ap (λ (x : ℕ). has (get_or (set used m w) x 0) u) e
              ∙ ap (λ (x : ℕ). has x u) (get_or-set_same used m w 0 inside)
              ∙ mark u
              ∙ ap (λ (x : ℕ). or (has (get_or used x 0) u) (has d u)) (sym e)
              ∙ sym (ap (or _) (ap (λ (t : Tally). t.used i u) same ∙ last-used N T R m D at next.2 none in_size i u ∙ and-holds _ _ q)))
              (λ q.
              ap (λ (x : ℕ). has x u) (get_or-set_other used m i w 0 (eqb-false i m q))
              ∙ sym (ap (or _) (ap (λ (t : Tally). t.used i u) same ∙ last-used N T R m D at next.2 none in_size i u ∙ and-fails _ _ q) ∙ or-false _));
        }

-- ---- trying its values

-- No value is left.
pub tried-none : {N : Network} {T : ℕ → Bool} {stated rows : List ℕ} {k left : ℕ} (domains : List ℕ) {rest so_far : ℕ} {used : List ℕ}
    → LeftOf N T stated rows (suc k) left → T k ≡ true → rest ≡ 0 → so_far ≤ 18446744073709551615
    → InWords N T (untried domains k rest) k so_far so_far used used
unfolding tally_from count_limit
tried-none {N} {T} {k} domains {rest} {so_far} L t e most =
    let more : N.n - k ≡ suc (N.n - suc k) = omega (arith, L.from_n) in
    let q = tally-none N T (N.n - suc k) k (untried domains k rest) (omega (arith, L.from_n)) t
    (λ v. untried-here domains k rest v ∙ rw e (has-zero v)) in
    record {
      counts = rw more (sym (ap (λ (x : ℕ). min (so_far + x) 18446744073709551615) q.0 ∙ rw (add-zero so_far) (min-eq_left most)));
      marks = λ i u. rw more (sym (ap (or _) (q.1 i u) ∙ or-false _));
    }

-- The lowest value of `rest`, v, is taken by k: the domains are narrowed, and the other variables that are left are tallied within them.
pub record TakenOf (N : Network) (T : ℕ → Bool) (stated rows : List ℕ) (k left : ℕ) (domains : List ℕ) (rest v : ℕ) (changed : Bool) (later : List ℕ)
    (here : ℕ) (before after : List ℕ) : Type 0 where
  pub left_after : LeftOf N T stated rows (suc k) left
  pub of_t : T k ≡ true
  pub in_sizes : InSizes N T (untried domains k rest) k
  pub rest_fits : rest < 2 ^ width
  pub left_fits : left < 2 ^ width
  pub some : rest ≡ 0 → ⊥
  pub lowest : v ≡ first width (has rest)
  pub narrowed : Narrowed width rows (word width (λ (u : ℕ). and (has (get_or stated k 0) u) (has left u))) k v changed domains later
  pub tallied_here : InSizes N T (listed later) (suc k) → InWords N T (listed later) (suc k) 0 here before after

module _ {N : Network} {T : ℕ → Bool} {stated rows : List ℕ} {k left : ℕ} {domains : List ℕ} {rest v : ℕ} {changed : Bool} {later : List ℕ} {here : ℕ} {before after : List ℕ}
    (W : TakenOf N T stated rows k left domains rest v changed later here before after) where
  narrows : (j u : ℕ) → suc k ≤ j → j < N.n → T j ≡ true → narrowed_by N (untried domains k rest) k v j u ≡ listed later j u
  unfolding listed narrowed_by
  narrows j u l m t =
      let same = sym (untried-there domains k rest j u (λ e. let x : ⊥ = omega arith in x)) in
      sym (narrowed-has W.narrowed j u
      ∙ ap₂ (λ (x y : Bool). and x (implies y (allows_of width rows k j v u))) same (among-is j l m t)
      ∙ ap (λ (z : Bool). and (untried domains k rest j u) (implies (N.stated k j) z)) (sym (W.left_after.allows_are k j v u)))
    where
      among-is : (j : ℕ) → suc k ≤ j → j < N.n → T j ≡ true
          → has (word width (λ (u : ℕ). and (has (get_or stated k 0) u) (has left u))) j ≡ N.stated k j
      among-is j l m t =
          let L = W.left_after in
          let h : has left j ≡ true = L.left_are j ∙ to-tally-i N T (suc k) j l m t in
          has_word width _ j (has-below width left j h W.left_fits) ∙ (ap (and _) h ∙ and-true _) ∙ sym (L.stated_are k j)

  v-in : (v < width) × (has rest v ≡ true)
  v-in = lowest-in width rest v W.rest_fits W.some W.lowest

  v-listed : untried domains k rest k v ≡ true
  v-listed = untried-here domains k rest v ∙ v-in.1

  k-n : k < N.n
  k-n = omega (arith, W.left_after.from_n)

  v-size : v < N.size k
  v-size = W.in_sizes k v (omega arith) k-n W.of_t v-listed

  -- The narrowed domains are within the sizes too.
  later-sizes : InSizes N T (listed later) (suc k)
  unfolding narrowed_by
  later-sizes i u a m t d = W.in_sizes i u (omega arith) m t (and_l _ _ (narrows i u a m t ∙ d))

  within : InWords N T (listed later) (suc k) 0 here before after
  within = W.tallied_here later-sizes

  module _ (rest' : ℕ) (re : rest' ≡ word width (λ (u : ℕ). and (has rest u) (not (eqb u (first width (has rest)))))) where
    rest-here : (u : ℕ) → untried domains k rest' k u ≡ and (untried domains k rest k u) (not (eqb u v))
    rest-here u =
        untried-here domains k rest' u
        ∙ ap (λ (x : ℕ). has x u) re
        ∙ has_all width _ u (λ l. and-fails _ _ (has-past width rest u W.rest_fits l))
        ∙ ap₂ (λ (x : Bool) (y : ℕ). and x (not (eqb u y))) (sym (untried-here domains k rest u)) (sym W.lowest)

    rest-there : (j u : ℕ) → suc k ≤ j → untried domains k rest' j u ≡ untried domains k rest j u
    rest-there j u a =
        untried-there domains k rest' j u (λ e. let x : ⊥ = omega arith in x)
        ∙ sym (untried-there domains k rest j u (λ e. let x : ⊥ = omega arith in x))

    pub rest-sizes : InSizes N T (untried domains k rest') k
    rest-sizes i u a m t d =
        by_cases (eqb i k)
        (λ q. let e = eqb-true i k q in W.in_sizes i u a m t (rw e (and_l _ _ (sym (rest-here u) ∙ (rw e at d)))))
        (λ q. let f : i ≡ k → ⊥ = eqb-false i k q in W.in_sizes i u a m t (sym (rest-there i u (omega arith)) ∙ d))

    dropped-v : untried domains k rest' k v ≡ false
    dropped-v = rest-here v ∙ ap (and _) (not-false-i _ (eq-eqb v v refl)) ∙ and-false _

    kept-u : (u : ℕ) → (u ≡ v → ⊥) → untried domains k rest' k u ≡ untried domains k rest k u
    kept-u u d = rest-here u ∙ ap (and _) (not-i _ (ne_eqb u v d)) ∙ and-true _

    module _ (L : ℕ) (eL : N.n - k ≡ suc L) (eM : N.n - suc k ≡ L) where
      at : k + suc L ≡ N.n
      at = omega (arith, k-n)

      total-count : (tally_from N T (untried domains k rest) k).count
          ≡ (tally_from N T (listed later) (suc k)).count + (tally_from N T (untried domains k rest') k).count
      unfolding tally_from
      total-count =
          rw (eL, eM) (value-count N T L k (untried domains k rest) at W.of_t v (listed later) (untried domains k rest') v-size v-listed narrows
          dropped-v kept-u rest-there)

      total-used : (i u : ℕ) → (tally_from N T (untried domains k rest) k).used i u
          ≡ or (or ((tally_from N T (listed later) (suc k)).used i u) (and (ltb 0 (tally_from N T (listed later) (suc k)).count) (and (eqb i k) (eqb u v))))
          ((tally_from N T (untried domains k rest') k).used i u)
      unfolding tally_from taken
      total-used i u =
          rw (eL, eM) (value-used N T L k (untried domains k rest) at W.of_t v (listed later) (untried domains k rest') v-size v-listed narrows
          dropped-v kept-u rest-there i u)

    -- The value is marked where there is a choice with it, and the next values are tried.
    pub tried-more : (w so_far soFar' r : ℕ) (last : List ℕ) → k < length after
        → ((u : ℕ) → has w u ≡ or (has (get_or after k 0) u) (and (ltb 0 here) (eqb u v)))
        → soFar' ≡ min (so_far + here) count_limit
        → InWords N T (untried domains k rest') k soFar' r (set after k w) last
        → InWords N T (untried domains k rest) k so_far r before last
    tried-more w so_far soFar' r last inside mark e R =
        let L : ℕ = N.n - suc k in
        let eL : N.n - k ≡ suc L = omega (arith, k-n) in
        let c₁ : ℕ = (tally_from N T (listed later) (suc k)).count in
        let c₂ : ℕ = (tally_from N T (untried domains k rest') k).count in
        record {
          counts = R.counts
              ∙ ap (λ (x : ℕ). min (x + c₂) count_limit) e
              ∙ counts-join count_limit so_far here c₁ c₂ within.counts
              ∙ sym (ap (λ (x : ℕ). min (so_far + x) count_limit) (total-count L eL refl));
          marks = λ i u.
              R.marks i u
              ∙ ap (λ (b : Bool). or b ((tally_from N T (untried domains k rest') k).used i u)) (joins i u)
              ∙ or_assoc (has (get_or before i 0) u) _ _
              ∙ sym (ap (or _) (total-used L eL refl i u));
        }
      where
        own : ltb 0 here ≡ ltb 0 (tally_from N T (listed later) (suc k)).count
        own = ap (ltb 0) (within.counts ∙ ap (λ (x : ℕ). min x count_limit) (zero-add _)) ∙ some-capped _

        joins : (i u : ℕ) → has (get_or (set after k w) i 0) u
            ≡ or (has (get_or before i 0) u)
            (or ((tally_from N T (listed later) (suc k)).used i u) (and (ltb 0 (tally_from N T (listed later) (suc k)).count) (and (eqb i k) (eqb u v))))
        joins i u =
            by_cases (eqb i k)
            (λ q. let z = eqb-true i k q in
            ap (λ (x : ℕ). has (get_or (set after k w) x 0) u) z
            ∙ ap (λ (x : ℕ). has x u) (get_or-set_same after k w 0 inside)
            ∙ mark u
            ∙ ap₂ (λ (x : Bool) (y : Bool). or x (and y (eqb u v))) (within.marks k u) own
            ∙ or_assoc (has (get_or before k 0) u) _ _
            ∙ ap (λ (x : ℕ). or (has (get_or before x 0) u) (or ((tally_from N T (listed later) (suc k)).used x u) (and (ltb 0 (tally_from N T (listed later) (suc k)).count) (eqb u v)))) (sym z)
            ∙ ap (λ (b : Bool). or (has (get_or before i 0) u) (or ((tally_from N T (listed later) (suc k)).used i u) (and (ltb 0 (tally_from N T (listed later) (suc k)).count) b)))
            (sym (and-holds (eqb i k) (eqb u v) q)))
            (λ q.
            ap (λ (x : ℕ). has x u) (get_or-set_other after k i w 0 (eqb-false i k q))
            ∙ within.marks i u
            ∙ ap (or _) (sym (ap (or _) (ap (and _) (and-fails _ _ q) ∙ and-false _) ∙ or-false _)))

-- ---- marking a value

-- No choice: nothing is marked,
pub unmarked : (x here v u : ℕ) → here ≡ 0 → has x u ≡ or (has x u) (and (ltb 0 here) (eqb u v))
unmarked x here v u e = sym (ap (or _) (and-fails _ _ (rw e (le-ltb 0 0 (omega arith)))) ∙ or-false _)

-- and else v is.
pub marked_by : (x here v s y u : ℕ) → x < 2 ^ width → (here ≡ 0 → ⊥)
    → s ≡ word width (λ (u : ℕ). eqb u v) → y ≡ word width (λ (u : ℕ). or (has x u) (has s u)) → v < width
    → has y u ≡ or (has x u) (and (ltb 0 here) (eqb u v))
marked_by x here v s y u fits d es ey l =
    let single : has s u ≡ eqb u v =
    ap (λ (n : ℕ). has n u) es ∙ has_all width (λ (u : ℕ). eqb u v) u (λ b. ne_eqb u v (λ e. let x : ⊥ = omega arith in x)) in
    ap (λ (n : ℕ). has n u) ey
    ∙ has_all width _ u (λ b. or-false-i _ _ (has-past width x u fits b) (single ∙ ne_eqb u v (λ e. let x : ⊥ = omega arith in x)))
    ∙ ap (or (has x u)) (single ∙ sym (and-holds _ _ (lt-ltb 0 here (omega arith))))
