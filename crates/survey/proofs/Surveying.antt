-- The survey of a sound state, from its start to what it returns.
use mathlib.Core.Bool.{Bool, true, false}
use mathlib.Core.List.{List}
use mathlib.Core.Path.{◌≡◌, refl, sym, ap, ap₂, fun_ext, ◌∙◌}
use Prim.Native.Nat.{ℕ, suc, ◌+◌, ◌*◌, ◌^◌, ◌≤◌, ◌<◌, min}
use native.Mathlib.Nat.{mul_comm, min-eq_left, min-eq_right, zero-add, sub-zero}
use native.Mathlib.Omega.{arith}
use lib.Dec.{eqb, leb, ltb}
use lib.ListN.{length, get_or, replicate, length-replicate, get_or-replicate}
use borrow.Author.Tests.{eqb-true, eqb-false, lt-ltb, ltb-true, le-ltb, le-leb, leb-true, leb-false}
use Rattle.bounded.specs.Bool.{and, or, not, if}
use Rattle.bounded.specs.Fold.{some, product}
use Rattle.bounded.specs.Table.{tabulate}
use Rattle.bounded.proofs.Bool.{by_cases, bool-ext, not-true→false, and_i, and_l, and_r, and-false, and-holds, and-fails}
use Rattle.bounded.proofs.Fill.{zeros-at}
use Rattle.bounded.proofs.Fold.{some-i, some-e, some-none, product-cong, count-widen, count-cong}
use Rattle.bounded.proofs.Table.{is-table, length-tabulate, get_d_tabulate}
use Rattle.words.specs.Word.{width, has, word}
use Rattle.words.proofs.Laws.{has_all, has-past, has-zero, is_word, word_none, has-ruled}
use Rattle.network.specs.Network.{Network, free, partner}
use Rattle.network.specs.Completion.{exhausted}
use Rattle.network.specs.Survey.{Tally, nothing, tied, tied_product, settled, settled_domain, besides, free_used, any_used, all_count, spread, surveyed, count_limit}
use Rattle.network.proofs.Sound.{free-or-led, free-e, leader-n, leader-not-self}
use Rattle.network.proofs.Survey.{tied_tally, survey-spread, spread-nothing, spread-some, exhausted-tied, used-tied, used-apart, used-free, used-led}
use Rattle.network.proofs.Tally.{settled-bound}
use Rattle.pairs.specs.Pairs.{variables, partners_of}
use Rattle.pairs.proofs.Frames.{past-second}
use Rattle.head.specs.declared.Head.{Head}
use Rattle.head.specs.Held.{HeadShaped, held, sound_in}
use Rattle.head.proofs.Held.{held-sound, held-n, held-size}
use Rattle.search_narrow.specs.Narrow.{listed}
use Rattle.survey.specs.declared.Surveyed.{Surveyed}
use Rattle.survey.specs.declared.settle.Settled.{Settled}
use Rattle.survey.specs.declared.spread.Counted.{Counted}
use Rattle.survey.specs.Tally.{to_tally, LeftOf, InSizes, tally_from, InWords, TalliedFrom}
use Rattle.survey.specs.Settle.{SettledIn}
use Rattle.survey.specs.Spread.{Counts, besides_of, used_of, word_of, LedIn}
use Rattle.survey.specs.Surveyed.{SurveyedIn}
use Rattle.survey.proofs.Spreading.{used-left, used-list, word-free, word-led}

-- What is returned is the tally x.
as-tally : (N : Network) (x : Tally) (r : Surveyed) → surveyed N ≡ x → r.count ≡ min x.count count_limit → r.more ≡ ltb count_limit x.count
    → r.words ≡ tabulate variables (λ (i : ℕ). word width (x.used i)) → SurveyedIn N r
as-tally N x r e c m w =
    record {
      count_is = c ∙ ap (λ (y : Tally). min y.count count_limit) (sym e);
      more_is = m ∙ ap (λ (y : Tally). ltb count_limit y.count) (sym e);
      words_are = w ∙ ap (λ (y : Tally). tabulate variables (λ (i : ℕ). word width (y.used i))) (sym e);
    }

-- Nothing is there: zero throughout.
nothing-in : (N : Network) → surveyed N ≡ nothing → SurveyedIn N (record { count = 0; more = false; words = replicate variables 0 })
unfolding nothing count_limit
nothing-in N e =
    as-tally N nothing _ e refl (sym (le-ltb 18446744073709551615 0 (omega arith)))
    (is-table variables _ (replicate variables 0) 0 (length-replicate {A = ℕ} variables 0)
    (λ i l. get_or-replicate variables i 0 0 l ∙ sym (word_none width _ (λ v _. refl))))

module _ {h : Head} (rows : List ℕ) (S : HeadShaped h) (t : sound_in h rows ≡ true)
    (some-choice : 1 ≤ tied_product (held h rows)) (few : tied_product (held h rows) ≤ 1000000)
    {r : Settled} (R : SettledIn (held h rows) r)
    {k : ℕ} {used : List ℕ} (C : TalliedFrom r.stated rows r.lists r.left k (replicate variables 0) used) where
  abbrev N : Network
  N = held h rows

  abbrev T : Tally
  T = tied_tally (held h rows)

  -- ---- the tally

  start : LeftOf (settled N) (tied (settled N)) r.stated rows 0 r.left
  unfolding settled held to_tally
  start =
      record {
        from_n = omega arith;
        stated_are = R.stated_are;
        allows_are = λ i j a b. refl;
        left_are = λ i. R.left_are i ∙ sym (and-holds _ _ (le-leb 0 i (omega arith)));
      }

  list-in : (i v : ℕ) → has (get_or r.lists i 0) v ≡ true → v < get_or h.sizes i 0
  unfolding settled_domain held
  list-in i v d = (held-sound h rows S t).domain_in i v (and_l _ _ (sym (R.lists_are i v) ∙ d))

  sizes : InSizes (settled N) (tied (settled N)) (listed r.lists) 0
  unfolding listed settled held
  sizes = λ i v _ _ _ d. list-in i v d

  same-tally : tally_from (settled N) (tied (settled N)) (listed r.lists) 0 ≡ T
  unfolding tally_from listed settled
  same-tally =
      let lists : listed r.lists ≡ settled_domain N = fun_ext (λ j. fun_ext (R.lists_are j)) in
      rw (lists, sub-zero)

  tallied_here : InWords (settled N) (tied (settled N)) (listed r.lists) 0 0 k (replicate variables 0) used
  tallied_here = C.tallies (settled N) (tied (settled N)) 0 start sizes

  open-lists : exhausted N ≡ false
  open-lists = not-true→false _ (λ e. let x : ⊥ = omega (arith, (exhausted-tied N).0 e) in x)

  -- It is not capped.
  pub count-here : k ≡ T.count
  unfolding count_limit
  count-here =
      let l : T.count ≤ 18446744073709551615 = omega (arith, settled-bound N open-lists) in
      tallied_here.counts
      ∙ ap (λ (x : Tally). min (0 + x.count) 18446744073709551615) same-tally
      ∙ rw (zero-add T.count) (min-eq_left l)

  used-here : (i u : ℕ) → has (get_or used i 0) u ≡ T.used i u
  unfolding or
  used-here i u =
      let zero-here : has (get_or (replicate variables 0) i 0) u ≡ false = rw (zeros-at variables (replicate variables 0) refl i) (has-zero u) in
      tallied_here.marks i u
      ∙ ap (λ (b : Bool). or b ((tally_from (settled N) (tied (settled N)) (listed r.lists) 0).used i u))
      zero-here
      ∙ ap (λ (x : Tally). x.used i u) same-tally

  -- ---- the count

  tied-in : (i : ℕ) → tied (settled N) i ≡ true → i < h.n
  unfolding tied settled held
  tied-in i q = some-e h.n _ (and_r _ _ q) (λ j m s. ((held-sound h rows S t).stated_in i j (and_l _ _ (and_r _ _ s))).0)

  left_is : (i : ℕ) → has r.left i ≡ tied (settled N) i
  unfolding held
  left_is i =
      bool-ext _ _
      (λ q. and_r _ _ (sym (R.left_are i) ∙ q))
      (λ q. R.left_are i ∙ and_i _ _ (lt-ltb i h.n (tied-in i q)) q)

  module _ {others : ℕ} (O : others ≡ word width (λ (u : ℕ). and (has r.free u) (not (has r.left u)))) where
    factor : (i : ℕ) → i < h.n → besides_of others (get_or r.lists i 0) i ≡ besides (settled N) (tied (settled N)) i
    unfolding besides_of besides settled free held
    factor i l =
        let most = held-n h rows t in
        let wide = held-size h rows S t i in
        ap₂ (λ (b : Bool) (x : ℕ). if b x 1)
        (has-ruled width _ O i (omega arith)
        ∙ ap₂ (λ (a b : Bool). and a (not b)) (R.free_are i ∙ and-holds _ _ (lt-ltb i h.n l)) (left_is i))
        (count-widen (get_or h.sizes i 0) width _ (omega arith)
        (λ a b. not-true→false _ (λ d. let x : ⊥ = omega (arith, list-in i a d) in x))
        ∙ count-cong (get_or h.sizes i 0) _ _ (λ v _. R.lists_are i v))

    all_here : product h.n (λ (i : ℕ). besides_of others (get_or r.lists i 0) i) * k ≡ all_count N T
    unfolding all_count held
    all_here =
        ap₂ (λ (x y : ℕ). x * y) (product-cong h.n _ _ factor) count-here
        ∙ mul_comm _ T.count

    module _ {c : Counted} (D : Counts c (product h.n (λ (i : ℕ). besides_of others (get_or r.lists i 0) i) * k)) where
      counted : Counts c (all_count N T)
      counted = rw (sym all_here) D

      surveyed-is : surveyed N ≡ spread N T
      surveyed-is = survey-spread N (λ e. let x : ⊥ = omega arith in x)

      pub survey-nothing : c.count ≡ 0 → SurveyedIn N (record { count = 0; more = false; words = replicate variables 0 })
      unfolding count_limit
      survey-nothing z =
          nothing-in N (surveyed-is ∙ spread-nothing N T
          (by_cases (leb (all_count N T) 18446744073709551615)
          (λ q. sym (counted.count_is ∙ min-eq_left (leb-true _ _ q)) ∙ z)
          (λ q. let l : 18446744073709551615 ≤ all_count N T = omega (arith, leb-false (all_count N T) 18446744073709551615 q) in
          absurd (let x : ⊥ = omega (arith, counted.count_is ∙ min-eq_right l) in x))))

      some-all : (c.count ≡ 0 → ⊥) → 1 ≤ all_count N T
      unfolding count_limit
      some-all d =
          let least : 0 ≤ 18446744073709551615 = omega arith in
          let zero-capped : min 0 18446744073709551615 ≡ 0 = min-eq_left least in
          by_cases (eqb (all_count N T) 0)
          (λ q. absurd (d (counted.count_is ∙ ap (λ (x : ℕ). min x 18446744073709551615) (eqb-true (all_count N T) 0 q) ∙ zero-capped)))
          (λ q. let z : all_count N T ≡ 0 → ⊥ = eqb-false _ _ q in omega arith)

      -- ---- the words

      free-word : (i v : ℕ) → has (used_of r.left (get_or used i 0) (get_or r.lists i 0) i) v ≡ free_used (settled N) T i v
      unfolding settled
      free-word i v =
          by_cases (tied (settled N) i)
          (λ q. ap (λ (x : ℕ). has x v) (sym (used-left r.left (get_or used i 0) (get_or r.lists i 0) i (left_is i ∙ q)))
          ∙ used-here i v
          ∙ sym (used-tied (settled N) T i v q))
          (λ q. ap (λ (x : ℕ). has x v) (sym (used-list r.left (get_or used i 0) (get_or r.lists i 0) i (left_is i ∙ q)))
          ∙ R.lists_are i v
          ∙ sym (used-apart (settled N) T i v q))

      led-word : (i l v : ℕ) → get_or h.leaders i 0 ≡ suc l
          → has (word width (λ (b : ℕ). and (has (get_or h.domains i 0) b)
          (has (partners_of width rows l i (used_of r.left (get_or used l 0) (get_or r.lists l 0) l)) b))) v
          ≡ some (get_or h.sizes l 0) (λ (a : ℕ). and (free_used (settled N) T l a) (partner N l i a v))
      unfolding partners_of partner held
      led-word i l v e =
          let wide = held-size h rows S t l in
          has_all width _ v (λ b. and-fails _ _ (has-past width _ v (S.domains_array.element_lt i) b))
          ∙ ap (and _) (has_all width _ v (λ b. some-none width _ (λ a _. ap (and _) (past-second width rows l i a v b) ∙ and-false _)))
          ∙ bool-ext _ _
          (λ q. some-e width _ (and_r _ _ q) (λ a _ s.
          some-i _ _ a ((held-sound h rows S t).allows_in l i a v (and_r _ _ s)).0
          (and_i _ _ (sym (free-word l a) ∙ and_l _ _ s) (and_i _ _ (and_l _ _ q) (and_r _ _ s)))))
          (λ q. some-e _ _ q (λ a m s.
          let p = and_r _ _ s in
          and_i _ _ (and_l _ _ p) (some-i width _ a (omega arith) (and_i _ _ (free-word l a ∙ and_l _ _ s) (and_r _ _ p)))))

      any_word : (i v : ℕ) → has (word_of h.leaders h.domains r.lists rows r.left used i) v ≡ any_used N T i v
      unfolding held
      any_word i v =
          free-or-led N i
          (λ f. ap (λ (x : ℕ). has x v) (sym (word-free h.leaders h.domains r.lists rows r.left used i (free-e N i f)))
          ∙ free-word i v
          ∙ sym (used-free N T i v f))
          (λ l e. ap (λ (x : ℕ). has x v) (sym (word-led h.leaders h.domains r.lists rows r.left used i l e refl refl refl))
          ∙ led-word i l v e
          ∙ sym (used-led N T i l v e))

      pub survey-some : (c.count ≡ 0 → ⊥) → (words : List ℕ) → ((i : ℕ) → get_or words i 0 < 2 ^ width)
          → words ≡ tabulate variables (word_of h.leaders h.domains r.lists rows r.left used)
          → SurveyedIn N (record { count = c.count; more = c.more; words = words })
      survey-some d words A e =
          as-tally N (record { count = all_count N T; used = any_used N T }) _ (surveyed-is ∙ spread-some N T (some-all d)) counted.count_is counted.more_is
          (is-table variables _ words 0 (ap length e ∙ length-tabulate variables _) (λ i l. is_word width _ _ (A i)
          (λ v _. ap (λ (x : List ℕ). has (get_or x i 0) v) e
          ∙ ap (λ (x : ℕ). has x v) (get_d_tabulate variables _ i 0 l)
          ∙ any_word i v)))

-- What the words go by.
pub leaders-in : {h : Head} (rows : List ℕ) → HeadShaped h → sound_in h rows ≡ true → (i : ℕ) → i < variables → LedIn h.leaders i
unfolding held
leaders-in {h} rows S t i _ l e =
    let N = held-sound h rows S t in
    (omega (arith, leader-n (held h rows) N i l e, held-n h rows t), leader-not-self (held h rows) N i l e)

-- What is tallied goes by variables.
pub left_in : (h : Head) (rows : List ℕ) → sound_in h rows ≡ true → {r : Settled} → SettledIn (held h rows) r → (j : ℕ) → has r.left j ≡ true → j < variables
unfolding held
left_in h rows t R j q = omega (arith, ltb-true j h.n (and_l _ _ (sym (R.left_are j) ∙ q)), held-n h rows t)
