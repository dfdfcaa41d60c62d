-- The tests and stores of the tester, the completer and the verdict: what each way through the code says of its definition, and what the
-- definitions on arrays are of the network.
use mathlib.Core.Bool.{Bool, true, false, not as flip}
use mathlib.Core.List.{List}
use mathlib.Core.Path.{◌≡◌, refl, sym, ap, ◌∙◌}
use Prim.Native.Nat.{ℕ, suc, pred, ◌+◌, ◌^◌, ◌≤◌, ◌<◌}
use native.Mathlib.Omega.{arith}
use lib.Dec.{eqb, ltb}
use lib.ListN.{get_or, set, length-set}
use lib.Seq.{get_or-set_same, get_or-set_other}
use borrow.Author.Tests.{lt-ltb, le-ltb, eq-eqb, ne_eqb, ltb-true, ltb-false, eqb-true, eqb-false}
use Rattle.bounded.specs.Bool.{and, implies, not}
use Rattle.bounded.specs.Fold.{every, first}
use Rattle.bounded.specs.Table.{tabulate}
use Rattle.bounded.proofs.Bool.{by_cases, clash, bool-ext, not-true→false, true-and, false-and, and_i, and_l, and_r}
use Rattle.bounded.proofs.Bool.{implies-i, implies-e, implies_true, implies-false, not-i, not-e, if-true, if-false}
use Rattle.bounded.proofs.Fold.{below_suc, every-i, every-e, first_cong}
use Rattle.bounded.proofs.Table.{length-tabulate, get_d_tabulate, is-table}
use Rattle.words.specs.Word.{has, word}
use Rattle.words.proofs.Laws.{word_lt, has-ruled, has_all, has-below, has-zero, empty}
use Rattle.pairs.specs.Pairs.{allows_of}
use Rattle.pairs.proofs.Laws.{allows-alike}
use Rattle.pairs.proofs.Frames.{past-second}
use Rattle.pairs.proofs.Runs.{Within, lowest-in, rest-is, rest_lt, rest-within}
use Rattle.solutions.specs.Choices.{value_kept, pair_kept, side_kept, pairs_kept, Mirrored, among_kept, partner_of, completed_value, Led, Completed, LeaderReady, domain_open, free_word, side_apart, fresh_value}

-- ---- the value of a variable

module _ (leader domain value : ℕ) where
  pub value-led : (leader ≡ 0 → ⊥) → true ≡ value_kept leader domain value
  unfolding value_kept
  value-led h = sym (implies-false _ _ (ne_eqb leader 0 h))

  pub value-live : leader ≡ 0 → has domain value ≡ value_kept leader domain value
  unfolding value_kept
  value-live h = sym (implies_true _ _ (eq-eqb leader 0 h))

-- A follower is not fresh, and a free variable is where its domain is full.
module _ (w : ℕ) {leader : ℕ} (domain size : ℕ) where
  pub fresh-led : (leader ≡ 0 → ⊥) → false ≡ fresh_value w leader domain size
  unfolding fresh_value
  fresh-led h = rw (ne_eqb leader 0 h) (sym (false-and _))

  pub fresh-live : {full : ℕ} → leader ≡ 0 → full ≡ word w (λ (v : ℕ). ltb v size) → eqb domain full ≡ fresh_value w leader domain size
  unfolding fresh_value
  fresh-live h e = rw (eq-eqb leader 0 h, e) (sym (true-and _))

-- The members of a set one by one, the lowest first: those that are no longer in the rest have passed.
module _ (w set : ℕ) (p : ℕ → Bool) where
  pub record Seen (rest : ℕ) : Type 0 where
    pub rest_fits : rest < 2 ^ w
    pub rest_in : Within rest set
    pub seen : (v : ℕ) → v < w → has set v ≡ true → has rest v ≡ false → p v ≡ true

  pub seen_all : (rest : ℕ) → Seen rest → rest ≡ 0 → every w (λ (v : ℕ). implies (has set v) (p v)) ≡ true
  seen_all rest s z = every-i w _ (λ v l. implies-i _ _ (λ t. s.seen v l t (rw z (has-zero v))))

  module _ {rest a : ℕ} (s : Seen rest) (n : rest ≡ 0 → ⊥) (low : a ≡ first w (has rest)) where
    pub seen_next : (a < w) × (has set a ≡ true)
    seen_next = let i = lowest-in w rest a s.rest_fits n low in (i.0, s.rest_in a i.1)

    pub seen-not : p a ≡ false → every w (λ (v : ℕ). implies (has set v) (p v)) ≡ false
    seen-not f = not-true→false _ (λ t. clash (implies-e _ _ (every-e w _ t a seen_next.0) seen_next.1) f)

    pub seen_more : {rest' : ℕ} → p a ≡ true → rest' ≡ word w (λ (u : ℕ). and (has rest u) (not (eqb u (first w (has rest))))) → Seen rest'
    seen_more t re =
        record {
          rest_fits = rest_lt w s.rest_fits n low re;
          rest_in = rest-within w s.rest_fits n low re set s.rest_in;
          seen =
              λ v l m z.
              by_cases (eqb v a)
              (λ y. rw (eqb-true v a y) t)
              (λ y. s.seen v l m (not-true→false _ (λ r. clash (rest-is w s.rest_fits n low re v l ∙ and_i _ _ r (not-i _ y)) z)));
        }

-- ---- the values of a pair

-- The row of a value v that a byte a names, as a word, tells what a goes with.
pub row-tells : (w : ℕ) (rows : List ℕ) (i j : ℕ) {a v : ℕ} (b : ℕ) {x : ℕ} {r : Bool} → v ≡ a → x ≡ word w (allows_of w rows i j v) → r ≡ has x b
    → r ≡ allows_of w rows i j a b
row-tells w rows i j {v} b q e h =
    h ∙ ap (λ (n : ℕ). has n b) e ∙ has_all w _ b (past-second w rows i j v b) ∙ ap (λ (n : ℕ). allows_of w rows i j n b) q

-- ---- completing

-- The lowest of row x cut with the domain to y.
pub partner-found : (w domain : ℕ) (p : ℕ → Bool) {x y k : ℕ} → x ≡ word w p → y ≡ word w (λ (b : ℕ). and (has domain b) (has x b))
    → k ≡ first w (has y)
    → k ≡ first w (λ (b : ℕ). and (has domain b) (p b))
partner-found w domain p e f g =
    g ∙ first_cong w _ _ (λ b m. has-ruled w _ f b m
    ∙ ap (and (has domain b)) (has-ruled w p e b m))

module _ (w : ℕ) (domains leaders rows values : List ℕ) (i : ℕ) where
  pub completed-live : get_or leaders i 0 ≡ 0 → get_or values i 0 ≡ completed_value w domains leaders rows values i
  unfolding completed_value
  completed-live h = sym (if-true _ _ _ (eq-eqb _ 0 h))

  pub completed-follower : (l a : ℕ) → (get_or leaders i 0 ≡ 0 → ⊥) → l ≡ pred (get_or leaders i 0) → a ≡ get_or values l 0
      → partner_of w rows l i (get_or domains i 0) a ≡ completed_value w domains leaders rows values i
  unfolding completed_value
  completed-follower l a h e f = rw (f, e) (sym (if-false _ _ _ (ne_eqb _ 0 h)))

-- The frames before the first turn and after one more.
pub completed-none : {w : ℕ} {domains leaders rows values : List ℕ} → Completed w 0 domains leaders rows values values
completed-none =
    record { same_length = refl; value_completed = λ i l. absurd (let x : ⊥ = omega arith in x); value_past = λ i l. refl }

module _ {w n i : ℕ} {domains leaders rows before now : List ℕ} (L : Led w n leaders before) (C : Completed w i domains leaders rows before now) (m : i < n) where
  -- A leader still has the value that it came with: it is free.
  leader-kept : (l : ℕ) → get_or leaders i 0 ≡ suc l → get_or now l 0 ≡ get_or before l 0
  leader-kept l e =
      by_cases (ltb l i)
      (λ t. C.value_completed l (ltb-true l i t) ∙ sym (completed-live w domains leaders rows before l (L.leader_live i l m e)))
      (λ t. C.value_past l (ltb-false l i t))

  pub leader-ready : (l : ℕ) → get_or leaders i 0 ≡ suc l → LeaderReady w i l now
  leader-ready l e =
      let b = L.leader_below i l m e in
      record {
        leader_in = omega (arith, L.led_n);
        leader_other = λ q. let z : get_or leaders i 0 ≡ 0 = ap (λ (k : ℕ). get_or leaders k 0) (sym q) ∙ L.leader_live i l m e in let x : ⊥ = omega arith in x;
        leader_read = omega (arith, L.led_length, C.same_length);
        leader_fits = rw (leader-kept l e) (L.leader_value i l m e);
      }

  -- So what is completed from the present values is what is completed from those at entry.
  now-completed : completed_value w domains leaders rows now i ≡ completed_value w domains leaders rows before i
  now-completed =
      by_cases (eqb (get_or leaders i 0) 0)
      (λ t. let e : get_or leaders i 0 ≡ 0 = eqb-true _ _ t in
      sym (completed-live w domains leaders rows now i e) ∙ C.value_past i (omega arith) ∙ completed-live w domains leaders rows before i e)
      (λ t. let h : get_or leaders i 0 ≡ 0 → ⊥ = eqb-false _ _ t in
      let l = pred (get_or leaders i 0) in
      sym (completed-follower w domains leaders rows now i l (get_or now l 0) h refl refl)
      ∙ completed-follower w domains leaders rows before i l (get_or now l 0) h refl (leader-kept l (omega arith)))

  pub completed-more : {v : ℕ} → v ≡ completed_value w domains leaders rows now i → Completed w (i + 1) domains leaders rows before (set now i v)
  completed-more {v} e =
      record {
        same_length = length-set now i v ∙ C.same_length;
        value_completed = λ x l. below_suc i x (omega arith)
            (λ q. rw q (get_or-set_same now i v 0 (omega (arith, L.led_length, C.same_length)) ∙ e ∙ now-completed))
            (λ b. get_or-set_other now i x v 0 (λ q. let y : ⊥ = omega arith in y) ∙ C.value_completed x b);
        value_past = λ x l. get_or-set_other now i x v 0 (λ q. let y : ⊥ = omega arith in y) ∙ C.value_past x (omega arith);
      }

-- ---- the verdict

-- The machine's negation.
flip-not : (b : Bool) → flip b ≡ not b
unfolding not
flip-not true = refl
flip-not false = refl

module _ (leader domain : ℕ) where
  pub domain-led : (leader ≡ 0 → ⊥) → true ≡ domain_open leader domain
  unfolding domain_open
  domain-led h = sym (implies-false _ _ (ne_eqb leader 0 h))

  pub domain-live : leader ≡ 0 → flip (eqb domain 0) ≡ domain_open leader domain
  unfolding domain_open
  domain-live h = flip-not (eqb domain 0) ∙ sym (implies_true _ _ (eq-eqb leader 0 h))

module _ (w : ℕ) {leader : ℕ} (stated free : ℕ) where
  pub side-led : (leader ≡ 0 → ⊥) → true ≡ side_apart w leader stated free
  unfolding side_apart
  side-led h = sym (implies-false _ _ (ne_eqb leader 0 h))

  pub side-free : {common : ℕ} → leader ≡ 0 → common ≡ word w (λ (j : ℕ). and (has stated j) (has free j))
      → eqb common 0 ≡ side_apart w leader stated free
  unfolding side_apart
  side-free h e = rw e (sym (implies_true _ _ (eq-eqb leader 0 h)))

-- `side_kept` of the variables above i alone.
unfoldable pub later_kept : ℕ → ℕ → List ℕ → ℕ → List ℕ → List ℕ → ℕ → Bool
later_kept w n leaders stated rows values i =
    every n (λ (j : ℕ). implies (ltb i j) (pair_kept w (get_or leaders i 0) (get_or leaders j 0) (has stated j) rows i j (get_or values i 0) (get_or values j 0)))

-- The free variables that one is stated with: those below n.
module _ (w : ℕ) {n : ℕ} (stated : ℕ) {free : ℕ} (leaders : List ℕ) (l : n ≤ w) (e : free ≡ free_word n leaders) where
  free-is : (j : ℕ) → j < n → has free j ≡ eqb (get_or leaders j 0) 0
  unfolding free_word
  free-is j m = has-ruled n _ e j m

  module _ {among : ℕ} (a : among ≡ word w (λ (j : ℕ). and (has stated j) (has free j))) where
    among-i : (j : ℕ) → j < n → has stated j ≡ true → eqb (get_or leaders j 0) 0 ≡ true → has among j ≡ true
    among-i j m s f = has-ruled w _ a j (omega arith) ∙ and_i _ _ s (free-is j m ∙ f)

    among-e : (j : ℕ) → has among j ≡ true → (j < n) × (has stated j ≡ true) × (eqb (get_or leaders j 0) 0 ≡ true)
    unfolding free_word
    among-e j t =
        let k = has-below w among j t (rw a (word_lt w _)) in
        let q = sym (has-ruled w _ a j k) ∙ t in
        let m = has-below n free j (and_r _ _ q) (rw e (word_lt n _)) in
        (m, and_l _ _ q, sym (free-is j m) ∙ and_r _ _ q)

    pub among_below : (j : ℕ) → has among j ≡ true → j < n
    among_below j t = (among-e j t).0

    -- The pairs of those above i.
    module _ (i : ℕ) {below later : ℕ} (b : below ≡ word w (λ (v : ℕ). ltb v (i + 1))) (d : later ≡ word w (λ (j : ℕ). and (has among j) (not (has below j)))) where
      later-i : (j : ℕ) → j < n → i < j → has among j ≡ true → has later j ≡ true
      later-i j m k t =
          has-ruled w _ d j (omega arith)
          ∙ and_i _ _ t (not-i _ (has-ruled w _ b j (omega arith) ∙ le-ltb j (i + 1) (omega arith)))

      later-e : (j : ℕ) → has later j ≡ true → (i < j) × (has among j ≡ true)
      later-e j t =
          let k = has-below w later j t (rw d (word_lt w _)) in
          let q = sym (has-ruled w _ d j k) ∙ t in
          let u = sym (has-ruled w _ b j k) ∙ not-e _ (and_r _ _ q) in
          (omega (arith, ltb-false j (i + 1) u), and_l _ _ q)

      pub later-in : (j : ℕ) → has later j ≡ true → (i < j) × (j < n)
      later-in j t = let q = later-e j t in (q.0, among_below j q.1)

      pub later-side : (rows values : List ℕ) → among_kept w (get_or leaders i 0) later rows values i ≡ later_kept w n leaders stated rows values i
      unfolding among_kept later_kept pair_kept
      later-side rows values =
          bool-ext _ _
          (λ k. every-i n _ λ j m. implies-i _ _ λ above. implies-i _ _ λ t.
          let u = and_r _ _ t in
          implies-e _ _ (every-e w _ (implies-e _ _ k (and_l _ _ t)) j (omega arith))
          (later-i j m (ltb-true i j above) (among-i j m (and_r _ _ u) (and_l _ _ u))))
          (λ k. implies-i _ _ λ f. every-i w _ λ j m. implies-i _ _ λ t.
          let p = later-e j t in
          let q = among-e j p.1 in
          implies-e _ _ (implies-e _ _ (every-e n _ k j q.0) (lt-ltb i j p.0)) (and_i _ _ f (and_i _ _ q.2 q.1)))

  -- and where there are none, no pair of this one is of two free variables.
  pub side-pairs : (leader : ℕ) → side_apart w leader stated free ≡ every n (λ (j : ℕ). implies (and (eqb leader 0) (eqb (get_or leaders j 0) 0)) (not (has stated j)))
  unfolding side_apart
  side-pairs leader =
      bool-ext _ _
      (λ k. every-i n _ λ j m. implies-i _ _ λ t. not-i _ (not-true→false _ λ s.
      let none = eqb-true _ 0 (implies-e _ _ k (and_l _ _ t)) in
      clash (among-i refl j m s (and_r _ _ t)) (ap (λ (x : ℕ). has x j) none ∙ has-zero j)))
      (λ k. implies-i _ _ λ t. eq-eqb _ 0 (empty w _ (word_lt w _) λ j b. not-true→false _ λ s.
      let q = among-e refl j s in
      clash q.1 (not-e _ (implies-e _ _ (every-e n _ k j q.0) (and_i _ _ t q.2)))))

-- Where each stated pair is mirrored, those seen from their lower variable are all of them.
module _ (w n : ℕ) (leaders stated rows values : List ℕ) where
  pub later-all : Mirrored stated → ((i : ℕ) → i < n → later_kept w n leaders (get_or stated i 0) rows values i ≡ true) → pairs_kept w n leaders stated rows values ≡ true
  unfolding pairs_kept side_kept later_kept pair_kept
  later-all mirrored kept = every-i n _ λ i li. every-i n _ λ j lj. implies-i _ _ λ t.
      let free-i = and_l _ _ t in
      let free-j = and_l _ _ (and_r _ _ t) in
      let m = mirrored i j (and_r _ _ (and_r _ _ t)) in
      by_cases (ltb i j)
      (λ l. implies-e _ _ (implies-e _ _ (every-e n _ (kept i li) j lj) l) t)
      (λ l. sym (allows-alike w rows j i (get_or values j 0) (get_or values i 0))
      ∙ implies-e _ _ (implies-e _ _ (every-e n _ (kept j lj) i li) (lt-ltb j i (omega (arith, ltb-false i j l, m.0)))) (and_i _ _ free-j (and_i _ _ free-i m.1)))

  pub later_of : pairs_kept w n leaders stated rows values ≡ true → (i : ℕ) → i < n → later_kept w n leaders (get_or stated i 0) rows values i ≡ true
  unfolding pairs_kept side_kept later_kept
  later_of t i l = every-i n _ λ j m. implies-i _ _ λ _. every-e n _ (every-e n _ t i l) j m

-- A store makes a table of another that differs there alone.
set-table : (n : ℕ) (f g : ℕ → ℕ) (i v : ℕ) → i < n → v ≡ g i → ((k : ℕ) → (k ≡ i → ⊥) → f k ≡ g k) → set (tabulate n f) i v ≡ tabulate n g
set-table n f g i v l e h =
    is-table n g _ 0 (length-set (tabulate n f) i v ∙ length-tabulate n f)
    (λ k m. by_cases (eqb k i)
    (λ t. rw (eqb-true k i t) (get_or-set_same (tabulate n f) i v 0 (omega (arith, length-tabulate n f)) ∙ e))
    (λ t. get_or-set_other (tabulate n f) i k v 0 (eqb-false k i t) ∙ get_d_tabulate n f k 0 m ∙ h k (eqb-false k i t)))
