-- Where all tables are functional both ways, no reduction leaves two free variables stated together (document 02, L14).
use mathlib.Core.Bool.{Bool, true, false}
use mathlib.Core.List.{List, [], ◌∷◌, ◌++◌}
use mathlib.Core.Logic.{◌↔◌}
use mathlib.Core.Path.{◌≡◌, refl, sym, ◌∙◌, ap₂, ap}
use Prim.Native.Nat.{ℕ, pred, ◌≤◌, ◌<◌}
use native.Mathlib.Omega.{arith}
use lib.Dec.{eqb, ltb}
use lib.ListN.{length}
use borrow.Author.Tests.{eqb-false, ltb-true, ltb-false}
use Rattle.bounded.specs.Bool.{and, not, if}
use Rattle.bounded.specs.Fold.{some}
use Rattle.bounded.proofs.Bool.{by_cases, clash, not-true→false, and_i, and_l, and_r, and_comm, not-i, not-e}
use Rattle.bounded.proofs.Fold.{every-i, every-e, some-i, some-e, none_of, first_below, first_some, first_passes}
use Rattle.network.specs.Network.{Network, free, functional, solves}
use Rattle.network.specs.Sound.{Sound}
use Rattle.network.specs.Step.{legal, third, relisted, followers_trimmed, followed}
use Rattle.network.specs.Reduction.{reducible, reduce, Run, done, next}
use Rattle.network.specs.Completion.{NONE, BUILT, OPEN, decided, verdict, shown}
use Rattle.network.specs.Trimming.{live_trimmed, Rounds, last, then}
use Rattle.network.specs.Calls.{Call, follow_step, full_reduction, trimmed_reduction, led_reduction, add_table, refuses, made, answer, after, tables_of, tableless}
use Rattle.network.specs.Paired.{unpaired, has_unpaired, paired, unpaired_first, unpaired_second}
use Rattle.network.proofs.Pairs.{pair-case}
use Rattle.network.proofs.Step.{Legal, legal-e, legal-i, third-e}
use Rattle.network.proofs.Keep.{followed-sound, free-after}
use Rattle.network.proofs.Completion.{verdict-none, verdict-open, decided-apart, exhausted-none, decided-none, decided-built}
use Rattle.network.proofs.Reduction.{run_sound, run-solves, reduce-run, reduce-stops, not-reducible}
use Rattle.network.proofs.Trimming.{live-sound, live-fewer, alternate-rounds}
use Rattle.network.proofs.Lead.{lead-run}
use Rattle.network.proofs.Calls.{not-refused-legal, answer-taken, answer-refused, answer_keeps, after-keeps, after_both}
use Rattle.network.proofs.Through.{functional-fewer, followed-moves, functional-stays, functional-through, functional-back}

-- Each two free variables that are stated together are functional, from either side since `stated` is alike from both.
unfoldable pub Paired : Network → Type 0
Paired N = (x y : ℕ) → free N x ≡ true → free N y ≡ true → N.stated x y ≡ true → functional N x y ≡ true

-- A sheet of the profile is so, whoever is free.
pub paired-e : (N : Network) → Sound N → paired N ≡ true → (x y : ℕ) → N.stated x y ≡ true → functional N x y ≡ true
unfolding paired has_unpaired unpaired
paired-e N S h x y s =
    let b = S.stated_in x y s in
    let u = none_of N.n _ (not-e _ (every-e N.n _ h x b.0)) y b.1 in
    by_cases (functional N x y) (λ t. t)
    (λ t. clash (and_i _ _ s (not-i _ (not-true→false _ λ p. clash (and_l _ _ p) t))) u)

pub paired-i : (N : Network) → ((x y : ℕ) → N.stated x y ≡ true → (functional N x y ≡ true) × (functional N y x ≡ true)) → paired N ≡ true
unfolding paired has_unpaired unpaired
paired-i N h = every-i N.n _ λ x l. not-i _ (not-true→false _ λ t. some-e N.n _ t λ y m u.
    let f = h x y (and_l _ _ u) in clash (and_i _ _ f.0 f.1) (not-e _ (and_r _ _ u)))

-- A legal step keeps it,
pub step-paired : (N : Network) → Sound N → (i j : ℕ) → legal N i j ≡ true → Paired N → Paired (followed N i j)
unfolding Paired
step-paired N S i j l P =
    let L : Legal N i j = legal-e N i j l in
    let moves = followed-moves N i j L.distinct in
    let was : (x : ℕ) → free (followed N i j) x ≡ true → free N x ≡ true = λ x f. and_l _ _ (sym (free-after N i j x) ∙ f) in
    let gone : free (followed N i j) j ≡ true → ⊥ = λ f.
    eqb-false j j (not-e _ (and_r _ _ (sym (free-after N i j j) ∙ f))) (λ z. j) in
    pair-case i j (third N i j)
    (λ (x y : ℕ). free (followed N i j) x ≡ true → free (followed N i j) y ≡ true → (followed N i j).stated x y ≡ true → functional (followed N i j) x y ≡ true)
    (λ k t fi fk s. functional-through N S i j L.distinct k t L.is_functional
    (P j k L.j_free (was k fk) (third-e N i j k t).0))
    (λ k t fk fi s. functional-back N S i j L.distinct k t
    (P k j (was k fk) L.j_free (S.stated_sym k j ∙ (third-e N i j k t).0))
    (P j i L.j_free L.i_free (S.stated_sym j i ∙ L.pair_stated)))
    (λ k t fj fk s. absurd (gone fj))
    (λ k t fk fj s. absurd (gone fj))
    (λ x y r fx fy s. functional-stays N S i j L.distinct x y r
    (P x y (was x fx) (was y fy) (sym (moves.stated_moved.elsewhere x y r) ∙ s)))

-- and so does any run of them.
pub run-paired : {N M : Network} {k : ℕ} → Sound N → Run N M k → Paired N → Paired M
run-paired s done P = P
run-paired {N} s (next i j l r) P = run-paired (followed-sound N s i j l) r (step-paired N s i j l P)

-- Where no step is legal any more, no two free variables are stated together.
pub paired-decided : (N : Network) → Sound N → Paired N → reducible N ≡ false → decided N ≡ true
unfolding Paired
paired-decided N S P h = (decided-apart N).1 λ i j li lj fi fj. not-true→false _ λ s.
    clash
    (legal-i N i j (record {
      i_in = li;
      j_in = lj;
      distinct = λ e. clash s (ap (N.stated i) (sym e) ∙ S.no_self i);
      i_free = fi;
      j_free = fj;
      pair_stated = s;
      is_functional = P i j fi fj s;
    }))
    (not-reducible N h i j)

-- "A sheet of this profile is never OPEN after reduction under the rule for unrelated groups, and NONE is said exactly when no build exists." So too after
-- any run of legal steps before the reduction.
module _ (N M : Network) {k : ℕ} (S : Sound N) (R : Run N M k) (P : Paired N) where
  sound-end : Sound (reduce M).network
  sound-end = run_sound (run_sound S R) (reduce-run M)

  pub profile-decided : decided (reduce M).network ≡ true
  profile-decided =
      paired-decided (reduce M).network sound-end (run-paired (run_sound S R) (reduce-run M) (run-paired S R P)) (reduce-stops M (run_sound S R))

  pub profile-not-open : verdict (reduce M).network ≡ OPEN → ⊥
  profile-not-open v = clash profile-decided (verdict-open _ v).1

  profile-solves : (f : ℕ → ℕ) → solves (reduce M).network f ≡ solves N f
  profile-solves f = run-solves (run_sound S R) (reduce-run M) f ∙ run-solves S R f

  pub profile-none : (verdict (reduce M).network ≡ NONE) ↔ ((f : ℕ → ℕ) → solves N f ≡ false)
  profile-none = (
    λ v f. sym (profile-solves f) ∙ exhausted-none _ sound-end (verdict-none _ v) f,
    λ none. decided-none _ sound-end profile-decided (λ f. profile-solves f ∙ none f),
  )

  pub profile-built : (verdict (reduce M).network ≡ NONE → ⊥)
      → (verdict (reduce M).network ≡ BUILT) × (solves N (shown (reduce M).network) ≡ true)
  profile-built v =
      let b = decided-built _ sound-end profile-decided v in
      (b.0, sym (profile-solves _) ∙ b.1)

-- ---- after any list of calls that adds no table

-- Trimming takes values alone,
live-paired : (N : Network) → Sound N → Paired N → Paired (live_trimmed N)
unfolding Paired live_trimmed followers_trimmed relisted free
live-paired N S P x y fx fy s = functional-fewer N (live_trimmed N) S x y (live-fewer N S) (λ a b h. h) (P x y fx fy s)

-- and so do the rounds of it,
rounds-paired : {N M : Network} {k : ℕ} → Sound N → Rounds N M k → Paired N → Paired M
rounds-paired {N} S (last h) P = live-paired N S P
rounds-paired {N} S (then d r) P =
    let L = live-sound N S in
    let R = reduce-run (live_trimmed N) in
    rounds-paired (run_sound L R) r (run-paired L R (live-paired N S P))

-- and so every call that is to add no table: a clause for each.
made-paired : (N : Network) → Sound N → (c : Call) → eqb (length (tables_of c)) 0 ≡ true → eqb (refuses N c) 0 ≡ true → Paired N → Paired (made N c).network
unfolding refuses made tables_of
made-paired N S (follow_step l f) e t P = step-paired N S (pred l) (pred f) (not-refused-legal N l f t) P
made-paired N S full_reduction e t P = run-paired S (reduce-run N) P
made-paired N S trimmed_reduction e t P = rounds-paired S (alternate-rounds N S) P
made-paired N S (led_reduction l) e t P = run-paired S (lead-run N (pred l)) P
made-paired N S (add_table x y rows) e t P = clash e refl

answer-paired : (N : Network) → Sound N → (c : Call) → eqb (length (tables_of c)) 0 ≡ true → Paired N → Paired (answer N c)
answer-paired N S c e P =
    by_cases (eqb (refuses N c) 0)
    (λ t. rw (answer-taken N c t) (made-paired N S c e t P))
    (λ t. rw (answer-refused N c t) P)

pub after-paired : (N : Network) → Sound N → (cs : List Call) → tableless cs ≡ true → Paired N → Paired (after N cs)
unfolding after tableless
after-paired N S [] e P = P
after-paired N S (c ∷ cs) e P =
    after-paired (answer N c) (answer_keeps N S c).still_sound cs (and_r _ _ e) (answer-paired N S c (and_l _ _ e) P)

-- "never OPEN after reduction": no two free variables are stated together then.
pub after-decided : (N : Network) → Sound N → (cs : List Call) → tableless cs ≡ true → Paired N → decided (after N (cs ++ (full_reduction ∷ []))) ≡ true
after-decided N S cs e P =
    let M = after N cs in
    let last : after N (cs ++ (full_reduction ∷ [])) ≡ (reduce M).network =
    after_both N cs (full_reduction ∷ []) ∙ (unfold after answer refuses made if in refl) in
    rw last (profile-decided M M (after-keeps N S cs).still_sound done (after-paired N S cs e P))

-- The first pair of another kind: it is one, its first variable comes before its second, and no such pair comes before it, by a and then by b.
module _ (N : Network) (S : Sound N) where
  pub unpaired-sym : (i j : ℕ) → unpaired N i j ≡ unpaired N j i
  unfolding unpaired
  unpaired-sym i j = ap₂ (λ (a b : Bool). and a (not b)) (S.stated_sym i j) (and_comm _ _)

  pub unpaired-in : (i j : ℕ) → unpaired N i j ≡ true → (i < N.n) × (j < N.n) × (i ≡ j → ⊥)
  unfolding unpaired
  unpaired-in i j u =
      let s = and_l _ _ u in
      let b = S.stated_in i j s in
      (b.0, b.1, λ e. clash s (ap (N.stated i) (sym e) ∙ S.no_self i))

  has-unpaired : (i j : ℕ) → unpaired N i j ≡ true → has_unpaired N i ≡ true
  unfolding has_unpaired
  has-unpaired i j u = some-i N.n (unpaired N i) j (unpaired-in i j u).1 u

  pub paired_none : paired N ≡ true → (i j : ℕ) → unpaired N i j ≡ false
  unfolding paired
  paired_none h i j = not-true→false _ λ u.
      clash (has-unpaired i j u) (not-e _ (every-e N.n _ h i (unpaired-in i j u).0))

  pub first-before : (i j : ℕ) → unpaired N i j ≡ true → unpaired_first N ≤ i
  unfolding unpaired_first
  first-before i j u =
      by_cases (ltb i (unpaired_first N))
      (λ t. clash (has-unpaired i j u) (first_below N.n (has_unpaired N) i (ltb-true _ _ t)))
      (λ t. ltb-false _ _ t)

  pub second-before : (j : ℕ) → unpaired N (unpaired_first N) j ≡ true → unpaired_second N ≤ j
  unfolding unpaired_second
  second-before j u =
      by_cases (ltb j (unpaired_second N))
      (λ t. clash u (first_below N.n (unpaired N (unpaired_first N)) j (ltb-true _ _ t)))
      (λ t. ltb-false _ _ t)

  pub none-unpaired : some N.n (has_unpaired N) ≡ false → paired N ≡ true
  unfolding paired
  none-unpaired h = every-i N.n _ λ i l. not-i _ (none_of N.n (has_unpaired N) h i l)

  pub first-unpaired : paired N ≡ false → (unpaired N (unpaired_first N) (unpaired_second N) ≡ true) × (unpaired_first N < unpaired_second N)
  unfolding unpaired_first unpaired_second has_unpaired
  first-unpaired h =
      let any : some N.n (has_unpaired N) ≡ true = by_cases (some N.n (has_unpaired N)) (λ t. t) (λ t. clash (none-unpaired t) h) in
      let i = unpaired_first N in
      let j = unpaired_second N in
      let one : has_unpaired N i ≡ true = first_passes N.n (has_unpaired N) (first_some N.n (has_unpaired N) any) in
      let u : unpaired N i j ≡ true = first_passes N.n (unpaired N i) (first_some N.n (unpaired N i) one) in
      let d : i ≡ j → ⊥ = (unpaired-in i j u).2 in
      (u, omega (arith, first-before j i (unpaired-sym j i ∙ u)))
