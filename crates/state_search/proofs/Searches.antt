-- The search of a state: what its call tells in each case, and the sentences of document 02 of it.
use mathlib.Core.Bool.{true}
use mathlib.Core.List.{List}
use mathlib.Core.Logic.{◌↔◌}
use mathlib.Core.Path.{◌≡◌, refl, sym, ap, ap₂, ◌∙◌}
use Prim.Native.Nat.{ℕ, ◌≤◌}
use native.Mathlib.Omega.{arith}
use lib.ListN.{length, take, replicate, length-replicate, get_or-replicate}
use lib.Dec.{ltb}
use borrow.Author.Tests.{ltb-true, ltb-false}
use Rattle.bounded.specs.Table.{tabulate}
use Rattle.bounded.proofs.Bool.{by_cases, clash, and-true, not-true→false}
use Rattle.bounded.proofs.Table.{length-tabulate, get_d_tabulate, get_d-tabulate-past, is-table, tabulate-cong, take-tabulate}
use Rattle.network.specs.Network.{solves}
use Rattle.network.specs.Sound.{Sound}
use Rattle.network.specs.Completion as network
use Rattle.network.specs.Completion.{NONE, BUILT, verdict, shown}
use Rattle.network.specs.Search.{none, searched, sought, said_of, choice_product, search_refusal, Settled}
use Rattle.network.proofs.Reduction.{keeps-refl}
use Rattle.network.proofs.Completion.{solves-cong, completed-only, verdict-none, verdict-built, shown-zero}
use Rattle.network.proofs.Search.{precedes-total, precedes-same, sought-case, found-is-not-none, said-none, said-found, sought-none, sought-past, search-refused, search-accepted, keeps-settled, as-verdict}
use Rattle.head.specs.Held.{held}
use Rattle.head.proofs.Held.{held-n}
use Rattle.answers.specs.Answers.{rules, verdict_number, kind_of, verdict_kind}
use Rattle.state.specs.declared.state.State.{State}
use Rattle.state.specs.View.{Shaped, view, sound_state}
use Rattle.state.specs.Solutions.{values_of, verdict_of, search_number, search_of}
use Rattle.state_search.specs.Searches.{Build, FirstBuild, Shows, SearchesEvery}
use Rattle.state.proofs.View.{state-sound}
use Rattle.state.proofs.Solutions.{tested-yes, yes-solves, verdict-of, verdict-refused, search-unsound, search-own, search-of, search-refuses}

-- What is told of a search that is not refused.
module _ (s : State) (z : search_number s ≡ 0) where
  pub told_none : searched (view s) ≡ none → rules NONE (replicate 16 0) ≡ search_of s
  told_none e =
      ap₂ rules (sym (said-none _ e))
      (is-table 16 _ (replicate 16 0) 0 (length-replicate {A = ℕ} 16 0) (λ i l. get_or-replicate 16 i 0 0 l ∙ sym (sought-none (view s) e i)))
      ∙ sym (search-of s z)

  pub told-found : {solution : List ℕ} → (searched (view s) ≡ none → ⊥) → solution ≡ tabulate 16 (sought (view s)) → rules BUILT solution ≡ search_of s
  told-found d e = ap₂ rules (sym (said-found _ d)) e ∙ sym (search-of s z)

-- ---- the sentences

module _ (s : State) (h : Shaped s) (t : sound_state s ≡ true) where
  N-sound : Sound (view s)
  N-sound = state-sound s h t

  -- What is returned is right of the state's own solutions.
  settled : Settled (view s) (view s) (λ (f : ℕ → ℕ). true)
  settled = keeps-settled (view s) (view s) _ (keeps-refl (view s) N-sound)

  build-solves : (b : List ℕ) → Build s b → (length b ≡ s.n) × (solves (view s) (values_of b) ≡ true)
  build-solves = yes-solves s h.head_shaped t

  -- The n values of a solution are a build.
  table-build : (f : ℕ → ℕ) → solves (view s) f ≡ true → Build s (tabulate s.n f)
  unfolding values_of held
  table-build f k =
      tested-yes s h.head_shaped t (tabulate s.n f) (length-tabulate s.n f)
      (solves-cong (view s) (values_of (tabulate s.n f)) f (λ i l. get_d_tabulate s.n f i 0 l) ∙ k)

  -- Two first builds have the same values at the free variables, and so are the same.
  one_only : (b c : List ℕ) → FirstBuild s b → FirstBuild s c → b ≡ c
  unfolding values_of held
  one_only b c B C =
      let kb = build-solves b B.is_build in
      let kc = build-solves c C.is_build in
      precedes-total (view s) (values_of b) (values_of c)
      (λ p. clash p (C.none_before b B.is_build))
      (λ p. clash p (B.none_before c C.is_build))
      (λ same. is-table s.n _ b 0 kb.0 (completed-only (view s) N-sound (values_of c) (values_of b) kb.1 same)
      ∙ sym (is-table s.n _ c 0 kc.0 (completed-only (view s) N-sound (values_of c) (values_of c) kc.1 (λ i l f. refl))))

  no_build : (searched (view s) ≡ none) ↔ ((b : List ℕ) → Build s b → ⊥)
  no_build = (
    λ e b y. clash (and-true _ ∙ (build-solves b y).1) (settled.none_exactly.0 e (values_of b)),
    λ none_is. settled.none_exactly.1 (λ f. not-true→false _ (λ k. none_is (tabulate s.n f) (table-build f (sym (and-true _) ∙ k)))),
  )

  -- The first n bytes that are shown.
  first-shown : (searched (view s) ≡ none → ⊥) → FirstBuild s (take s.n (tabulate 16 (sought (view s))))
  unfolding values_of held
  first-shown d =
      rw (take-tabulate s.n 16 (sought (view s)) (held-n _ s.rows t))
      (record {
        is_build = table-build (sought (view s)) (sym (and-true _) ∙ settled.returns_solution d);
        none_before = λ c y. precedes-same (view s) (values_of c) (sought (view s)) _ (λ i l f. sym (get_d_tabulate s.n (sought (view s)) i 0 l))
            (settled.returns_first (values_of c) (and-true _ ∙ (build-solves c y).1));
      })

  module _ (z : search_refusal (view s) ≡ 0) where
    answered : search_of s ≡ rules (said_of (searched (view s))) (tabulate 16 (sought (view s)))
    answered = search-of s (search-own s t ∙ z)

    answered-none : searched (view s) ≡ none → search_of s ≡ rules NONE (replicate 16 0)
    answered-none e = sym (told_none s (search-own s t ∙ z) e)

    answered-found : (searched (view s) ≡ none → ⊥) → search_of s ≡ rules BUILT (tabulate 16 (sought (view s)))
    answered-found d = sym (told-found s (search-own s t ∙ z) d refl)

    none-says : (search_of s ≡ rules NONE (replicate 16 0)) → searched (view s) ≡ none
    unfolding verdict_kind kind_of
    none-says q =
        sought-case (searched (view s)) (λ e. e)
        (λ f e. let k : ◌≡◌ {A = ℕ} 2 1 = ap verdict_kind (sym (answered-found (found-is-not-none _ f e)) ∙ q) in absurd (let x : ⊥ = omega arith in x))

    shows : (searched (view s) ≡ none → ⊥) → (build : List ℕ) × Shows s build
    unfolding held
    shows d = (
      tabulate 16 (sought (view s)),
      record {
        says_built = answered-found d;
        sixteen = length-tabulate 16 (sought (view s));
        past_n = λ i l. by_cases (ltb i 16)
            (λ b. get_d_tabulate 16 _ i 0 (ltb-true i 16 b) ∙ sought-past (view s) i l)
            (λ b. get_d-tabulate-past 16 _ i 0 (ltb-false i 16 b));
        first_build = first-shown d;
      },
    )

  -- What the verdict rules.
  ruled : (v : network.Verdict) (build : List ℕ) → verdict_of s ≡ rules v build → (verdict (view s) ≡ v) × (tabulate 16 (shown (view s)) ≡ build)
  ruled v build e = let p = verdict-of s t in (cc, cc)

  none-as : (build : List ℕ) → verdict_of s ≡ rules NONE build → search_of s ≡ rules NONE build
  none-as build e =
      let r = ruled NONE build e in
      let A = (as-verdict (view s) N-sound).none_alike r.0 in
      answered A.1
      ∙ ap₂ rules (said-none _ A.0)
      (tabulate-cong 16 _ _ (λ i _. sought-none (view s) A.0 i
      ∙ sym (shown-zero (view s) i (λ w. clash (verdict-none (view s) r.0) (verdict-built (view s) w).0))) ∙ r.1)

  built-as : (build : List ℕ) → verdict_of s ≡ rules BUILT build → choice_product (view s) ≤ 1000000 → search_of s ≡ rules BUILT build
  built-as build e m =
      let r = ruled BUILT build e in
      let A = (as-verdict (view s) N-sound).built_alike r.0 in
      answered ((search-accepted (view s)).1 m) ∙ ap₂ rules (said-found _ A.0) (tabulate-cong 16 _ _ (λ i _. A.1 i) ∙ r.1)

-- A verdict is of a sound state.
ruled-sound : (s : State) (v : network.Verdict) (build : List ℕ) → verdict_of s ≡ rules v build → sound_state s ≡ true
unfolding verdict_number
ruled-sound s v build e =
    by_cases (sound_state s) (λ t. t)
    (λ u. let k : ◌≡◌ {A = ℕ} 9 0 = ap verdict_number (sym (verdict-refused s u) ∙ e) in absurd (let x : ⊥ = omega arith in x))

pub searches : SearchesEvery
unfolding SearchesEvery
searches s h =
    record {
      nine = λ u. search-refuses s 9 (search-unsound s u) (omega arith);
      twenty_three = λ t l. search-refuses s 23 (search-own s t ∙ (search-refused (view s)).1 l) (omega arith);
      none_exactly = λ t m. let z = (search-accepted (view s)).1 m in (
        λ q. (no_build s h t).0 (none-says s h t z q),
        λ n. answered-none s h t z ((no_build s h t).1 n),
      );
      found_first = λ t m d. let z = (search-accepted (view s)).1 m in shows s h t z (λ e. d (answered-none s h t z e));
      one_first = one_only s h;
      none_alike = λ build e. none-as s h (ruled-sound s NONE build e) build e;
      built_alike = λ build e. built-as s h (ruled-sound s BUILT build e) build e;
    }

-- The two numbers that refuse: a sound state is searched unless there are too many choices.
pub not-too-many : (s : State) → sound_state s ≡ true → search_number s ≡ 0 → choice_product (view s) ≤ 1000000
not-too-many s t q = (search-accepted (view s)).0 (sym (search-own s t) ∙ q)
