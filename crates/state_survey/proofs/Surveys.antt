-- The sentences of the survey, of every state.
use mathlib.Core.Bool.{true, false}
use mathlib.Core.List.{List}
use mathlib.Core.Logic.{◌↔◌}
use mathlib.Core.Path.{◌≡◌, refl, sym, ap, ap₂, ◌∙◌}
use Prim.Native.Nat.{ℕ, ◌≤◌, ◌<◌, min}
use native.Mathlib.Omega.{arith}
use lib.Dec.{eqb, ltb}
use lib.ListN.{length, get_or, replicate, length-replicate, get_or-replicate}
use borrow.Author.Tests.{eqb-true, eqb-false, ltb-true, ltb-false}
use Rattle.bounded.specs.Bool.{if}
use Rattle.bounded.specs.Table.{tabulate}
use Rattle.bounded.proofs.Array.{get_d-table}
use Rattle.bounded.proofs.Bool.{by_cases, clash, bool-ext, not-true→false, and_l}
use Rattle.bounded.proofs.Table.{length-tabulate, get_d_tabulate, get_d-tabulate-past, tabulate-cong, is-table}
use Rattle.bounded.proofs.Fill.{zeros-at}
use Rattle.words.specs.Word.{width, has, word}
use Rattle.words.proofs.Laws.{has_all, has-zero, has-below, word-cong, word_none, word_lt, is_word}
use Rattle.network.specs.Network.{solves}
use Rattle.network.specs.Sound.{Sound}
use Rattle.network.specs.Completion as network
use Rattle.network.specs.Completion.{NONE, BUILT, verdict, shown}
use Rattle.network.specs.Search.{choice_product}
use Rattle.network.specs.Count.{solution_count, choice_count}
use Rattle.network.specs.Survey.{surveyed, used_value, tied_product, survey_refusal, count_limit, capped_count, more_than_count}
use Rattle.network.proofs.Sound.{domain-n}
use Rattle.network.proofs.Completion.{solves-cong, solves-domain}
use Rattle.network.proofs.Count.{keeps-count}
use Rattle.network.proofs.Reduction.{keeps-refl}
use Rattle.network.proofs.Survey.{survey-refused, survey-accepted, survey-none, survey-verdict, surveyed-surveys, value_exactly}
use Rattle.head.specs.declared.Head.{Head}
use Rattle.head.specs.Held.{held, head_of}
use Rattle.head.proofs.Held.{has-sets, head-of-held, held-bounded}
use Rattle.answers.specs.Answers.{rules, verdict_number}
use Rattle.state.specs.declared.state.State.{State}
use Rattle.state.specs.View.{Shaped, head_in, view, sound_state}
use Rattle.state.specs.Solutions.{values_of, verdict_of}
use Rattle.state.proofs.View.{state-sound}
use Rattle.state.proofs.Solutions.{tested-yes, yes-solves, verdict-of, verdict-refused}
use Rattle.state_survey.specs.Survey.{SurveyTold, survey_number, survey_of}
use Rattle.state_survey.specs.Surveys.{nothing_told, Build, BuildWith, SurveysEvery}
use Rattle.state_survey.proofs.Told.{survey-unsound, survey-own, survey-of, survey-refuses, told-surveyed, told-nothing}

-- The number, in each case.
module _ (s : State) where
  -- A state that is answered is sound,
  pub sound-answered : survey_number s ≡ 0 → sound_state s ≡ true
  sound-answered z =
      by_cases (sound_state s) (λ t. t)
      (λ u. absurd (let x : ⊥ = omega (arith, z, survey-unsound s u) in x))

  too_many : sound_state s ≡ true → 1000000 < tied_product (view s) → survey_number s ≡ 23
  too_many t l = survey-own s t ∙ (survey-refused (view s)).1 l

  few : sound_state s ≡ true → tied_product (view s) ≤ 1000000 → survey_number s ≡ 0
  few t l = survey-own s t ∙ survey-accepted (view s) l

  nine : (survey_number s ≡ 9) ↔ (sound_state s ≡ false)
  nine = (
    λ e. not-true→false _ (λ t. by_cases (ltb 1000000 (tied_product (view s)))
        (λ q. let x : ⊥ = omega (arith, e, too_many t (ltb-true _ _ q)) in x)
        (λ q. let x : ⊥ = omega (arith, e, few t (ltb-false 1000000 (tied_product (view s)) q)) in x)),
    survey-unsound s,
  )

  twenty_three : (survey_number s ≡ 23) ↔ ((sound_state s ≡ true) × (1000000 < tied_product (view s)))
  twenty_three = (
    λ e. by_cases (sound_state s)
        (λ t. by_cases (ltb 1000000 (tied_product (view s)))
        (λ q. (t, ltb-true _ _ q))
        (λ q. absurd (let x : ⊥ = omega (arith, e, few t (ltb-false 1000000 (tied_product (view s)) q)) in x)))
        (λ u. absurd (let x : ⊥ = omega (arith, e, survey-unsound s u) in x)),
    λ p. too_many p.0 p.1,
  )

  -- An answer is a refusal or not.
  answered-or-not : {A : Type 0} → (survey_number s ≡ 0 → A) → (1 ≤ survey_number s → A) → A
  answered-or-not f g =
      by_cases (eqb (survey_number s) 0)
      (λ q. f (eqb-true _ _ q))
      (λ q. let d : survey_number s ≡ 0 → ⊥ = eqb-false _ _ q in g (omega arith))

  numbered : (survey_of s).number ≡ survey_number s
  numbered =
      answered-or-not
      (λ z. ap (λ (x : SurveyTold). x.number) (survey-of s z) ∙ sym z)
      (λ l. ap (λ (x : SurveyTold). x.number) (survey-refuses s (survey_number s) refl l))

  long : length (survey_of s).words ≡ 16
  long =
      answered-or-not
      (λ z. ap (λ (x : SurveyTold). length x.words) (survey-of s z) ∙ length-tabulate 16 _)
      (λ l. ap (λ (x : SurveyTold). length x.words) (survey-refuses s (survey_number s) refl l) ∙ length-replicate {A = ℕ} 16 0)

module _ (s : State) (h : Shaped s) (z : survey_number s ≡ 0) where
  t : sound_state s ≡ true
  t = sound-answered s z

  S : Sound (view s)
  S = state-sound s h t

  count-all : choice_count (view s) ≡ solution_count (view s) (λ (f : ℕ → ℕ). true)
  count-all = keeps-count (view s) (view s) _ (keeps-refl (view s) S)

  counts : (survey_of s).count ≡ min (solution_count (view s) (λ (f : ℕ → ℕ). true)) count_limit
  unfolding capped_count
  counts = ap (λ (x : SurveyTold). x.count) (survey-of s z) ∙ ap (λ (c : ℕ). min c count_limit) count-all

  flags : (survey_of s).more ≡ ltb count_limit (solution_count (view s) (λ (f : ℕ → ℕ). true))
  unfolding more_than_count
  flags = ap (λ (x : SurveyTold). x.more) (survey-of s z) ∙ ap (ltb count_limit) count-all

  -- A word's values are those that are used.
  word-used : (i v : ℕ) → has (get_or (survey_of s).words i 0) v ≡ used_value (view s) (λ (f : ℕ → ℕ). true) i v
  word-used i v = ap (λ (x : SurveyTold). has (get_or x.words i 0) v) (survey-of s z) ∙ has-sets (used_value (view s) (λ (f : ℕ → ℕ). true)) within i v
    where
      within : (i v : ℕ) → used_value (view s) (λ (f : ℕ → ℕ). true) i v ≡ true → (i < 16) × (v < 32)
      within i v q =
          let p = (value_exactly (view s) S i v).0 q in
          let d = solves-domain (view s) p.0 p.2 i p.1 in
          (held-bounded (head_in s) s.rows h.head_shaped).domain_bound i v (rw p.3 at d)

  -- The bytes of a build are a solution, and the n values of a solution are a build.
  with-exactly : (i v : ℕ) → (has (get_or (survey_of s).words i 0) v ≡ true) ↔ BuildWith s i v
  unfolding values_of held
  with-exactly i v = (
    λ q. let p = (value_exactly (view s) S i v).0 (sym (word-used i v) ∙ q) in
        let f = p.0 in (
          tabulate s.n f,
          tested-yes s h.head_shaped t (tabulate s.n f) (length-tabulate s.n f)
              (solves-cong (view s) (values_of (tabulate s.n f)) f (λ k l. get_d_tabulate s.n f k 0 l) ∙ p.2),
          p.1,
          get_d_tabulate s.n f i 0 p.1 ∙ p.3,
        ),
    λ p. word-used i v ∙ (value_exactly (view s) S i v).1 (values_of p.0, p.2, (yes-solves s h.head_shaped t p.0 p.1).1, p.3),
  )

  none-there : ((b : List ℕ) → Build s b → ⊥) → survey_of s ≡ nothing_told 0
  unfolding values_of held
  none-there n =
      let e = survey-none (view s) S (λ f. not-true→false _ (λ k.
      n (tabulate s.n f)
      (tested-yes s h.head_shaped t (tabulate s.n f) (length-tabulate s.n f)
      (solves-cong (view s) (values_of (tabulate s.n f)) f (λ k l. get_d_tabulate s.n f k 0 l) ∙ k)))) in
      told-nothing s S z e.0 e.1

-- Past n a word has no value, answered or refused.
past : (s : State) → Shaped s → (i : ℕ) → s.n ≤ i → get_or (survey_of s).words i 0 ≡ 0
unfolding held
past s h i l =
    answered-or-not s
    (λ z. ap (λ (x : SurveyTold). get_or x.words i 0) (survey-of s z)
    ∙ get_d-table 16 _ i (λ _. empty z)
    ∙ empty z)
    (λ r. ap (λ (x : SurveyTold). get_or x.words i 0) (survey-refuses s (survey_number s) refl r) ∙ zeros-at 16 (replicate 16 0) refl i)
  where
    empty : survey_number s ≡ 0 → word width (used_value (view s) (λ (f : ℕ → ℕ). true) i) ≡ 0
    empty z = word_none width _ (λ v _. not-true→false _ (λ q. let x : ⊥ = omega (arith, ((value_exactly (view s) (S s h z) i v).0 q).1) in x))

-- ---- the verdict

module _ (s : State) (h : Shaped s) (k : network.Verdict) (build : List ℕ) (e : verdict_of s ≡ rules k build) where
  -- A verdict is of a sound state,
  ruled-sound : sound_state s ≡ true
  unfolding verdict_number
  ruled-sound =
      by_cases (sound_state s) (λ t. t)
      (λ u. let q : ◌≡◌ {A = ℕ} 9 0 = ap verdict_number (sym (verdict-refused s u) ∙ e) in absurd (let x : ⊥ = omega arith in x))

  -- and of its network.
  ruled : verdict (view s) ≡ k
  ruled = let p = verdict-of s ruled-sound in (cc)

none_told : (s : State) → Shaped s → (build : List ℕ) → verdict_of s ≡ rules NONE build → survey_of s ≡ nothing_told 0
none_told s h build e =
    let t = ruled-sound s h NONE build e in
    let Q = survey-verdict (view s) (state-sound s h t) in
    let v = ruled s h NONE build e in
    told-nothing s (state-sound s h t) (survey-own s t ∙ Q.settled_accepted.1 v) (Q.none_count v) (Q.none_used v)

built-told : (s : State) → Shaped s → (build : List ℕ) → verdict_of s ≡ rules BUILT build
    → survey_of s ≡ record { number = 0; count = min (choice_product (view s)) count_limit; more = ltb count_limit (choice_product (view s)); words = s.domains }
unfolding head_of held
built-told s h build e =
    let t = ruled-sound s h BUILT build e in
    let Q = survey-verdict (view s) (state-sound s h t) in
    let v = ruled s h BUILT build e in
    let a = told-surveyed s (state-sound s h t) (survey-own s t ∙ Q.settled_accepted.0 v) in
    let c = Q.built_count v in
    let w : tabulate 16 (λ (i : ℕ). word width ((surveyed (view s)).used i)) ≡ s.domains =
    tabulate-cong 16 _ _ (λ i _. word-cong width _ _ (λ u _. Q.built_used v i u)) ∙ ap (λ (x : Head). x.domains) (head-of-held (head_in s) s.rows h.head_shaped) in
    a ∙ cc

pub surveys : SurveysEvery
unfolding SurveysEvery
surveys s h =
    record {
      nine_exactly = nine s;
      twenty_three_exactly = twenty_three s;
      otherwise_zero = few s;
      number_is = numbered s;
      refusal_zero = survey-refuses s (survey_number s) refl;
      count_builds = counts s h;
      more_builds = flags s h;
      sixteen = long s;
      value_exactly = with-exactly s h;
      past_n = past s h;
      no_build = none-there s h;
      none_nothing = none_told s h;
      built_all = built-told s h;
    }
