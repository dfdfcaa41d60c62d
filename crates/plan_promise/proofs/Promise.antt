-- The text is that of the state after the calls; the rest is demand 3's of that list of calls, and the layer's.
use mathlib.Core.Bool.{Bool, true, false}
use mathlib.Core.List.{List, [], ◌∷◌, ◌++◌}
use mathlib.Core.Path.{◌≡◌, refl, sym, ◌∙◌, ap, ap₂}
use Prim.Native.Nat.{ℕ, suc, ◌+◌, ◌<◌, min}
use native.Mathlib.Numerals.{add-one}
use native.Mathlib.Omega.{arith}
use lib.Dec.{eqb, ltb}
use lib.ListN.{length, get_or, take}
use borrow.Author.Tests.{eq-eqb, eqb-true, ltb-true, ltb-false}
use Rattle.std.specs.Prelude.{Option, None, Some}
use Rattle.bounded.specs.Bool.{and}
use Rattle.bounded.proofs.Bool.{by_cases, clash, if-true, if-false, and_l, and_r, and-true, not-e}
use Rattle.bounded.proofs.Fold.{every-e}
use Rattle.bounded.proofs.Table.{get_d_tabulate}
use Rattle.words.specs.Word.{width, has}
use Rattle.words.proofs.Laws.{has_word, has-word-past}
use Rattle.network.specs.Network.{solves, in_domains}
use Rattle.network.specs.Survey.{count_limit}
use Rattle.network.specs.Completion.{NONE, follow, completed, allowed_choice}
use Rattle.network.specs.Calls.{Call, full_reduction, trimmed_reduction, led_reduction, add_table, tables_of, tableless}
use Rattle.network.proofs.Sound.{led-not-free, led-pred, follower-n}
use Rattle.format.specs.Parse.{Octets}
use Rattle.format.specs.Builds.{options, is_build_of}
use Rattle.answers.specs.Answers.{rules, says}
use Rattle.head.specs.Held.{held}
use Rattle.state.specs.declared.state.State.{State}
use Rattle.state.specs.View.{Shaped, view, sound_state}
use Rattle.state.specs.Read.{read_sheet}
use Rattle.state.specs.Steps.{reduced, led}
use Rattle.state.specs.Solutions.{values_of, tested, completed_buffer, verdict_of}
use Rattle.state.proofs.View.{state-sound}
use Rattle.state.proofs.Calls.{StateKept, call-keeps-all}
use Rattle.state.proofs.Solutions.{yes-solves, complete-accepted, completed-buffer}
use Rattle.state_survey.specs.Survey.{survey_of}
use Rattle.state_survey.specs.Surveys.{SurveysEvery}
use Rattle.state_survey.proofs.Surveys.{surveys}
use Rattle.promise.specs.Promise.{state_after, state_handed_back, last_state, build_of_sheet, build_count, Promise, Demand3}
use Rattle.promise.specs.Laws.{build_of, SoundLaws, LastLaws, AfterLaws}
use Rattle.promise.proofs.Promise.{demand3, tables-none}
use Rattle.promise.proofs.Laws.{after_both, after-laws, sound-laws, builds-solve}
use Rattle.meter_rule.specs.PageNine.{page_nine}
use Rattle.meter.specs.Fitted.{fitted}
use Rattle.meter.specs.Promise.{keeps_page_nine, SheetPromise, PageNineAfter}
use Rattle.meter.proofs.Promise.{page-nine-after}
use Rattle.plan_lines.specs.Lines.{idle_word}
use Rattle.plan_ifs.specs.Ifs.{leads}
use Rattle.plan_state.specs.Plan.{builds_none, condition_lines, state_text}
use Rattle.plan_text.specs.declared.Ask.{Ask}
use Rattle.plan_text.specs.Text.{unless_refused, last_of, fitted_text, lead_text, led_text, read_text, plan_text}
use Rattle.plan_promise.specs.Promise.{calls_to_lead, lead_calls, page_calls, calls_of, build_for, Accepted, PlansEvery}

-- ---- the calls, one part after the other

-- An option leads, or none does.
by_lead : {P : Type 0} (lead : Option ℕ) → ((leader : ℕ) → lead ≡ Some leader → P) → (lead ≡ None → P) → P
by_lead None some none = none refl
by_lead (Some leader) some none = some leader refl

module _ (ask : Ask) where
  lead-asked : (leader : ℕ) → ask.lead ≡ Some leader → lead_calls ask ≡ led_reduction leader ∷ []
  unfolding lead_calls calls_to_lead
  lead-asked leader t = ap calls_to_lead t

  lead-none : ask.lead ≡ None → lead_calls ask ≡ []
  unfolding lead_calls calls_to_lead
  lead-none t = ap calls_to_lead t

  page-asked : ask.page9 ≡ true → page_calls ask ≡ add_table 1 2 page_nine ∷ full_reduction ∷ []
  unfolding page_calls
  page-asked t = if-true _ _ _ t

  page-none : ask.page9 ≡ false → page_calls ask ≡ []
  unfolding page_calls
  page-none t = if-false _ _ _ t

-- The reductions come last.
last-two : (s : State) → state_after s (full_reduction ∷ trimmed_reduction ∷ []) ≡ last_of s
unfolding state_after state_handed_back last_of
last-two s = refl

module _ (ask : Ask) (bytes : List ℕ) where
  -- The state after the leader, if one is named, and then that after page nine.
  first : State
  first = last_state bytes (lead_calls ask)

  second : State
  second = state_after first (page_calls ask)

  planned-is : last_state bytes (calls_of ask) ≡ last_of second
  unfolding last_state calls_of first second
  planned-is =
      after_both (read_sheet bytes).state (lead_calls ask) (page_calls ask ++ (full_reduction ∷ trimmed_reduction ∷ []))
      ∙ after_both (state_after (read_sheet bytes).state (lead_calls ask)) (page_calls ask) (full_reduction ∷ trimmed_reduction ∷ [])
      ∙ last-two _

-- ---- the text

unless-none : (number : ℕ) (text : List ℕ) → number ≡ 0 → unless_refused number text ≡ text
unfolding unless_refused
unless-none number text h = if-true _ _ _ (eq-eqb number 0 h)

after_none : (s : State) → state_after s [] ≡ s
unfolding state_after
after_none s = refl

after-led : (s : State) (l : ℕ) → state_after s (led_reduction l ∷ []) ≡ (led s l).state
unfolding state_after state_handed_back
after-led s l = refl

module _ (ask : Ask) (bytes : List ℕ) (octets : Octets bytes) (A : Accepted ask bytes) where
  led-text : led_text ask (read_sheet bytes).state ≡ fitted_text ask.page9 (first ask bytes)
  unfolding led_text lead_text first last_state
  led-text =
      by_lead ask.lead
      (λ leader t. ap (λ (l : Option ℕ). lead_text l ask.page9 (read_sheet bytes).state) t ∙ unless-none _ _ (A.leader_led leader t)
      ∙ ap (fitted_text ask.page9) (sym (ap (state_after (read_sheet bytes).state) (lead-asked ask leader t) ∙ after-led _ _)))
      (λ t. ap (λ (l : Option ℕ). lead_text l ask.page9 (read_sheet bytes).state) t
      ∙ ap (fitted_text ask.page9) (sym (ap (state_after (read_sheet bytes).state) (lead-none ask t) ∙ after_none _)))

  pub nine : SheetPromise bytes (lead_calls ask)
  unfolding PageNineAfter
  nine = page-nine-after bytes octets A.sheet_read (lead_calls ask)

  -- With page nine, the state that the layer hands back.
  page-state : (t : ask.page9 ≡ true) → (fitted (first ask bytes)).state ≡ second ask bytes
  unfolding first second last_state
  page-state t =
      nine.of_list (A.page_added t)
      ∙ after_both (read_sheet bytes).state (lead_calls ask) (add_table 1 2 page_nine ∷ full_reduction ∷ [])
      ∙ ap (state_after (state_after (read_sheet bytes).state (lead_calls ask))) (sym (page-asked ask t))

  same-state : ask.page9 ≡ false → first ask bytes ≡ second ask bytes
  unfolding second
  same-state t = sym (ap (state_after (first ask bytes)) (page-none ask t) ∙ after_none _)

  fitted-text : fitted_text ask.page9 (first ask bytes) ≡ state_text (last_of (second ask bytes))
  unfolding fitted_text first
  fitted-text =
      by_cases ask.page9
      (λ t. if-true _ _ _ t ∙ unless-none _ _ (A.page_added t) ∙ ap (λ (u : State). state_text (last_of u)) (page-state t))
      (λ t. if-false _ _ _ t ∙ ap (λ (u : State). state_text (last_of u)) (same-state t))

  text-planned : plan_text ask bytes ≡ state_text (last_state bytes (calls_of ask))
  unfolding plan_text read_text
  text-planned =
      if-true _ _ _ (eq-eqb _ 0 A.sheet_read) ∙ led-text ∙ fitted-text ∙ ap state_text (sym (planned-is ask bytes))

-- ---- the builds

same_builds : (s t : State) → Shaped s → sound_state s ≡ true → StateKept s t (λ (f : ℕ → ℕ). true) → (b : List ℕ) → build_of t b ≡ build_of s b
same_builds s t h q K b =
    builds-solve t K.kept_shaped (K.kept_sound q) b
    ∙ ap₂ and (ap (eqb (length b)) K.kept_n) (K.kept_solutions (values_of b) ∙ and-true _)
    ∙ sym (builds-solve s h q b)

last-same : (s : State) → Shaped s → sound_state s ≡ true → (b : List ℕ) → build_of (last_of s) b ≡ build_of s b
unfolding last_of tables_of
last-same s h q b =
    let K = call-keeps-all s h full_reduction refl in
    let M = call-keeps-all (reduced s).state K.kept_shaped trimmed_reduction refl in
    same_builds _ _ K.kept_shaped (K.kept_sound q) M b ∙ same_builds s _ h q K b

none-tableless : tableless [] ≡ true
unfolding tableless
none-tableless = refl

led-tableless : (l : ℕ) → tableless (led_reduction l ∷ []) ≡ true
unfolding tableless tables_of and
led-tableless l = refl

lead-tableless : (ask : Ask) → tableless (lead_calls ask) ≡ true
lead-tableless ask =
    by_lead ask.lead
    (λ leader t. ap tableless (lead-asked ask leader t) ∙ led-tableless leader)
    (λ t. ap tableless (lead-none ask t) ∙ none-tableless)

module _ (ask : Ask) (bytes : List ℕ) (octets : Octets bytes) (A : Accepted ask bytes) where
  read : (read_sheet bytes).number ≡ 0
  read = A.sheet_read

  after : (cs : List Call) → LastLaws bytes cs
  unfolding AfterLaws
  after cs = after-laws bytes octets read cs

  -- The state after page nine is the last of a list too.
  second-last : last_state bytes (lead_calls ask ++ page_calls ask) ≡ second ask bytes
  unfolding last_state second first
  second-last = after_both (read_sheet bytes).state (lead_calls ask) (page_calls ask)

  second-shaped : Shaped (second ask bytes)
  second-shaped = rw (sym second-last) (after (lead_calls ask ++ page_calls ask)).last_shaped

  second-sound : sound_state (second ask bytes) ≡ true
  second-sound = ap sound_state (sym second-last) ∙ (after (lead_calls ask ++ page_calls ask)).last_sound

  module _ (b : List ℕ) where
    plain : build_of_sheet bytes (lead_calls ask) b ≡ is_build_of bytes b
    plain = (tables-none bytes octets read (lead_calls ask)).same_builds (lead-tableless ask) b

    second-builds : build_of (second ask bytes) b ≡ build_for ask bytes b
    unfolding build_for first
    second-builds =
        by_cases ask.page9
        (λ t. ap (λ (u : State). build_of u b) (sym (page-state ask bytes octets A t))
        ∙ ((nine ask bytes octets A).of_sheet (A.page_added t)).builds b
        ∙ ap (λ (x : Bool). and x (keeps_page_nine b)) plain
        ∙ sym (if-true _ _ _ t))
        (λ t. ap (λ (u : State). build_of u b) (sym (same-state ask bytes octets A t))
        ∙ (after (lead_calls ask)).last_builds b
        ∙ plain
        ∙ sym (if-false _ _ _ t))

    builds_are : build_of_sheet bytes (calls_of ask) b ≡ build_for ask bytes b
    builds_are =
        sym ((after (calls_of ask)).last_builds b)
        ∙ ap (λ (u : State). build_of u b) (planned-is ask bytes)
        ∙ last-same (second ask bytes) second-shaped second-sound b
        ∙ second-builds

-- ---- words and followers

-- An idle value is not in the word.
idle-out : (size used v : ℕ) → has (idle_word size used) v ≡ true → has used v ≡ false
unfolding idle_word
idle-out size used v t =
    by_cases (ltb v width)
    (λ l. not-e _ (and_r _ _ (sym (has_word width _ v (ltb-true v width l)) ∙ t)))
    (λ l. clash t (has-word-past width _ v (ltb-false v width l)))

-- What the completer writes for a follower.
module _ (s : State) (h : Shaped s) (q : sound_state s ≡ true) where
  led-value : (f : ℕ → ℕ) (i j : ℕ) → (view s).leader j ≡ suc i → completed (view s) f j ≡ follow (view s) j (f i)
  unfolding completed
  led-value f i j e =
      if-false _ _ _ (led-not-free (view s) j i e) ∙ ap (λ (l : ℕ). follow (view s) j (f l)) (led-pred (view s) j i e)

  completes : (b : List ℕ) → length b ≡ s.n → allowed_choice (view s) (values_of b) ≡ true → (i j : ℕ) → leads (view s) i j ≡ true
      → get_or (completed_buffer s b) j 0 ≡ follow (view s) j (get_or b i 0)
  unfolding leads values_of held
  completes b n a i j t =
      let e : (view s).leader j ≡ suc i = eqb-true _ (i + 1) t ∙ add-one i in
      ap (λ (l : List ℕ). get_or l j 0) (completed-buffer s b (complete-accepted s b q n a))
      ∙ get_d_tabulate s.n (completed (view s) (values_of b)) j 0 (follower-n (view s) (state-sound s h q) j i e)
      ∙ led-value (values_of b) i j e

  in_list : (b : List ℕ) → tested s b ≡ says true → (i : ℕ) → i < s.n → has (get_or s.domains i 0) (get_or b i 0) ≡ true
  unfolding solves in_domains values_of held
  in_list b y i l = every-e s.n _ (and_l _ _ (yes-solves s h.head_shaped q b y).1) i l

  no_lines : (build : List ℕ) → verdict_of s ≡ rules NONE build → condition_lines (view s) (survey_of s) ≡ []
  unfolding condition_lines builds_none and SurveysEvery
  no_lines build e = if-true _ _ _ (ap builds_none ((surveys s h).none_nothing build e))

-- ---- all together

pub plans : PlansEvery
unfolding PlansEvery Demand3 SoundLaws
plans ask bytes octets A =
    let L = after ask bytes octets A (calls_of ask) in
    let P : Promise bytes (calls_of ask) = demand3 bytes octets A.sheet_read (calls_of ask) in
    let s = last_state bytes (calls_of ask) in
    let is = builds_are ask bytes octets A in
    record {
      text_is = text-planned ask bytes octets A;
      used_some = λ n i v t. let x = P.survey_inside n i v t in (x.0, sym (is x.0) ∙ x.1, x.2, x.3);
      idle_none = λ n i v t b y l e. P.survey_outside n i v (idle-out _ _ v t) b (is b ∙ y) l e;
      idle_maybe = λ i v t b y l e.
          clash (ap (has (get_or s.domains i 0)) (sym e) ∙ in_list s L.last_shaped L.last_sound b ((P.tester b).1 (is b ∙ y)) i (rw L.last_n l))
          (idle-out _ _ v t);
      builds_number = λ n m.
          let most = ltb-false count_limit (build_count bytes (calls_of ask)) (sym (P.survey_more n) ∙ m) in
          P.survey_count n ∙ (let e : min (build_count bytes (calls_of ask)) count_limit ≡ build_count bytes (calls_of ask) = omega arith in e);
      followers = λ b n a i j t. completes s L.last_shaped L.last_sound b (n ∙ sym L.last_n) a i j t;
      none_conditions = λ build e. no_lines s L.last_shaped L.last_sound build e;
      shown_build = λ build e.
          sym (is (take (options bytes) build))
          ∙ sym (L.last_builds (take (options bytes) build))
          ∙ ap (λ (k : ℕ). build_of s (take k build)) (sym L.last_n)
          ∙ (sound-laws s L.last_shaped L.last_sound).shows build e;
    }
