-- Demand 3: of every accepted sheet, for every list of calls.
use mathlib.Core.Bool.{Bool, true, false}
use mathlib.Core.List.{List, [], ◌∷◌, ◌++◌}
use mathlib.Core.Logic.Iff
use mathlib.Core.Logic.{◌↔◌}
use mathlib.Core.Path.{◌≡◌, refl, sym, ap, ap₂, subst, ◌∙◌, fun_ext}
use Prim.Native.Nat.{ℕ, ◌≤◌, ◌<◌, min}
use native.Mathlib.Omega.{arith}
use lib.Dec.{eqb, ltb}
use lib.ListN.{length, get_or, take, replicate}
use borrow.Author.Tests.{eq-eqb, eqb-true}
use Rattle.bounded.specs.Bool.{and, bit}
use Rattle.bounded.specs.Table.{tabulate}
use Rattle.bounded.proofs.Bool.{not-true→false, clash, and_i, and_l, and_r, and_assoc, and-true}
use Rattle.bounded.proofs.Table.{length-tabulate, get_d_tabulate, is-table, take-tabulate}
use Rattle.words.specs.Word.{has}
use Rattle.network.specs.Network.{Network, free, solves}
use Rattle.network.specs.Sound.{Sound}
use Rattle.network.specs.Completion.{NONE, BUILT, allowed_choice, completed, verdict, decided, shown}
use Rattle.network.specs.Search.{precedes}
use Rattle.network.specs.Count.{count_tuples, sum_tuples, choice_count, solution_count}
use Rattle.network.specs.Survey.{count_limit, capped_count, more_than_count}
use Rattle.network.specs.Sheet.{Table, Sheet, network_of}
use Rattle.network.specs.Calls.{Call, answer, after, added_by, keeps_to, tableless}
use Rattle.network.specs.Promise.{Promised}
use Rattle.network.proofs.Completion.{solves-cong, one-live-decided}
use Rattle.network.proofs.Count.{sum_tuples-sizes}
use Rattle.network.proofs.Calls.{after-keeps, keeps-to-none, tableless-adds}
use Rattle.network.proofs.Promise as network
use Rattle.pairs.specs.Pairs.{variables}
use Rattle.head.specs.Held.{head_of}
use Rattle.head.proofs.Held.{Packed}
use Rattle.format.specs.Parse.{Octets, parse}
use Rattle.format.specs.Builds.{options, is_a_build, is_build_of}
use Rattle.format.proofs.Builds.{builds-solve, builds-are-solutions, options-are, option-sizes-are}
use Rattle.state.specs.declared.state.State.{State}
use Rattle.state.specs.View.{view, pack, sound_state}
use Rattle.answers.specs.Answers.{says, rules}
use Rattle.state.specs.Read.{read_sheet}
use Rattle.state.specs.Solutions.{values_of, tested, complete_number, completed_buffer, verdict_of, search_number, search_of}
use Rattle.state_search.specs.Searches.{Build, FirstBuild, SearchesEvery}
use Rattle.state_search.proofs.Searches.{searches, not-too-many}
use Rattle.state_survey.specs.Survey.{SurveyTold, survey_number, survey_of}
use Rattle.state_survey.specs.Surveys.{SurveysEvery}
use Rattle.state_survey.proofs.Told.{survey-of}
use Rattle.state_survey.proofs.Surveys.{surveys}
use Rattle.promise.specs.Promise.{state_after, tables_added, network_read, ruled_as, last_state, last_network, last_tables, build_of_sheet, build_count, Promise, WithoutTables, OneLive, Demand3}
use Rattle.state.proofs.View.{Shaped, pack-view, packed-view, packed-state, packed-shaped}
use Rattle.state.proofs.Keep.{after-packed}
use Rattle.state.proofs.Calls.{answer-packed}
use Rattle.promise.proofs.Calls.{handed-answers, call-adds, ruled-as}
use Rattle.state_read.proofs.RoundTrip.{Accepted, accepted, read-sound}
use Rattle.state.proofs.Solutions.{tested-yes, yes-solves, complete-accepted, completed-buffer, verdict-of}

-- A list of calls on a sound state hands back the state of the network that the same calls make of its network.
pub after-answers : (s : State) → Shaped s → sound_state s ≡ true → (cs : List Call) → state_after s cs ≡ pack (after (view s) cs)
unfolding state_after after
after-answers s h t [] = sym (pack-view s h)
after-answers s h t (c ∷ cs) =
    let P = answer-packed s h t c in
    ap (λ (u : State). state_after u cs) (handed-answers s h t c)
    ∙ after-answers (pack (answer (view s) c)) (packed-shaped P) (packed-state P) cs
    ∙ ap (λ (N : Network). pack (after N cs)) (packed-view P)

-- And what they add to the sheet is what they add to that network.
pub tables-answer : (s : State) → Shaped s → sound_state s ≡ true → (cs : List Call) → tables_added s cs ≡ added_by (view s) cs
unfolding tables_added added_by
tables-answer s h t [] = refl
tables-answer s h t (c ∷ cs) =
    let P = answer-packed s h t c in
    ap₂ (λ (ts us : List Table). ts ++ us) (call-adds s t c)
    (ap (λ (u : State). tables_added u cs) (handed-answers s h t c)
    ∙ tables-answer (pack (answer (view s) c)) (packed-shaped P) (packed-state P) cs
    ∙ ap (λ (N : Network). added_by N cs) (packed-view P))

count_tuples-cong : {n m : ℕ} {s t : ℕ → ℕ} {p q : (ℕ → ℕ) → Bool} → n ≡ m → ((i : ℕ) → i < n → s i ≡ t i) → ((f : ℕ → ℕ) → p f ≡ q f)
    → count_tuples n s p ≡ count_tuples m t q
unfolding count_tuples
count_tuples-cong {n} {m} {s} {t} {p} e sizes tests =
    sum_tuples-sizes n s t _ _ sizes
    ∙ ap (λ (k : ℕ). sum_tuples k t (λ (f : ℕ → ℕ). bit (p f)) (λ (i : ℕ). 0)) e
    ∙ ap (λ (r : (ℕ → ℕ) → Bool). sum_tuples m t (λ (f : ℕ → ℕ). bit (r f)) (λ (i : ℕ). 0)) (fun_ext tests)

-- The state t holds the network M, which keeps the promise for the network N with p added; and the builds, of n bytes, are the solutions of M.
pub record Serves (N M : Network) (p : (ℕ → ℕ) → Bool) (t : State) (n : ℕ) (build : List ℕ → Bool) : Type 0 where
  pub shaped : Shaped t
  pub sound : sound_state t ≡ true
  pub holds : view t ≡ M
  pub promised : Promised N M p
  pub state_n : t.n ≡ n
  pub given_n : N.n ≡ n
  pub network_n : M.n ≡ n
  pub at_most : n ≤ variables
  pub builds_are : (b : List ℕ) → build b ≡ and (eqb (length b) n) (solves M (values_of b))

-- Then every sentence of demand 3 but the count holds of t and the builds.
module _ {N M : Network} {p : (ℕ → ℕ) → Bool} {t : State} {n : ℕ} {build : List ℕ → Bool} (S : Serves N M p t n build) where
  build-i : (b : List ℕ) → length b ≡ n → solves M (values_of b) ≡ true → build b ≡ true
  build-i b e k = S.builds_are b ∙ and_i _ _ (eq-eqb _ _ e) k

  build-length : (b : List ℕ) → build b ≡ true → length b ≡ n
  build-length b x = eqb-true _ _ (and_l _ _ (sym (S.builds_are b) ∙ x))

  build-solves : (b : List ℕ) → build b ≡ true → solves M (values_of b) ≡ true
  build-solves b x = and_r _ _ (sym (S.builds_are b) ∙ x)

  build-table : (f : ℕ → ℕ) → solves M f ≡ true → build (tabulate n f) ≡ true
  unfolding values_of
  build-table f k =
      build-i (tabulate n f) (length-tabulate n f)
      (solves-cong M (values_of (tabulate n f)) f (λ i l. get_d_tabulate n f i 0 (rw S.network_n at l)) ∙ k)

  state-solves : (f : ℕ → ℕ) → solves (view t) f ≡ solves M f
  state-solves f = ap (λ (L : Network). solves L f) S.holds

  tester-says : (b : List ℕ) → (tested t b ≡ says true) ↔ (build b ≡ true)
  tester-says b = (
    λ y. let p = yes-solves t S.shaped.head_shaped S.sound b y in build-i b (p.0 ∙ S.state_n) (sym (state-solves (values_of b)) ∙ p.1),
    λ x. tested-yes t S.shaped.head_shaped S.sound b (build-length b x ∙ sym S.state_n) (state-solves (values_of b) ∙ build-solves b x),
  )

  -- Buffers of n bytes that are an allowed choice.
  module _ (b : List ℕ) (e : length b ≡ n) (a : allowed_choice M (values_of b) ≡ true) where
    not_refused : complete_number t b ≡ 0
    not_refused = complete-accepted t b S.sound (e ∙ sym S.state_n) (rw S.holds a)

    buffer-is : completed_buffer t b ≡ tabulate n (completed M (values_of b))
    buffer-is =
        completed-buffer t b not_refused
        ∙ ap₂ (λ (m : ℕ) (L : Network). tabulate m (completed L (values_of b))) S.state_n S.holds

    keeps-live : (i : ℕ) → i < n → free M i ≡ true → get_or (completed_buffer t b) i 0 ≡ get_or b i 0
    unfolding values_of
    keeps-live i l k = rw buffer-is (get_d_tabulate n _ i 0 l ∙ S.promised.keeps (values_of b) i k)

    gives-build : build (completed_buffer t b) ≡ true
    gives-build = rw buffer-is (build-table (completed M (values_of b)) (S.promised.tester _ ∙ S.promised.completes (values_of b) a))

    only-build : (c : List ℕ) → build c ≡ true → ((i : ℕ) → i < n → free M i ≡ true → get_or c i 0 ≡ get_or b i 0) → c ≡ completed_buffer t b
    unfolding values_of
    only-build c x live =
        is-table n _ c 0 (build-length c x)
        (λ k l. S.promised.only (values_of b) (values_of c) a (sym (S.promised.tester _) ∙ build-solves c x)
        (λ i m q. live i (rw S.given_n at m) q) k (rw S.given_n l))
        ∙ sym buffer-is

  pub rules-none : ruled_as NONE (verdict_of t) ↔ (verdict M ≡ NONE)
  rules-none = rw S.holds at (ruled-as t S.sound NONE)

  pub no_build : ((f : ℕ → ℕ) → and (solves N f) (p f) ≡ false) ↔ ((b : List ℕ) → build b ≡ false)
  no_build = (
    λ none b. not-true→false _ (λ x. clash (sym (S.promised.tester _) ∙ build-solves b x) (none (values_of b))),
    λ none f. not-true→false _ (λ k. clash (build-table f (S.promised.tester f ∙ k)) (none (tabulate n f))),
  )

  pub shows_build : decided M ≡ true → (ruled_as NONE (verdict_of t) → ⊥)
      → (shows : List ℕ) × (verdict_of t ≡ rules BUILT shows) × (build (take n shows) ≡ true)
  shows_build d not_None =
      let b = S.promised.built d (λ v. not_None (rules-none.1 v)) in (
        tabulate 16 (shown M),
        verdict-of t S.sound ∙ rw (S.holds, b.0),
        rw (take-tabulate n 16 (shown M) S.at_most) (build-table (shown M) (S.promised.tester _ ∙ b.1)),
      )

  -- A build of the state is a build, and the other way round.
  no-state-build : ((b : List ℕ) → Build t b → ⊥) ↔ ((b : List ℕ) → build b ≡ false)
  no-state-build = (
    λ none b. not-true→false _ (λ x. none b ((tester-says b).1 x)),
    λ none b y. clash ((tester-says b).0 y) (none b),
  )

  -- The search, where it does not refuse.
  module _ (q : search_number t ≡ 0) where
    search-none-exactly : (search_of t ≡ rules NONE (replicate 16 0)) ↔ ((b : List ℕ) → build b ≡ false)
    unfolding SearchesEvery
    search-none-exactly = Iff.trans ((searches t S.shaped).none_exactly S.sound (not-too-many t S.sound q)) no-state-build

    finds-first : (search_of t ≡ rules NONE (replicate 16 0) → ⊥)
        → (shows : List ℕ) × (search_of t ≡ rules BUILT shows) × (build (take n shows) ≡ true)
        × ((c : List ℕ) → build c ≡ true → precedes M (values_of c) (values_of (take n shows)) ≡ false)
    unfolding SearchesEvery
    finds-first not_None =
        let (shows, F) = (searches t S.shaped).found_first S.sound (not-too-many t S.sound q) not_None in
        let first : FirstBuild t (take n shows) = subst (λ (m : ℕ). FirstBuild t (take m shows)) S.state_n F.first_build in (
          shows,
          F.says_built,
          (tester-says (take n shows)).0 first.is_build,
          λ c x. ap (λ (L : Network). precedes L (values_of c) (values_of (take n shows))) (sym S.holds) ∙ first.none_before c ((tester-says c).1 x),
        )

  -- The survey, where it does not refuse: a value in a word is that of a build, and that of a build is in the word.
  module _ (z : survey_number t ≡ 0) (i v : ℕ) where
    survey-has : has (get_or (survey_of t).words i 0) v ≡ true → (b : List ℕ) × (build b ≡ true) × (i < n) × (get_or b i 0 ≡ v)
    unfolding SurveysEvery
    survey-has q =
        let w = ((surveys t S.shaped).value_exactly z i v).0 q in
        (w.0, (tester-says w.0).0 w.1, subst (λ (m : ℕ). i < m) S.state_n w.2, w.3)

    survey-shows : (b : List ℕ) → build b ≡ true → i < n → get_or b i 0 ≡ v → has (get_or (survey_of t).words i 0) v ≡ true
    unfolding SurveysEvery
    survey-shows b x l e = ((surveys t S.shaped).value_exactly z i v).1 (b, (tester-says b).1 x, subst (λ (m : ℕ). i < m) (sym S.state_n) l, e)

-- An accepted sheet, and any list of calls.
module _ (bytes : List ℕ) (octets : Octets bytes) (h : (read_sheet bytes).number ≡ 0) (s : Sheet) (A : Accepted bytes s)
    (cs : List Call) where
  network-read : network_read (parse bytes) ≡ network_of s
  unfolding network_read
  network-read = rw A.got_sheet

  pub last-network : last_network bytes cs ≡ after (network_of s) cs
  unfolding last_network
  last-network = ap (λ (N : Network). after N cs) network-read

  last-state : last_state bytes cs ≡ pack (last_network bytes cs)
  unfolding last_state
  last-state =
      let r = read-sound bytes octets h in
      after-answers (read_sheet bytes).state r.read_shaped r.is_sound cs
      ∙ ap (λ (N : Network). pack (after N cs)) A.view_is ∙ ap pack (sym last-network)

  last-packed : Packed (last_network bytes cs)
  last-packed =
      let r = read-sound bytes octets h in
      rw (last-network, ← A.view_is) (after-packed (read_sheet bytes).state r.read_shaped r.is_sound cs)

  last_sound : Sound (last_network bytes cs)
  last_sound = rw last-network (after-keeps (network_of s) A.sheet_sound cs).still_sound

  n-options : (network_of s).n ≡ options bytes
  n-options = sym (options-are bytes octets s (length bytes) A.got_sheet)

  last_n : (last_state bytes cs).n ≡ options bytes
  unfolding pack head_of
  last_n =
      ap (λ (t : State). t.n) last-state
      ∙ ap (λ (N : Network). N.n) last-network ∙ (after-keeps (network_of s) A.sheet_sound cs).same_n ∙ n-options

  -- The tables that the calls added to the sheet are those that they added to its network.
  last-tables : last_tables bytes cs ≡ added_by (network_of s) cs
  unfolding last_tables
  last-tables =
      let r = read-sound bytes octets h in
      tables-answer (read_sheet bytes).state r.read_shaped r.is_sound cs ∙ ap (λ (N : Network). added_by N cs) A.view_is

  promised : Promised (network_of s) (last_network bytes cs) (keeps_to (last_tables bytes cs))
  promised = rw (last-network, last-tables) (network.promise (network_of s) A.sheet_sound cs)

  sheet-builds : (b : List ℕ) → build_of_sheet bytes cs b ≡ and (eqb (length b) (options bytes)) (solves (last_network bytes cs) (values_of b))
  unfolding build_of_sheet values_of
  sheet-builds b =
      ap (λ (x : Bool). and x (keeps_to (last_tables bytes cs) (values_of b)))
      (builds-are-solutions bytes octets s (length bytes) A.got_sheet b ∙ rw n-options)
      ∙ and_assoc _ _ _ ∙ ap (and (eqb (length b) (options bytes))) (sym (promised.tester (values_of b)))

  pub serves : Serves (network_of s) (last_network bytes cs) (keeps_to (last_tables bytes cs)) (last_state bytes cs) (options bytes) (build_of_sheet bytes cs)
  serves =
      record {
        shaped = rw last-state (packed-shaped last-packed);
        sound = ap sound_state last-state ∙ packed-state last-packed;
        holds = ap view last-state ∙ packed-view last-packed;
        promised = promised;
        state_n = last_n;
        given_n = n-options;
        network_n = ap (λ (N : Network). N.n) last-network ∙ (after-keeps (network_of s) A.sheet_sound cs).same_n ∙ n-options;
        at_most = rw (← n-options) A.at_most;
        builds_are = sheet-builds;
      }

  counts : choice_count (last_network bytes cs) ≡ build_count bytes cs
  unfolding build_count solution_count
  counts =
      promised.counted
      ∙ count_tuples-cong n-options
      (λ i l. sym (option-sizes-are bytes octets s (length bytes) A.got_sheet i l))
      (λ f. ap (λ (x : Bool). and x (keeps_to (last_tables bytes cs) f)) (sym (builds-solve bytes octets s (length bytes) A.got_sheet f)))

  -- So many builds has the state too, and so many are surveyed.
  counts-last : choice_count (view (last_state bytes cs)) ≡ build_count bytes cs
  counts-last = ap choice_count serves.holds ∙ counts

  survey-counts : survey_number (last_state bytes cs) ≡ 0
      → (survey_of (last_state bytes cs)).count ≡ min (choice_count (view (last_state bytes cs))) count_limit
  unfolding capped_count
  survey-counts z = ap (λ (x : SurveyTold). x.count) (survey-of (last_state bytes cs) z)

  survey-flags : survey_number (last_state bytes cs) ≡ 0 → (survey_of (last_state bytes cs)).more ≡ ltb count_limit (choice_count (view (last_state bytes cs)))
  unfolding more_than_count
  survey-flags z = ap (λ (x : SurveyTold). x.more) (survey-of (last_state bytes cs) z)

  -- Follow steps and full reductions add no table.
  no-tables : tableless cs ≡ true → (f : ℕ → ℕ) → keeps_to (last_tables bytes cs) f ≡ true
  no-tables e f = rw (last-tables, tableless-adds (network_of s) cs e) (keeps-to-none f)

  pub promise : Promise bytes cs
  promise =
      let S = serves in
      record {
        packed = last-state;
        tester = tester-says S;
        completer_accepts = not_refused S;
        completer_keeps = keeps-live S;
        completer_builds = gives-build S;
        completer_only = λ b c e a x live. only-build S b e a c x live;
        counted = counts;
        none_only = λ r. (no_build S).0 (S.promised.none_only ((rules-none S).0 r));
        none_when = λ d none. (rules-none S).1 (S.promised.none_when d ((no_build S).1 none));
        built = shows_build S;
        search_none = search-none-exactly S;
        search_first = finds-first S;
        survey_count = λ z. survey-counts z ∙ ap (λ (c : ℕ). min c count_limit) counts-last;
        survey_more = λ z. survey-flags z ∙ ap (ltb count_limit) counts-last;
        survey_inside = survey-has S;
        survey_outside = λ z i v o b x l e. clash (survey-shows S z i v b x l e) o;
      }

-- Demand 3, whole.
pub demand3 : Demand3
unfolding Demand3
demand3 bytes octets h cs = let (s, A) = accepted bytes octets h in promise bytes octets h s A cs

-- Without added tables.
pub tables-none : (bytes : List ℕ) → Octets bytes → (read_sheet bytes).number ≡ 0 → (cs : List Call) → WithoutTables bytes cs
unfolding build_of_sheet build_count
tables-none bytes octets h cs =
    let (s, A) = accepted bytes octets h in
    let none = no-tables bytes octets h s A cs in
    record {
      same_builds = λ e b. ap (and (is_build_of bytes b)) (none e (values_of b)) ∙ and-true _;
      same_count = λ e. count_tuples-cong refl (λ i l. refl) (λ f. ap (and (is_a_build bytes f)) (none e f) ∙ and-true _);
    }

-- The same accepted sheets and lists of calls, with one live option.
pub one_live : (bytes : List ℕ) → ((k : ℕ) → get_or bytes k 0 < 256) → (read_sheet bytes).number ≡ 0 → (cs : List Call) → OneLive bytes cs
one_live bytes octets h cs =
    let (s, A) = accepted bytes octets h in
    let P = promise bytes octets h s A cs in
    let decides = one-live-decided (last_network bytes cs) (last_sound bytes octets h s A cs) in
    record { none_exactly = λ e. (P.none_only, P.none_when (decides e)); built_otherwise = λ e. P.built (decides e) }
