-- The table from its parts, and how long it can be.
use mathlib.Core.Bool.{Bool, true, false}
use mathlib.Core.List.{List, [], ◌++◌}
use mathlib.Core.Path.{◌≡◌, refl, sym, ◌∙◌, ap}
use Prim.Native.Nat.{ℕ, ◌^◌, ◌≤◌, ◌<◌}
use native.Mathlib.Omega.{arith}
use lib.Dec.{eqb}
use lib.ListN.{length, get_or, length-append}
use borrow.Author.Tests.{ne_eqb}
use Rattle.std.specs.Prelude.{Result, Ok, Err}
use Rattle.bounded.specs.Bool.{and}
use Rattle.bounded.proofs.Bool.{by_cases, if-true, if-false, true-and, false-and}
use Rattle.bounded.proofs.Fold.{count-le}
use Rattle.buffers.specs.Digits.{decimal}
use Rattle.buffers.proofs.Digits.{length-decimal-le}
use Rattle.cause.specs.declared.Cause.{Cause}
use Rattle.cause.proofs.Laws.{number-positive}
use Rattle.network.specs.Network.{Network}
use Rattle.answers.specs.declared.Verdict.{Verdict}
use Rattle.answers.specs.Answers.{VerdictTold, verdict_told, verdict_solution}
use Rattle.head.specs.declared.Head.{Head}
use Rattle.head.specs.Held.{HeadShaped, held, sound_in}
use Rattle.head.proofs.Held.{held-n}
use Rattle.state.specs.declared.state.State.{State}
use Rattle.state.specs.View.{state_of}
use Rattle.state.specs.Solutions.{verdict_of, search_of}
use Rattle.survey.specs.declared.Surveyed.{Surveyed}
use Rattle.state_survey.specs.Survey.{SurveyTold, survey_told, survey_of}
use Rattle.text_lines.specs.Text.{ascii}
use Rattle.text_put.specs.Put.{Put}
use Rattle.text_put.proofs.Laws.{put_then, put-text}
use Rattle.plan_lines.specs.Lines.{option_lines, steps_of, ruling_text, stock_lines, idle_lines, builds_line}
use Rattle.plan_lines.proofs.Lengths.{options_le, stocks-le, idles-le, ruling-le, builds-le}
use Rattle.plan_ifs.specs.Ifs.{if_lines}
use Rattle.plan_ifs.proofs.Lengths.{ifs-le}
use Rattle.plan_state.specs.Plan.{options_text, verdict_line, found_line, search_line, ruling_lines, builds_none, condition_lines, used_lines, maybe_lines, survey_lines, plan_as, state_text}

-- ---- options, verdict and search

length-search : length (ascii "SEARCH") ≡ 6
unfolding ascii
length-search = refl

length-verdict : length (ascii "VERDICT") ≡ 7
unfolding ascii
length-verdict = refl

pub begin-put : (n : ℕ) (leaders lists : List ℕ) {k : ℕ} → k ≡ steps_of leaders n → {a b c d e f : List ℕ} {at p q u v r : ℕ}
    → Put a b (ascii "OPTIONS " ++ decimal n) at p → Put b c (ascii "\n") p q → Put c d (option_lines leaders lists n) q u
    → Put d e (ascii "STEPS " ++ decimal k) u v → Put e f (ascii "\n") v r → Put a f (options_text n leaders lists) at r
unfolding options_text
begin-put n leaders lists s h i j k l =
    put_then h (put_then i (put_then j (put_then (put-text (ap (λ (m : ℕ). ascii "STEPS " ++ decimal m) s) k) l)))

pub found-put : (n : ℕ) {told v : VerdictTold} → told ≡ v → {a b c : List ℕ} {at p r : ℕ} → Put a b (ascii "SEARCH") at p
    → Put b c (ruling_text told n) p r → Put a c (found_line v n) at r
unfolding found_line
found-put n e h k = put_then h (put-text (ap (λ (w : VerdictTold). ruling_text w n) e) k)

pub found-le : (n : ℕ) (found : Result Verdict Cause) {v : VerdictTold} → verdict_told found ≡ v → n ≤ 16
    → ((i : ℕ) → get_or (verdict_solution (verdict_told found)) i 0 < 256) → length (found_line v n) ≤ 160
unfolding found_line
found-le n found e h b = rw (sym e) (simp length-append (omega (arith, length-search, ruling-le found n h b)))

module _ (s : State) (k : Verdict) (e : verdict_told (Ok k) ≡ verdict_of s) where
  pub rulings-put : {a b c d : List ℕ} {at p q r : ℕ} → Put a b (ascii "VERDICT") at p → Put b c (ruling_text (verdict_told (Ok k)) s.n) p q
      → Put c d (search_line (verdict_told (Ok k)) (search_of s) s.n) q r → Put a d (ruling_lines s) at r
  unfolding ruling_lines verdict_line
  rulings-put h i j = rw (sym e) (put_then (put_then h i) j)

  pub rulings-le : s.n ≤ 16 → ((i : ℕ) → get_or (verdict_solution (verdict_told (Ok k))) i 0 < 256)
      → length (search_line (verdict_told (Ok k)) (search_of s) s.n) ≤ 160 → length (ruling_lines s) ≤ 321
  unfolding ruling_lines verdict_line
  rulings-le h b l = rw (sym e) (simp length-append (omega (arith, length-verdict, ruling-le (Ok k) s.n h b)))

-- ---- the survey

module _ (c : Cause) where
  told-refused : eqb (survey_told (Err c)).number 0 ≡ false
  unfolding survey_told
  told-refused = ne_eqb _ 0 (λ z. omega (arith, number-positive c))

  pub some_build : false ≡ builds_none (survey_told (Err c))
  unfolding builds_none
  some_build = sym (ap (λ (b : Bool). and b (eqb (survey_told (Err c)).count 0)) told-refused ∙ false-and _)

  pub survey_refused : (n : ℕ) (sizes lists : List ℕ) → survey_lines n sizes lists (survey_told (Err c)) ≡ maybe_lines n sizes lists
  unfolding survey_lines
  survey_refused n sizes lists = if-false _ _ _ told-refused

module _ (a : Surveyed) where
  pub counted_builds : eqb a.count 0 ≡ builds_none (survey_told (Ok a))
  unfolding builds_none survey_told
  counted_builds = sym (true-and _)

  pub survey_done : (n : ℕ) (sizes lists : List ℕ) → survey_lines n sizes lists (survey_told (Ok a)) ≡ used_lines n sizes (survey_told (Ok a))
  unfolding survey_lines survey_told
  survey_done n sizes lists = if-true _ _ _ refl

  pub used-put : (n : ℕ) (sizes : List ℕ) {b c d e : List ℕ} {at p q r : ℕ} → Put b c (stock_lines (ascii "USED ") a.words n) at p
      → Put c d (idle_lines sizes a.words n) p q → Put d e (builds_line a.more a.count) q r → Put b e (used_lines n sizes (survey_told (Ok a))) at r
  unfolding used_lines survey_told
  used-put n sizes h i j = put_then h (put_then i j)

  pub used_le : (n : ℕ) (sizes : List ℕ) → n ≤ 16 → a.count < 2 ^ 64 → length (used_lines n sizes (survey_told (Ok a))) ≤ 3601
  unfolding used_lines survey_told ascii
  used_le n sizes h c =
      simp length-append
      (omega (arith, stocks-le (ascii "USED ") a.words n h (omega arith), idles-le sizes a.words n h, builds-le a.more a.count c))

pub maybe-put : (n : ℕ) (sizes lists : List ℕ) {a b c : List ℕ} {at p r : ℕ} → Put a b (stock_lines (ascii "MAYBE ") lists n) at p
    → Put b c (idle_lines sizes lists n) p r → Put a c (maybe_lines n sizes lists) at r
unfolding maybe_lines
maybe-put n sizes lists h k = put_then h k

pub maybe_le : (n : ℕ) (sizes lists : List ℕ) → n ≤ 16 → length (maybe_lines n sizes lists) ≤ 3601
unfolding maybe_lines ascii
maybe_le n sizes lists h = simp length-append (omega (arith, stocks-le (ascii "MAYBE ") lists n h (omega arith), idles-le sizes lists n h))

-- ---- the whole

steps-le : (leaders : List ℕ) (m : ℕ) → steps_of leaders m ≤ m
unfolding steps_of
steps-le leaders m = count-le m _

begin-le : (n : ℕ) (leaders lists : List ℕ) → n ≤ 16 → ((k : ℕ) → get_or leaders k 0 < 256) → length (options_text n leaders lists) ≤ 1800
unfolding options_text ascii
begin-le n leaders lists h b =
    let m = steps-le leaders n in
    simp length-append
    (omega (
      arith,
      options_le leaders lists n h b,
      length-decimal-le 1 n (omega arith),
      length-decimal-le 1 (steps_of leaders n) (omega arith),
    ))

length-end : length (ascii "END 0 REFUSED\n") ≡ 14
unfolding ascii
length-end = refl

pub no_conditions : (N : Network) (t : SurveyTold) → builds_none t ≡ true → condition_lines N t ≡ []
unfolding condition_lines
no_conditions N t h = if-true _ _ _ h

pub conditions : (N : Network) (t : SurveyTold) → builds_none t ≡ false → condition_lines N t ≡ if_lines N
unfolding condition_lines
conditions N t h = if-false _ _ _ h

module _ (head : Head) (rows : List ℕ) (t : SurveyTold) (told : t ≡ survey_of (state_of head rows)) where
  pub plan-put : {a b c d e f : List ℕ} {at p q u v r : ℕ} → Put a b (options_text head.n head.leaders head.domains) at p
      → Put b c (ruling_lines (state_of head rows)) p q → Put c d (condition_lines (held head rows) t) q u
      → Put d e (survey_lines head.n head.sizes head.domains t) u v → Put e f (ascii "END 0 REFUSED\n") v r
      → Put a f (state_text (state_of head rows)) at r
  unfolding state_text plan_as
  plan-put h i j k l = rw (sym told) (put_then h (put_then i (put_then j (put_then k l))))

  pub plan-le : HeadShaped head → sound_in head rows ≡ true → length (ruling_lines (state_of head rows)) ≤ 321
      → length (survey_lines head.n head.sizes head.domains t) ≤ 3601 → length (state_text (state_of head rows)) ≤ 65000
  unfolding state_text plan_as
  plan-le S sound h k =
      let n = held-n head rows sound in
      let ifs : length (condition_lines (held head rows) t) ≤ 56320 =
      by_cases (builds_none t)
      (λ b. rw (no_conditions _ t b) (omega arith))
      (λ b. rw (conditions _ t b) (ifs-le head rows S sound)) in
      rw (sym told)
      (simp length-append
      (omega (arith, length-end, begin-le head.n head.leaders head.domains n S.leaders_array.element_lt)))
