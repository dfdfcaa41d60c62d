-- What the survey of a state tells, in each case.
use mathlib.Core.Bool.{Bool, true, false}
use mathlib.Core.List.{List}
use mathlib.Core.Path.{◌≡◌, refl, sym, ap, ◌∙◌}
use Prim.Native.Nat.{ℕ, ◌≤◌, ◌<◌, min}
use native.Mathlib.Omega.{arith}
use lib.Dec.{ltb}
use lib.ListN.{replicate, length-replicate, get_or-replicate}
use borrow.Author.Tests.{eq-eqb, ne_eqb, le-ltb}
use Rattle.bounded.specs.Table.{tabulate}
use Rattle.bounded.proofs.Bool.{if-true, if-false, not-i, not-false-i}
use Rattle.bounded.proofs.Table.{is-table, tabulate-cong}
use Rattle.words.specs.Word.{width, word}
use Rattle.words.proofs.Laws.{word-cong, word_none}
use Rattle.network.specs.Network.{Network}
use Rattle.network.specs.Sound.{Sound}
use Rattle.network.specs.Survey.{Tally, nothing, tied_product, surveyed, used_value, survey_refusal, count_limit, capped_count, more_than_count}
use Rattle.network.proofs.Survey.{survey-exhausted, surveyed-surveys}
use Rattle.survey.specs.declared.Surveyed.{Surveyed}
use Rattle.survey.specs.Surveyed.{SurveyedIn}
use Rattle.state.specs.declared.state.State.{State}
use Rattle.state.specs.View.{view, sound_state}
use Rattle.state_survey.specs.Survey.{SurveyTold, survey_number, survey_of}
use Rattle.state_survey.specs.Surveys.{nothing_told}

module _ (s : State) where
  pub survey-unsound : sound_state s ≡ false → survey_number s ≡ 9
  unfolding survey_number
  survey-unsound h = if-true _ _ _ (not-i _ h)

  pub survey-own : sound_state s ≡ true → survey_number s ≡ survey_refusal (view s)
  unfolding survey_number
  survey-own h = if-false _ _ _ (not-false-i _ h)

  pub survey-of : survey_number s ≡ 0
      → survey_of s ≡ record {
        number = 0;
        count = capped_count (view s);
        more = more_than_count (view s);
        words = tabulate 16 (λ (i : ℕ). word width (used_value (view s) (λ (f : ℕ → ℕ). true) i));
      }
  unfolding survey_of
  survey-of e = if-true _ _ _ (eq-eqb _ 0 e)

  pub survey-refuses : (number : ℕ) → survey_number s ≡ number → 1 ≤ number → survey_of s ≡ nothing_told number
  unfolding survey_of
  survey-refuses number e h = if-false _ _ _ (ne_eqb (survey_number s) 0 (omega arith)) ∙ ap nothing_told e

-- The parts of what is told.
told_as : ℕ → ℕ → Bool → List ℕ → SurveyTold
told_as number count more words = record { number = number; count = count; more = more; words = words }

-- Of a sound state it is told by the tally of the survey,
module _ (s : State) (S : Sound (view s)) (z : survey_number s ≡ 0) where
  pub told-surveyed : survey_of s
      ≡ record {
        number = 0;
        count = min (surveyed (view s)).count count_limit;
        more = ltb count_limit (surveyed (view s)).count;
        words = tabulate 16 (λ (i : ℕ). word width ((surveyed (view s)).used i));
      }
  unfolding capped_count more_than_count told_as
  told-surveyed =
      let U = surveyed-surveys (view s) S in
      survey-of s z
      ∙ sym (ap (λ (c : ℕ). told_as 0 (min c count_limit) (ltb count_limit c) (tabulate 16 (λ (i : ℕ). word width ((surveyed (view s)).used i)))) U.count_is
      ∙ ap (told_as 0 (capped_count (view s)) (more_than_count (view s))) (tabulate-cong 16 _ _ (λ i _. word-cong width _ _ (λ v _. U.used_is i v))))

  pub told_of : (r : Surveyed) → SurveyedIn (view s) r → record { number = 0; count = r.count; more = r.more; words = r.words } ≡ survey_of s
  told_of r R = let a = R.count_is in let b = R.more_is in let c = R.words_are in let d = told-surveyed in cc

  -- and it is nothing where that is.
  pub told-nothing : (surveyed (view s)).count ≡ 0 → ((i v : ℕ) → (surveyed (view s)).used i v ≡ false) → survey_of s ≡ nothing_told 0
  unfolding count_limit told_as
  told-nothing c u =
      told-surveyed
      ∙ ap (λ (c : ℕ). told_as 0 (min c 18446744073709551615) (ltb 18446744073709551615 c) (tabulate 16 (λ (i : ℕ). word width ((surveyed (view s)).used i)))) c
      ∙ ap (λ (b : Bool). told_as 0 0 b (tabulate 16 (λ (i : ℕ). word width ((surveyed (view s)).used i)))) (le-ltb 18446744073709551615 0 (omega arith))
      ∙ ap (told_as 0 0 false)
      (sym (is-table 16 _ (replicate 16 0) 0 (length-replicate {A = ℕ} 16 0) (λ i l. get_or-replicate 16 i 0 0 l ∙ sym (word_none width _ (λ v _. u i v)))))

  pub told-empty : tied_product (view s) ≡ 0 → survey_of s ≡ nothing_told 0
  unfolding nothing
  told-empty e =
      let q = survey-exhausted (view s) e in
      told-nothing (ap (λ (x : Tally). x.count) q) (λ i v. ap (λ (x : Tally). x.used i v) q)
