-- Page nine is kept: from the laws of `promise`, with nothing of how a state is held.
use mathlib.Core.Bool.{Bool, true}
use mathlib.Core.List.{List}
use mathlib.Core.Path.{◌≡◌, refl, sym, ap, subst, ◌∙◌}
use Prim.Native.Nat.{ℕ, ◌≤◌}
use native.Mathlib.Omega.{arith}
use lib.ListN.{get_or, take}
use lib.Seq.{get_or-take}
use Rattle.bounded.specs.Bool.{and}
use Rattle.bounded.proofs.Bool.{by_cases, and_l, and_r, and-true, and-holds, and-fails}
use Rattle.bounded.proofs.Table.{length-tabulate}
use Rattle.network.specs.Completion.{BUILT}
use Rattle.answers.specs.Answers.{rules}
use Rattle.state.specs.declared.state.State.{State}
use Rattle.state.specs.View.{Shaped, sound_state}
use Rattle.state.specs.Tables.{table_added}
use Rattle.promise.specs.Promise.{last_state, build_of_sheet}
use Rattle.promise.specs.Laws.{build_of, keeps_to_rows, HandedOn, RowsFit, StateLaws, SoundLaws, AfterLaws}
use Rattle.promise.proofs.Laws.{sound-laws, after-laws}
use Rattle.meter_rule.specs.PageNine.{go_together, page_nine}
use Rattle.meter.specs.Fitted.{fit_refusal, fitted_state, fitted}
use Rattle.meter.specs.Promise.{keeps_page_nine, KeepsPageNine, MeterPromise, PageNineKept, SheetPromise, PageNineAfter}
use Rattle.meter_rule.proofs.PageNine.{page-nine-allows, page-nine-below}
use Rattle.meter.proofs.Fitted.{fitted-done, fitted-number, fitted-back, fits-sound, flat-options, flat-cell, flat-interval}

laws : (s : State) → Shaped s → sound_state s ≡ true → StateLaws s
laws = let L = sound-laws in unfold SoundLaws in L

-- A state that is not refused.
module _ (s : State) (h : Shaped s) (e : fit_refusal s ≡ 0) where
  rows_fit : RowsFit s 1 2 page_nine
  unfolding page_nine
  rows_fit =
      let two = flat-options s e in
      record {
        first_in = (omega arith, omega arith);
        second_in = (omega arith, two);
        apart = λ x. omega arith;
        a_row_each = length-tabulate 4 _ ∙ sym (flat-cell s e);
        bits_below = λ c d b. rw (flat-interval s e) (page-nine-below c d b);
      }

  -- The table is added,
  pub page-nine-taken : (table_added s 1 2 page_nine).number ≡ 0
  page-nine-taken = (laws s h (fits-sound s e)).adds 1 2 page_nine rows_fit

  pub with-table : HandedOn s (table_added s 1 2 page_nine).state (keeps_to_rows 1 2 page_nine)
  with-table = (laws s h (fits-sound s e)).added_on 1 2 page_nine page-nine-taken

  -- and the state is reduced.
  pub then-reduced : HandedOn (table_added s 1 2 page_nine).state (fitted_state s) (λ (b : List ℕ). true)
  unfolding fitted_state
  then-reduced = (laws _ with-table.on_shaped with-table.on_sound).reduced_on

  fitted-laws : StateLaws (fitted_state s)
  fitted-laws = laws _ then-reduced.on_shaped then-reduced.on_sound

  fitted-builds : (b : List ℕ) → build_of (fitted_state s) b ≡ and (build_of s b) (keeps_page_nine b)
  unfolding keeps_to_rows keeps_page_nine
  fitted-builds b = then-reduced.on_builds b ∙ and-true _ ∙ with-table.on_builds b ∙ ap (and (build_of s b)) (page-nine-allows _ _)

  fitted-n : (fitted_state s).n ≡ s.n
  fitted-n = then-reduced.on_n ∙ with-table.on_n

  -- The first two values of a build are among its first n bytes.
  keeps-take : (b : List ℕ) → keeps_page_nine (take s.n b) ≡ keeps_page_nine b
  unfolding keeps_page_nine
  keeps-take b =
      let two = flat-options s e in
      rw (get_or-take s.n b 0 0 (omega arith), get_or-take s.n b 1 0 (omega arith))

  -- Whatever passes for the builds of s.
  module _ (p : List ℕ → Bool) (same : (b : List ℕ) → build_of s b ≡ p b) where
    passes : (b : List ℕ) → build_of (fitted_state s) b ≡ and (p b) (keeps_page_nine b)
    passes b = fitted-builds b ∙ ap (λ (x : Bool). and x (keeps_page_nine b)) (same b)

    keeps : KeepsPageNine s.n p s
    keeps =
        let F = fitted-laws in
        let d = fitted-done s e in
        let shown-passes : (b : List ℕ) → (fitted s).verdict ≡ rules BUILT b → and (p (take s.n b)) (keeps_page_nine (take s.n b)) ≡ true =
        λ b v. sym (passes _) ∙ ap (λ (n : ℕ). build_of (fitted_state s) (take n b)) (sym fitted-n) ∙ F.shows b (rw d at v) in
        record {
          builds = λ b. rw d (passes b);
          none_breaks = λ b v. sym (keeps-take b) ∙ and_r _ _ (shown-passes b v);
          shows = λ b v. and_l _ _ (shown-passes b v);
          none_only = λ r b x. sym (and-holds _ _ x) ∙ sym (passes b) ∙ F.none_only (rw d at r) b;
          none_when = λ a none. rw d (F.none_when (rw d at a)
              (λ b. passes b ∙ by_cases (p b) (λ x. and-holds _ _ x ∙ none b x) (λ x. and-fails _ _ x)));
          built = λ a not_None. rw d (F.built (rw d at a) (rw d at not_None));
        }

pub page-nine-kept : PageNineKept
unfolding PageNineKept
page-nine-kept s h =
    record {
      still_sound = λ n. let e = sym (fitted-number s) ∙ n in rw (fitted-done s e) (then-reduced s h e).on_sound;
      fits = λ n. keeps s h (sym (fitted-number s) ∙ n) (build_of s) (λ b. refl);
      handed_back = fitted-back s;
    }

pub page-nine-after : PageNineAfter
unfolding PageNineAfter AfterLaws fitted_state
page-nine-after bytes octets h cs =
    let L = after-laws bytes octets h cs in
    let s = last_state bytes cs in
    record {
      of_sheet = λ n.
          subst (λ (m : ℕ). KeepsPageNine m (build_of_sheet bytes cs) s) L.last_n
          (keeps s L.last_shaped (sym (fitted-number s) ∙ n) (build_of_sheet bytes cs) L.last_builds);
      of_list = λ n. rw (fitted-done s (sym (fitted-number s) ∙ n)) (sym (L.then_adds 1 2 page_nine));
    }
