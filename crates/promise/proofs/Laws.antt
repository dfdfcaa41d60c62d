-- The laws that a layer above the sheets leans on: what is known of networks, told of what the calls answer.
use mathlib.Core.Bool.{Bool, true, false}
use mathlib.Core.List.{List, [], ◌∷◌, ◌++◌}
use mathlib.Core.Path.{◌≡◌, refl, sym, ap, ap₂, ◌∙◌}
use Prim.Native.Nat.{ℕ, pred}
use native.Mathlib.Omega.{arith}
use lib.Dec.{eqb}
use lib.ListN.{length, take}
use borrow.Author.Tests.{eq-eqb, eqb-true}
use Rattle.bounded.specs.Bool.{and}
use Rattle.bounded.proofs.Bool.{bool-ext, clash, and_i, and_l, and_r, and_assoc, implies_true}
use Rattle.network.specs.Network.{solves}
use Rattle.network.specs.Completion.{BUILT, verdict, decided}
use Rattle.network.specs.Added.{meets_table, table_allows}
use Rattle.network.specs.Calls.{Call, full_reduction, add_table, after, added_by, keeps_to}
use Rattle.network.specs.Promise.{Promised}
use Rattle.network.proofs.Completion.{verdict-built}
use Rattle.network.proofs.Added.{add-refuses}
use Rattle.network.proofs.Promise as network
use Rattle.head.specs.Held.{held}
use Rattle.head.proofs.Held.{held-n}
use Rattle.format.specs.Parse.{Octets}
use Rattle.state.specs.declared.state.State.{State}
use Rattle.state.specs.View.{Shaped, view, sound_state}
use Rattle.answers.specs.Answers.{TestTold, says, refuses, test_agrees, rules}
use Rattle.state.specs.Read.{read_sheet}
use Rattle.state.specs.Steps.{reduced}
use Rattle.state.specs.Tables.{table_added, TablesByRules}
use Rattle.state.specs.Solutions.{values_of, tested, verdict_of}
use Rattle.state.proofs.View.{state-sound}
use Rattle.state.proofs.Calls.{StateKept, call-number}
use Rattle.state.proofs.Steps.{reduced-keeps}
use Rattle.state.proofs.Tables.{sound-table, table-keeps-state}
use Rattle.state.proofs.Solutions.{tested-yes, yes-solves}
use Rattle.state_read.proofs.RoundTrip.{accepted}
use Rattle.promise.specs.Promise.{state_handed_back, state_after, ruled_as, last_state, build_of_sheet, Promise}
use Rattle.promise.specs.Laws.{build_of, keeps_to_rows, HandedOn, RowsFit, StateLaws, SoundLaws, LastLaws, AfterLaws}
use Rattle.promise.proofs.Calls.{ruled-as}
use Rattle.promise.proofs.Promise.{Serves, rules-none, no_build, shows_build, serves, promise}

agrees-says : (t : TestTold) → test_agrees t ≡ true → t ≡ says true
unfolding test_agrees
agrees-says (says b) h = ap says h
agrees-says (refuses k) h = clash h refl

-- The builds of a sound state are the solutions of its network, of n bytes.
module _ (s : State) (h : Shaped s) (t : sound_state s ≡ true) where
  pub builds-solve : (b : List ℕ) → build_of s b ≡ and (eqb (length b) s.n) (solves (view s) (values_of b))
  unfolding build_of test_agrees
  builds-solve b =
      bool-ext _ _
      (λ y. let p = yes-solves s h.head_shaped t b (agrees-says _ y) in and_i _ _ (eq-eqb _ _ p.0) p.1)
      (λ k. ap test_agrees (tested-yes s h.head_shaped t b (eqb-true _ _ (and_l _ _ k)) (and_r _ _ k)))

-- What a call keeps of solutions it keeps of builds.
handed-on : (s t : State) → Shaped s → sound_state s ≡ true → (p : (ℕ → ℕ) → Bool) → StateKept s t p → (q : List ℕ → Bool) → ((b : List ℕ) → p (values_of b) ≡ q b) → HandedOn s t q
handed-on s t h sound p K q same =
    record {
      on_shaped = K.kept_shaped;
      on_sound = K.kept_sound sound;
      on_n = K.kept_n;
      on_builds = λ b.
          builds-solve t K.kept_shaped (K.kept_sound sound) b
          ∙ ap₂ (λ (n : ℕ) (x : Bool). and (eqb (length b) n) x) K.kept_n (K.kept_solutions (values_of b))
          ∙ sym (and_assoc _ _ _)
          ∙ ap₂ and (sym (builds-solve s h sound b)) (same b);
    }

-- A sound state and its own builds.
module _ (s : State) (h : Shaped s) (t : sound_state s ≡ true) where
  serves-itself : Serves (view s) (view s) (keeps_to []) s s.n (build_of s)
  unfolding held
  serves-itself =
      let P = network.promise (view s) (state-sound s h t) [] in
      record {
        shaped = h;
        sound = t;
        holds = refl;
        promised = unfold after added_by in P;
        state_n = refl;
        given_n = refl;
        network_n = refl;
        at_most = held-n _ s.rows t;
        builds_are = builds-solve s h t;
      }

  -- With BUILT the first n bytes shown are a build.
  built-shows : (shown : List ℕ) → verdict_of s ≡ rules BUILT shown → build_of s (take s.n shown) ≡ true
  unfolding ruled_as
  built-shows shown e =
      let v : verdict (view s) ≡ BUILT = (ruled-as s t BUILT).0 (shown, e) in
      let b = shows_build serves-itself (verdict-built (view s) v).1
      (λ r. let q = r.1 in let z : ◌≡◌ {A = ℕ} 0 1 = cc in omega arith) in
      let q = b.1 in
      let same : b.0 ≡ shown = cc in
      rw same at b.2

  fitting : (x y : ℕ) (rows : List ℕ) → RowsFit s x y rows → (table_added s x y rows).number ≡ 0
  unfolding table_allows held
  fitting x y rows F =
      call-number s (add_table x y rows) ∙ sound-table s x y rows t
      ∙ (add-refuses (view s) x y rows).number_0.1 (
        (record { from_1 = F.first_in.0; to_n = F.first_in.1 }, record { from_1 = F.second_in.0; to_n = F.second_in.1 }),
        (F.apart, record { row_count = F.a_row_each; bits_below = F.bits_below }),
      )

  added-builds : (x y : ℕ) (rows : List ℕ) → (table_added s x y rows).number ≡ 0 → HandedOn s (table_added s x y rows).state (keeps_to_rows x y rows)
  unfolding meets_table table_allows values_of keeps_to_rows
  added-builds x y rows e =
      handed-on s _ h t _ (table-keeps-state s h x y rows) _ (λ b. implies_true _ _ (eq-eqb _ 0 (sym (call-number s (add_table x y rows)) ∙ e)))

pub sound-laws : SoundLaws
unfolding SoundLaws ruled_as
sound-laws s h t =
    let S = serves-itself s h t in
    record {
      adds = fitting s h t;
      added_on = added-builds s h t;
      reduced_on = handed-on s _ h t _ (reduced-keeps s h) _ (λ b. refl);
      none_only = λ r. (no_build S).0 (S.promised.none_only ((rules-none S).0 r));
      none_when = λ d none. (rules-none S).1 (S.promised.none_when d ((no_build S).1 none));
      built = λ d not_None. let b = shows_build S d not_None in (b.0, b.1);
      shows = built-shows s h t;
    }

-- ---- after a list of calls

-- Two lists of calls, one after the other.
pub after_both : (s : State) (cs ds : List Call) → state_after s (cs ++ ds) ≡ state_after (state_after s cs) ds
unfolding state_after
after_both s [] ds = refl
after_both s (c ∷ cs) ds = after_both (state_handed_back s c) cs ds

added-last : (bytes : List ℕ) (cs : List Call) (x y : ℕ) (rows : List ℕ)
    → last_state bytes (cs ++ (add_table x y rows ∷ full_reduction ∷ [])) ≡ (reduced (table_added (last_state bytes cs) x y rows).state).state
added-last bytes cs x y rows =
    let e = after_both (read_sheet bytes).state cs (add_table x y rows ∷ full_reduction ∷ []) in unfold last_state state_after state_handed_back in e

pub after-laws : AfterLaws
unfolding AfterLaws build_of test_agrees
after-laws bytes octets h cs =
    let (s, A) = accepted bytes octets h in
    let S = serves bytes octets h s A cs in
    let P : Promise bytes cs = promise bytes octets h s A cs in
    record {
      last_shaped = S.shaped;
      last_sound = S.sound;
      last_n = S.state_n;
      last_builds = λ b. bool-ext _ _ (λ y. (P.tester b).0 (agrees-says _ y)) (λ x. ap test_agrees ((P.tester b).1 x));
      then_adds = added-last bytes cs;
    }
