-- Where no two live options are left stated together the verdict settles the sheet; a leader that is named and reaches every option leaves it so.
use mathlib.Core.Bool.{true, false}
use mathlib.Core.List.{List, [], ◌∷◌}
use mathlib.Core.Logic.{◌↔◌}
use mathlib.Core.Path.{◌≡◌, refl, sym, ap, subst, ◌∙◌}
use Prim.Native.Nat.{ℕ, suc, pred, ◌≤◌, ◌<◌}
use native.Mathlib.Omega.{arith}
use lib.Dec.{eqb}
use lib.ListN.{length}
use borrow.Author.Tests.{eq-eqb}
use Rattle.bounded.specs.Bool.{and}
use Rattle.bounded.proofs.Bool.{clash}
use Rattle.network.specs.Network.{Network, free}
use Rattle.network.specs.Completion.{NONE, BUILT, OPEN, decided, verdict}
use Rattle.network.specs.Calls.{Call, led_reduction, answer, after, tableless, tables_of, refuses, made}
use Rattle.network.specs.Reduction.{free_count, lead}
use Rattle.network.specs.Reach.{Way, leads_to, reach}
use Rattle.network.specs.Sheet.{Sheet, network_of}
use Rattle.network.proofs.Sound.{free-i}
use Rattle.network.proofs.Completion.{verdict-open, one-live-decided}
use Rattle.network.proofs.Reach.{reach-path}
use Rattle.network.proofs.Lead.{lead-sheet, lead-keeps, lead-refuses}
use Rattle.network.proofs.Calls.{answer-taken}
use Rattle.format.specs.Parse.{Octets}
use Rattle.format.specs.Builds.{options, is_build_of}
use Rattle.format.proofs.Builds.{options-are}
use Rattle.state.proofs.Calls.{call-number, call-sound}
use Rattle.state.specs.View.{view}
use Rattle.state.specs.Read.{read_sheet}
use Rattle.state.specs.Steps.{led}
use Rattle.state.specs.Solutions.{verdict_of}
use Rattle.state_read.proofs.RoundTrip.{Accepted, accepted, read-sound}
use Rattle.promise.specs.Promise.{state_handed_back, state_after, ruled_as, last_state, last_network, build_of_sheet, Promise}
use Rattle.promise.specs.Settled.{Settles, OnlyLive, NamedLeader}
use Rattle.promise.proofs.Calls.{ruled-as}
use Rattle.promise.proofs.Promise.{last-network, Serves, serves, promise, tables-none}

module _ (bytes : List ℕ) (octets : Octets bytes) (h : (read_sheet bytes).number ≡ 0) (s : Sheet) (A : Accepted bytes s) (cs : List Call)
    (none : tableless cs ≡ true) (d : decided (last_network bytes cs) ≡ true) where
  same : (b : List ℕ) → build_of_sheet bytes cs b ≡ is_build_of bytes b
  same = (tables-none bytes octets h cs).same_builds none

  pub decided-settles : Settles bytes (last_state bytes cs)
  decided-settles =
      let P = promise bytes octets h s A cs in
      let S = serves bytes octets h s A cs in
      record {
        never_open = λ r. clash d (verdict-open _ (ap verdict (sym S.holds) ∙ (ruled-as _ S.sound OPEN).0 r)).1;
        none_exactly = (λ r b. sym (same b) ∙ P.none_only r b, λ no. P.none_when d (λ b. same b ∙ no b));
        shows_build = λ r. let q = P.built d r in (q.0, q.1, sym (same _) ∙ q.2);
      }

-- The leader that is named, on a sheet just read.
module _ (bytes : List ℕ) (octets : Octets bytes) (h : (read_sheet bytes).number ≡ 0) (s : Sheet) (A : Accepted bytes s) (l : ℕ) (some : 1 ≤ l)
    (most : l ≤ options bytes) (way : (x : ℕ) → 1 ≤ x → x ≤ options bytes → Way (leads_to (view (read_sheet bytes).state)) (pred l) (pred x)) where
  n_is : options bytes ≡ length s.sizes
  unfolding network_of
  n_is = options-are bytes octets s (length bytes) A.got_sheet

  reached : (x : ℕ) → x < length s.sizes → reach (network_of s) (pred l) x ≡ true
  reached x m =
      let p : Way (leads_to (view (read_sheet bytes).state)) (pred l) x = way (suc x) (omega arith) (omega (arith, n_is)) in
      (reach-path (network_of s) A.sheet_sound (pred l) x).1 (subst (λ (N : Network). Way (leads_to N) (pred l) x) A.view_is p)

  abbrev Left : Network
  Left = (lead (network_of s) (pred l)).network

  led-sheet : ((x : ℕ) → x < length s.sizes → (free Left x ≡ true) ↔ (x ≡ pred l)) × (free_count Left ≡ 1) × (verdict Left ≡ OPEN → ⊥)
  led-sheet = lead-sheet s A.sheet_sound (pred l) (omega (arith, n_is)) reached

  not_refused : refuses (network_of s) (led_reduction l) ≡ 0
  unfolding refuses network_of
  not_refused =
      (lead-refuses (network_of s) l).number_0.1
      (record { from_1 = some; to_n = let m : l ≤ length s.sizes = omega (arith, n_is) in m }, free-i (network_of s) (pred l) refl)

  last-is : last_network bytes (led_reduction l ∷ []) ≡ Left
  unfolding after made
  last-is = last-network bytes octets h s A (led_reduction l ∷ []) ∙ answer-taken (network_of s) (led_reduction l) (eq-eqb _ 0 not_refused)

  pub only_live : OnlyLive bytes l
  unfolding last_state state_after state_handed_back tableless tables_of and
  only_live =
      let S = serves bytes octets h s A (led_reduction l ∷ []) in
      let view_is : view (led (read_sheet bytes).state l).state ≡ Left = S.holds ∙ last-is in
      let d : decided (last_network bytes (led_reduction l ∷ [])) ≡ true =
      rw last-is (one-live-decided Left (lead-keeps (network_of s) A.sheet_sound (pred l)).still_sound led-sheet.1) in
      record {
        not_refused =
            call-number (read_sheet bytes).state (led_reduction l)
            ∙ call-sound (read_sheet bytes).state (led_reduction l) (read-sound bytes octets h).is_sound
            ∙ ap (λ (N : Network). refuses N (led_reduction l)) A.view_is ∙ not_refused;
        only_live = λ x a b. let f = led-sheet.0 (pred x) (omega (arith, n_is)) in (
          λ t. let e : pred x ≡ pred l = f.0 (ap (λ (N : Network). free N (pred x)) (sym view_is) ∙ t) in omega (arith, e),
          λ e. ap (λ (N : Network). free N (pred x)) view_is ∙ f.1 (ap pred e),
        );
        settles = decided-settles bytes octets h s A (led_reduction l ∷ []) refl d;
      }

pub named-leader : NamedLeader
unfolding NamedLeader
named-leader bytes octets h l some most way = let (s, A) = accepted bytes octets h in only_live bytes octets h s A l some most way
