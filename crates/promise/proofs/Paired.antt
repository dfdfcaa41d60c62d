-- Sheets of the paired profile: demand 3 holds of them, and a full reduction settles them.
use mathlib.Core.Bool.{true}
use mathlib.Core.List.{List, [], ◌∷◌, ◌++◌}
use mathlib.Core.Path.{◌≡◌, refl, sym, ap, ◌∙◌}
use Prim.Native.Nat.{ℕ}
use Rattle.bounded.proofs.Bool.{and_i, and_l, and_r}
use Rattle.network.specs.Completion.{decided}
use Rattle.network.specs.Calls.{Call, full_reduction, tables_of, tableless}
use Rattle.network.specs.Paired.{paired}
use Rattle.network.specs.Sheet.{Sheet, network_of}
use Rattle.network.proofs.Paired.{Paired, paired-e, after-decided}
use Rattle.format.specs.Parse.{Octets}
use Rattle.state.specs.declared.state.State.{State}
use Rattle.state.specs.View.{view}
use Rattle.state.specs.Answers.{ReadTold}
use Rattle.state.specs.Read.{read_sheet, read_paired}
use Rattle.state_read.proofs.RoundTrip.{Accepted, accepted}
use Rattle.state_paired.specs.Beside.{network_old, BesideReading, PairedBeside}
use Rattle.state_paired.proofs.Beside.{paired-beside}
use Rattle.promise.specs.Promise.{state_handed_back, state_after, last_state, last_network}
use Rattle.promise.specs.Settled.{Settles}
use Rattle.promise.specs.Paired.{paired_last, paired_reduced, Demand3Paired, PairedSettles}
use Rattle.promise.proofs.Promise.{last-network, serves, promise}
use Rattle.promise.proofs.Laws.{after_both}
use Rattle.promise.proofs.Settled.{decided-settles}

-- A full reduction adds no table.
reduction-tableless : (cs : List Call) → tableless cs ≡ true → tableless (cs ++ (full_reduction ∷ [])) ≡ true
unfolding tableless tables_of
reduction-tableless [] e = and_i _ _ refl refl
reduction-tableless (c ∷ cs) e = and_i _ _ (and_l _ _ e) (reduction-tableless cs (and_r _ _ e))

module _ (bytes : List ℕ) (octets : Octets bytes) (h : (read_paired bytes).number ≡ 0) where
  beside : BesideReading bytes
  beside = unfold PairedBeside in paired-beside bytes octets

  same : read_paired bytes ≡ read_sheet bytes
  same = beside.accepted_alike h

  number : (read_sheet bytes).number ≡ 0
  number = ap (λ (r : ReadTold). r.number) (sym same) ∙ h

  module _ (cs : List Call) where
    last-same : paired_last bytes cs ≡ last_state bytes cs
    unfolding paired_last last_state
    last-same = ap (λ (r : ReadTold). state_after r.state cs) same

    reduced-last : paired_reduced bytes cs ≡ last_state bytes (cs ++ (full_reduction ∷ []))
    unfolding paired_reduced last_state state_after state_handed_back
    reduced-last =
        ap (λ (t : State). state_handed_back t full_reduction) last-same ∙ sym (after_both (read_sheet bytes).state cs (full_reduction ∷ []))

  module _ (s : Sheet) (A : Accepted bytes s) (cs : List Call) (e : tableless cs ≡ true) where
    of-profile : paired (network_of s) ≡ true
    unfolding network_old
    of-profile = sym (ap paired A.view_is) ∙ (beside.accepts_exactly number).0 h

    profile : Paired (network_of s)
    profile = unfold Paired in (λ x y fx fy. paired-e (network_of s) A.sheet_sound of-profile x y)

    none-together : decided (last_network bytes (cs ++ (full_reduction ∷ []))) ≡ true
    none-together = rw (last-network bytes octets number s A (cs ++ (full_reduction ∷ []))) (after-decided (network_of s) A.sheet_sound cs e profile)

    settled : (decided (view (paired_reduced bytes cs)) ≡ true) × Settles bytes (paired_reduced bytes cs)
    settled =
        let all = cs ++ (full_reduction ∷ []) in
        rw (reduced-last cs) (
          ap decided (serves bytes octets number s A all).holds ∙ none-together,
          decided-settles bytes octets number s A all (reduction-tableless cs e) none-together,
        )

pub demand3-paired : Demand3Paired
unfolding Demand3Paired
demand3-paired bytes octets h cs =
    let (s, A) = accepted bytes octets (number bytes octets h) in (last-same bytes octets h cs, promise bytes octets (number bytes octets h) s A cs)

pub paired-settles : PairedSettles
unfolding PairedSettles
paired-settles bytes octets h cs e = let (s, A) = accepted bytes octets (number bytes octets h) in settled bytes octets h s A cs e
