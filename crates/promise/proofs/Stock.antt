-- The state handed back last is sound, has the sheet's sizes, and its tester says yes to the builds of the sheet with its added tables.
use mathlib.Core.Bool.{true, false}
use mathlib.Core.List.{List, ◌++◌}
use mathlib.Core.Path.{◌≡◌, refl, sym, ap, ◌∙◌}
use Prim.Native.Nat.{ℕ, zero, suc, ◌+◌, ◌<◌}
use native.Mathlib.Omega.{arith}
use lib.ListN.{length, get_or}
use Rattle.bounded.proofs.Bool.{clash, not-true→false}
use Rattle.network.specs.Network.{Network}
use Rattle.network.specs.Calls.{Call}
use Rattle.network.specs.Sheet.{network_of}
use Rattle.network.proofs.Calls.{after-keeps}
use Rattle.head.specs.Held.{held}
use Rattle.format.specs.Parse.{Octets}
use Rattle.format.specs.Builds.{options, option_size}
use Rattle.format.proofs.Builds.{options-are, option-sizes-are}
use Rattle.bins.specs.Bins.{Place, values_from, places_from, places}
use Rattle.state.specs.Read.{read_sheet}
use Rattle.state_read.proofs.RoundTrip.{accepted}
use Rattle.state_bins.specs.Bins.{bin_places}
use Rattle.state_bins.proofs.Refuses.{call-off-refuses}
use Rattle.promise.specs.Promise.{last_state, Promise}
use Rattle.promise.specs.Stock.{SheetsStock}
use Rattle.promise.proofs.Promise.{last-network, serves, promise}

-- The places go by the sizes of the variables that there are.
places-cong : (f g : ℕ → ℕ) (o m : ℕ) → ((i : ℕ) → i < o + m → f i ≡ g i) → places_from f o m ≡ places_from g o m
unfolding places_from
places-cong f g o zero h = refl
places-cong f g o (suc m) h = λ i. values_from (suc o) 0 (h o here i) ++ places-cong f g (suc o) m (λ j l. h j (further j l)) i
  where
    here : o < o + suc m
    here = omega arith

    further : (j : ℕ) → j < suc o + m → j < o + suc m
    further j l = omega (arith, l)

pub sheets-stock : SheetsStock
unfolding SheetsStock bin_places places held
sheets-stock bytes octets h cs =
    let (s, A) = accepted bytes octets h in
    let S = serves bytes octets h s A cs in
    let P : Promise bytes cs = promise bytes octets h s A cs in
    let size : (i : ℕ) → i < 0 + options bytes → get_or (last_state bytes cs).sizes i 0 ≡ option_size bytes (i + 1) = λ i l.
    ap (λ (N : Network). N.size i) (S.holds ∙ last-network bytes octets h s A cs) ∙ (after-keeps (network_of s) A.sheet_sound cs).same_size i
    ∙ sym (option-sizes-are bytes octets s (length bytes) A.got_sheet i (omega (arith, l, options-are bytes octets s (length bytes) A.got_sheet))) in
    record {
      same_bins =
          ap (places_from (λ (i : ℕ). get_or (last_state bytes cs).sizes i 0) 0) S.state_n
          ∙ places-cong _ _ 0 (options bytes) size;
      called_off = λ bins build amount z. (P.tester build).0 ((call-off-refuses _ bins build amount).number_0.0 z).1.1.0;
      non_build = λ bins build amount e. (
        λ z. not-true→false _ (λ t. ((call-off-refuses _ bins build amount).number_28.0 z).1.1 ((P.tester build).1 t)),
        λ f. (call-off-refuses _ bins build amount).number_28.1 (S.sound, (e, λ y. clash ((P.tester build).0 y) f)),
      );
    }
