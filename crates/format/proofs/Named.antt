-- A leader that is named, of the bytes of a sheet just accepted (document 02, L12).
use mathlib.Core.Bool.{true}
use mathlib.Core.List.{List}
use mathlib.Core.Path.{◌≡◌, sym, subst}
use Prim.Native.Nat.{ℕ, ◌<◌}
use lib.ListN.{length}
use Rattle.network.specs.Reduction.{free_count, lead}
use Rattle.network.specs.Reach.{reach}
use Rattle.network.specs.Sheet.{Sheet, network_of}
use Rattle.network.proofs.Completion.{one-live-decided}
use Rattle.network.proofs.Lead.{lead-keeps, lead-sheet}
use Rattle.format.specs.Parse.{Octets, got, parse}
use Rattle.format.specs.Builds.{options}
use Rattle.format.proofs.Builds.{options-are}
use Rattle.format.proofs.RoundTrip.{parsed}
use Rattle.format.proofs.SheetOf.{wellformed-sound}
use Rattle.format.proofs.Decided.{Decides, decided-decides}

module _ (bytes : List ℕ) (octets : Octets bytes) (s : Sheet) (end : ℕ) (e : parse bytes ≡ got s end) where
  -- "if every other option can be reached from it through tables functional along the way, it ends as the only live option and the verdict is never OPEN"
  pub named-leader : (l : ℕ) → l < options bytes → ((x : ℕ) → x < options bytes → reach (network_of s) l x ≡ true)
      → (free_count (lead (network_of s) l).network ≡ 1) × Decides bytes (lead (network_of s) l).network
  unfolding network_of
  named-leader l inside every =
      let R = parsed bytes octets s end e in
      let S = wellformed-sound R.layout R.usable s R.body.well_formed in
      let n = options-are bytes octets s end e in
      let one = lead-sheet s S l (subst (λ (m : ℕ). l < m) n inside) (λ x k. every x (subst (λ (m : ℕ). x < m) (sym n) k)) in
      let k = lead-keeps (network_of s) S l in
      (one.1, decided-decides bytes octets s end e (lead (network_of s) l).network k (one-live-decided _ k.still_sound one.1))
