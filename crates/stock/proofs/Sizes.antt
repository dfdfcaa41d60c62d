-- What soundness and the tests say of values and indices.
use mathlib.Core.Bool.{true, false}
use mathlib.Core.List.{List}
use mathlib.Core.Path.{◌≡◌}
use Prim.Native.Nat.{ℕ, ◌+◌, ◌-◌, ◌*◌, ◌≤◌, ◌<◌}
use native.Mathlib.Omega.{arith}
use lib.Dec.{eqb, leb, ltb}
use lib.ListN.{get_or}
use borrow.Author.Tests.{ltb-true, leb-true}
use Rattle.bounded.specs.Bool.{and}
use Rattle.bounded.specs.Fold.{sum}
use Rattle.bounded.proofs.Bool.{and_l, and_r}
use Rattle.head.specs.declared.Head.{Head}
use Rattle.head.specs.Held.{HeadShaped}
use Rattle.head.proofs.Held.{held-n, held-size}
use Rattle.bins_counts.specs.Counts.{spot}
use Rattle.bins_counts.proofs.Spots.{ahead, sum-within}
use Rattle.state.specs.declared.state.State.{State}
use Rattle.state.specs.View.{state_of, sound_state}
use Rattle.state_bins.specs.Bins.{has_value}
use Rattle.stock.specs.Stock.{Sized}

pub sound-sized : (h : Head) (rows : List ℕ) → HeadShaped h → sound_state (state_of h rows) ≡ true → Sized h
sound-sized h rows H t = record { n_most = held-n h rows t; size_most = held-size h rows H t }

-- The index of a value lies in an array of 512.
pub spot_in : (h : Head) → Sized h → (o v : ℕ) → o < h.n → v < get_or h.sizes o 0 → spot h.sizes o v < 512
unfolding spot
spot_in h S o v l b =
    let a = ahead (λ (i : ℕ). get_or h.sizes i 0) o h.n v l b in
    let w : sum h.n (λ (i : ℕ). get_or h.sizes i 0) ≤ h.n * 32 = sum-within (λ (i : ℕ). get_or h.sizes i 0) h.n 32 S.size_most in
    omega (arith, a, w, S.n_most)

module _ (s : State) (variable value : ℕ) (t : has_value s variable value ≡ true) where
  pub value-from : 1 ≤ variable
  unfolding has_value
  value-from = ltb-true 0 variable (and_l _ _ (and_l _ _ t))

  pub value-to : variable ≤ s.n
  unfolding has_value
  value-to = leb-true variable s.n (and_r _ _ (and_l _ _ t))

  pub value-below : value < get_or s.sizes (variable - 1) 0
  unfolding has_value
  value-below = ltb-true value _ (and_r _ _ t)
