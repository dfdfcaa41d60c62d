-- Document 02, L11, on counts: what a delivery and a call-off answer and leave is what L11's own definitions say of the bins with these counts.
use Rattle.std.specs.Prelude.{true, List, ◌≡◌, ℕ, ◌≤◌, eqb, length, get_or}
use Rattle.bounded.specs.Bool.{if}
use Rattle.head.specs.declared.Head.{Head}
use Rattle.bins.specs.declared.Bin.{Bin}
use Rattle.bins.specs.Bins.{no_bin}
use Rattle.bins_counts.specs.Counts.{bins_by, first_of}
use Rattle.state.specs.declared.state.State.{State}
use Rattle.state.specs.View.{state_of, sound_state}
use Rattle.state_bins.specs.Bins.{delivery_number, delivered_bins, lacks, call_off_number, called_off_bins}

-- The bins of a state with these counts, in their order.
abbrev pub bins_of : State → (counts : List ℕ) → List Bin
bins_of s counts = bins_by s.n s.sizes counts

-- What soundness says of the sizes.
pub record Sized (h : Head) : Type 0 where
  pub n_most : h.n ≤ 16
  pub size_most : (i : ℕ) → get_or h.sizes i 0 ≤ 32

pub record CountsDelivered (s : State) (before after : List ℕ) (variable value amount number : ℕ) : Type 0 where
  pub number_is : number ≡ delivery_number s (bins_of s before) variable value amount
  pub bins_are : bins_of s after ≡ delivered_bins s (bins_of s before) variable value amount
  pub same_length : length after ≡ length before

-- Of each sound state with this head.
abbrev pub DeliveredIn : Head → (before after : List ℕ) → (variable value amount number : ℕ) → Type 0
DeliveredIn h before after variable value amount number =
    (rows : List ℕ) → sound_state (state_of h rows) ≡ true → CountsDelivered (state_of h rows) before after variable value amount number

-- The bin that a 29 names: the first, in the bins' order, that is too low.
unfoldable pub low_bin : State → List Bin → (solution : List ℕ) → (amount : ℕ) → Bin
low_bin s bins solution amount = if (eqb (call_off_number s bins solution amount) 29) (first_of (lacks solution amount) bins) no_bin

pub record CountsCalledOff (s : State) (before after solution : List ℕ) (amount number : ℕ) (low : Bin) : Type 0 where
  pub number_is : number ≡ call_off_number s (bins_of s before) solution amount
  pub bins_are : bins_of s after ≡ called_off_bins s (bins_of s before) solution amount
  pub low_is : low ≡ low_bin s (bins_of s before) solution amount
  pub same_length : length after ≡ length before
