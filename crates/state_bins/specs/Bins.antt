-- Document 02, L11: a delivery and a call-off against the bins of a state. Number 0 stands for "not refused".
use Rattle.std.specs.Prelude.{Bool, List, ℕ, ◌+◌, ◌-◌, ◌^◌, eqb, leb, ltb, get_or}
use Rattle.bounded.specs.Bool.{and, or, not, if}
use Rattle.bins.specs.declared.Bin.{Bin}
use Rattle.bins.specs.Bins.{Place, places, stand_at, any, is_of, of_solution, added, drawn}
use Rattle.answers.specs.Answers.{test_agrees}
use Rattle.state.specs.declared.state.State.{State}
use Rattle.state.specs.View.{sound_state}
use Rattle.state.specs.Solutions.{tested}

-- "The bins are a list of records, one for each value below each option's size, ascending by option and then by value": their places.
unfoldable pub bin_places : State → List Place
bin_places s = places s.n (λ (i : ℕ). get_or s.sizes i 0)

-- "It refuses with 9, then 27 when the records aren't exactly those options and values in that order", then the call's own.
unfoldable pub bins_refusal : State → List Bin → ℕ → ℕ
bins_refusal s bins own = if (not (sound_state s)) 9 (if (not (stand_at bins (bin_places s))) 27 own)

-- Neither "an option number 0 or above n" nor "a value at or above the size".
unfoldable pub has_value : State → (variable value : ℕ) → Bool
has_value s variable value = and (and (ltb 0 variable) (leb variable s.n)) (ltb value (get_or s.sizes (variable - 1) 0))

-- "a count that would exceed 32 bits"
unfoldable pub exceeds : (variable value amount : ℕ) → Bin → Bool
exceeds variable value amount b = and (is_of variable value b) (leb (2 ^ 32) (b.count + amount))

-- "A delivery adds a number to one bin": 9, 27, 28 or 0,
unfoldable pub delivery_number : State → List Bin → (variable value amount : ℕ) → ℕ
delivery_number s bins variable value amount =
    bins_refusal s bins (if (or (not (has_value s variable value)) (any (exceeds variable value amount) bins)) 28 0)

-- and the bins at exit: "A refusal changes no bin."
unfoldable pub delivered_bins : State → List Bin → (variable value amount : ℕ) → List Bin
delivered_bins s bins variable value amount = if (eqb (delivery_number s bins variable value amount) 0) (added (is_of variable value) amount bins) bins

-- "a bin too low"
unfoldable pub lacks : List ℕ → (amount : ℕ) → Bin → Bool
lacks solution amount b = and (of_solution solution b) (ltb b.count amount)

-- "A call-off names a build and a number, and draws that number from the bin of each of its values, or from none": 9, 27, 28 "for a non-build (a wrong
-- number of bytes included)", 29 or 0,
unfoldable pub call_off_number : State → List Bin → (solution : List ℕ) → (amount : ℕ) → ℕ
call_off_number s bins solution amount =
    bins_refusal s bins (if (not (test_agrees (tested s solution))) 28 (if (any (lacks solution amount) bins) 29 0))

-- and the bins at exit.
unfoldable pub called_off_bins : State → List Bin → (solution : List ℕ) → (amount : ℕ) → List Bin
called_off_bins s bins solution amount = if (eqb (call_off_number s bins solution amount) 0) (drawn (of_solution solution) amount bins) bins
