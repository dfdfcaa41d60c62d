-- Document 02, L11: how many bins an entry that is taken changes, and by how much.
use Rattle.std.specs.Prelude.{Bool, true, false, List, [], ◌∷◌, ◌≡◌, ℕ, ◌+◌, ◌^◌, ◌<◌, eqb, length, get_or}
use Rattle.bounded.specs.Bool.{and, bit}
use Rattle.network.specs.Added.{Numbered}
use Rattle.bins.specs.declared.Bin.{Bin}
use Rattle.bins.specs.Bins.{place, no_bin, is_of, of_solution}
use Rattle.state.specs.declared.state.State.{State}
use Rattle.state.specs.View.{view}
use Rattle.state_bins.specs.Bins.{delivery_number, delivered_bins, call_off_number, called_off_bins}
use Rattle.state_bins.specs.Refuses.{InPlace, ValueOf}

-- How many bins pass.
abbrev pub tally : (Bin → Bool) → List Bin → ℕ
tally which [] = 0
tally which (b ∷ bs) = bit (which b) + tally which bs

-- What 27 lets pass has exactly one record for each value.
abbrev pub StockLaw : State → List Bin → Type 0
StockLaw s bins = InPlace s bins → (variable value : ℕ) → ValueOf s variable value → tally (is_of variable value) bins ≡ 1

-- "A delivery adds a number to one bin": to exactly one, which has room for it; the others stay as they are.
pub record AddsToOne (s : State) (bins : List Bin) (variable value amount : ℕ) : Type 0 where
  pub one_bin : tally (is_of variable value) bins ≡ 1
  pub its_count : (i : ℕ) → i < length bins → place (get_or bins i no_bin) ≡ (variable, value)
      → ((get_or (delivered_bins s bins variable value amount) i no_bin).count ≡ (get_or bins i no_bin).count + amount)
      × ((get_or bins i no_bin).count + amount < 2 ^ 32)
  pub the_others : (i : ℕ) → i < length bins → (place (get_or bins i no_bin) ≡ (variable, value) → ⊥)
      → get_or (delivered_bins s bins variable value amount) i no_bin ≡ get_or bins i no_bin

-- Of every delivery that is taken.
abbrev pub DeliveryLaw : State → List Bin → (variable value amount : ℕ) → Type 0
DeliveryLaw s bins variable value amount = delivery_number s bins variable value amount ≡ 0 → AddsToOne s bins variable value amount

-- "draws that number from the bin of each of its values": from exactly one bin of each variable, which has as many; the others stay as they are.
pub record DrawsFromEach (s : State) (bins : List Bin) (solution : List ℕ) (amount : ℕ) : Type 0 where
  pub one_bin : (variable : ℕ) → Numbered (view s) variable → tally (λ (b : Bin). and (eqb b.variable variable) (of_solution solution b)) bins ≡ 1
  pub its_count : (i : ℕ) → i < length bins → of_solution solution (get_or bins i no_bin) ≡ true
      → (get_or (called_off_bins s bins solution amount) i no_bin).count + amount ≡ (get_or bins i no_bin).count
  pub the_others : (i : ℕ) → i < length bins → of_solution solution (get_or bins i no_bin) ≡ false
      → get_or (called_off_bins s bins solution amount) i no_bin ≡ get_or bins i no_bin

-- Of every call-off that is taken.
abbrev pub CallOffLaw : State → List Bin → (solution : List ℕ) → (amount : ℕ) → Type 0
CallOffLaw s bins solution amount = call_off_number s bins solution amount ≡ 0 → DrawsFromEach s bins solution amount
