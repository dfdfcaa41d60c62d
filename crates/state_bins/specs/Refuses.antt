-- Document 02, L11: "It refuses with 9, then 27 when the records aren't exactly those options and values in that order, then 28 for a non-build (a wrong
-- number of bytes included), an option number 0 or above n, a value at or above the size, or a count that would exceed 32 bits, then 29 for a bin too low":
-- each number exactly when its own cause holds and none before it, and 0 where none does.
use Rattle.std.specs.Prelude.{true, false, List, map, ◌↔◌, ◌≡◌, ℕ, ◌+◌, ◌-◌, ◌^◌, ◌≤◌, ◌<◌, length, get_or}
use Rattle.network.specs.Added.{Numbered}
use Rattle.bins.specs.declared.Bin.{Bin}
use Rattle.bins.specs.Bins.{place, no_bin}
use Rattle.answers.specs.Answers.{says}
use Rattle.state.specs.declared.state.State.{State}
use Rattle.state.specs.View.{view, sound_state}
use Rattle.state.specs.Solutions.{tested}
use Rattle.state_bins.specs.Bins.{bin_places, delivery_number, call_off_number}

-- "the records .. exactly those options and values in that order"
abbrev pub InPlace : State → List Bin → Type 0
InPlace s bins = map place bins ≡ bin_places s

-- Neither "an option number 0 or above n" nor "a value at or above the size": a value of the state, in its lists or not.
pub record ValueOf (s : State) (variable value : ℕ) : Type 0 where
  pub numbered : Numbered (view s) variable
  pub below_size : value < get_or s.sizes (variable - 1) 0

-- "a count that would exceed 32 bits": that of a bin of the value.
pub record WouldExceed (bins : List Bin) (variable value amount : ℕ) : Type 0 where
  pub which : ℕ
  pub inside : which < length bins
  pub its_place : place (get_or bins which no_bin) ≡ (variable, value)
  pub too_many : 2 ^ 32 ≤ (get_or bins which no_bin).count + amount

-- "a bin too low": that of a value of the solution.
pub record TooLow (bins : List Bin) (solution : List ℕ) (amount : ℕ) : Type 0 where
  pub which : ℕ
  pub inside : which < length bins
  pub from_1 : 1 ≤ (get_or bins which no_bin).variable
  pub its_value : get_or solution ((get_or bins which no_bin).variable - 1) 0 ≡ (get_or bins which no_bin).value
  pub too_few : (get_or bins which no_bin).count < amount

-- Whatever the state, the bins and the numbers are. 28: it is a value of the state only if a count would exceed 32 bits.
pub record DeliveryRefuses (s : State) (bins : List Bin) (variable value amount : ℕ) : Type 0 where
  pub number_9 : (delivery_number s bins variable value amount ≡ 9) ↔ (sound_state s ≡ false)
  pub number_27 : (delivery_number s bins variable value amount ≡ 27) ↔ ((sound_state s ≡ true) × (InPlace s bins → ⊥))
  pub number_28 : (delivery_number s bins variable value amount ≡ 28)
      ↔ ((sound_state s ≡ true) × (InPlace s bins × (ValueOf s variable value → WouldExceed bins variable value amount)))
  pub number_0 : (delivery_number s bins variable value amount ≡ 0)
      ↔ ((sound_state s ≡ true) × (InPlace s bins × (ValueOf s variable value × (WouldExceed bins variable value amount → ⊥))))

-- A build of the state is what the tester says yes to: its no, 14 and 15 are 28 alike.
pub record CallOffRefuses (s : State) (bins : List Bin) (solution : List ℕ) (amount : ℕ) : Type 0 where
  pub number_9 : (call_off_number s bins solution amount ≡ 9) ↔ (sound_state s ≡ false)
  pub number_27 : (call_off_number s bins solution amount ≡ 27) ↔ ((sound_state s ≡ true) × (InPlace s bins → ⊥))
  pub number_28 : (call_off_number s bins solution amount ≡ 28)
      ↔ ((sound_state s ≡ true) × (InPlace s bins × (tested s solution ≡ says true → ⊥)))
  pub number_29 : (call_off_number s bins solution amount ≡ 29)
      ↔ ((sound_state s ≡ true) × (InPlace s bins × ((tested s solution ≡ says true) × TooLow bins solution amount)))
  pub number_0 : (call_off_number s bins solution amount ≡ 0)
      ↔ ((sound_state s ≡ true) × (InPlace s bins × ((tested s solution ≡ says true) × (TooLow bins solution amount → ⊥))))
