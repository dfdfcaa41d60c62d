-- What an entry as plain data comes to, whatever the bins hold.
use Rattle.std.specs.Prelude.{List, ◌≡◌, ℕ, eqb}
use Rattle.bounded.specs.Bool.{not, if}
use Rattle.bins.specs.declared.Bin.{Bin}
use Rattle.bins.specs.declared.Plan.{Plan}
use Rattle.bins.specs.Plans.{plan_number, plan_bins}
use Rattle.answers.specs.Answers.{test_number, test_agrees}
use Rattle.state.specs.declared.state.State.{State}
use Rattle.state.specs.View.{sound_state}
use Rattle.state.specs.Solutions.{tested}
use Rattle.state_bins.specs.Bins.{has_value, delivery_number, delivered_bins, call_off_number, called_off_bins}

-- What is refused whatever the bins hold.
unfoldable pub delivery_refusal : State → (variable value : ℕ) → ℕ
delivery_refusal s variable value = if (not (sound_state s)) 9 (if (has_value s variable value) 0 28)

unfoldable pub call_off_refusal : State → List ℕ → ℕ
call_off_refusal s solution = if (eqb (test_number (tested s solution)) 9) 9 (if (test_agrees (tested s solution)) 0 28)

abbrev pub Delivers : Plan → State → (variable value amount : ℕ) → Type 0
Delivers p s variable value amount =
    (bins : List Bin) → (plan_number p bins ≡ delivery_number s bins variable value amount)
    × (plan_bins p bins ≡ delivered_bins s bins variable value amount)

abbrev pub CallsOff : Plan → State → List ℕ → ℕ → Type 0
CallsOff p s solution amount =
    (bins : List Bin) → (plan_number p bins ≡ call_off_number s bins solution amount)
    × (plan_bins p bins ≡ called_off_bins s bins solution amount)
