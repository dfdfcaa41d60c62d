-- Rules 1 to 3 of what the follow step answers, variables counted from 1.
use Rattle.std.specs.Prelude.{◌≡◌, ℕ, pred}
use Rattle.network.specs.Rules.{Rules}
use Rattle.state.specs.declared.state.State.{State}
use Rattle.state.specs.View.{Shaped, view}
use Rattle.state.specs.Steps.{stepped}

pub record StepRules (s : State) (l f : ℕ) : Type 0 where
  -- "A legal step does this, in order": the rules, sentence by sentence in `Rules`, from the network of the state given to that of the state handed back.
  pub legal : (stepped s l f).number ≡ 0 → Rules (view s) (pred l) (pred f) (view (stepped s l f).state)
  -- "a refused call hands back what it was given"
  pub handed_back : ((stepped s l f).number ≡ 0 → ⊥) → (stepped s l f).state ≡ s

-- Of every state, sound or not, and any two numbers of variables.
unfoldable pub StepsByRules : Type 0
StepsByRules = (s : State) → Shaped s → (l f : ℕ) → StepRules s l f
