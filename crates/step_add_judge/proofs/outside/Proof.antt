-- `|` of two truth values.
use mathlib.Core.Bool.{Bool, true, false, ◌||◌}
use mathlib.Core.Path.{◌≡◌, refl}
use Rattle.bounded.specs.Bool.{or}
use Rattle.step_add_judge.proofs.outside.Statement.{statement}
use Rattle.step_add_judge.proofs.outside.Tie as tie

either-holds : (a b : Bool) → (a || b) ≡ or a b
unfolding or
either-holds true b = refl
either-holds false b = refl

returns : tie.Need-returns
returns c = either-holds _ _

pub outside_spec : {M : Type 1} → statement M
outside_spec = tie.close (tie.spec returns)
