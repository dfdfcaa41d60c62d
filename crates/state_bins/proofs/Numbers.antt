-- A number that `post` gives is one of those that an answer has.
use mathlib.Core.Bool.{Bool, true, false}
use mathlib.Core.List.{List}
use mathlib.Core.Path.{◌≡◌, refl}
use lib.Dec.{eqb}
use Rattle.bounded.specs.Bool.{or, not, if}
use Rattle.bins.specs.declared.Bin.{Bin}
use Rattle.bins.specs.declared.Plan.{Plan}
use Rattle.bins.specs.Plans.{exact, too_high, too_low, number_found, plan_number}
use Rattle.bins.specs.Bins.{any}
use Rattle.state_bins.specs.Numbers.{one_of}

cases : (a e h l : Bool) → one_of (if a 9 (if e 27 (if h 28 (if l 29 0)))) ≡ if a 9 (if e 27 (if h 28 (if l 29 0)))
unfolding one_of if
cases true e h l = refl
cases false true h l = refl
cases false false true l = refl
cases false false false true = refl
cases false false false false = refl

pub one-of-number : (p : Plan) (bs : List Bin) → one_of (plan_number p bs) ≡ plan_number p bs
unfolding number_found
one-of-number p bs = cases (eqb p.refusal 9) (not (exact p 0 0 bs)) (or (not (eqb p.refusal 0)) (any (too_high p) bs)) (any (too_low p) bs)
