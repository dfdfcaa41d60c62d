-- Each way out is a part of the definition that fails, or the last part.
use mathlib.Core.Path.{◌≡◌, sym, ap, ◌∙◌}
use Prim.Native.Nat.{◌<◌, ◌≤◌}
use native.Mathlib.Omega.{arith}
use borrow.Author.Tests.{le-ltb, lt-ltb, le-leb, lt-leb}
use Rattle.bounded.specs.Bool.{and}
use Rattle.bounded.proofs.Bool.{and-fails, and_i, and-false, and-holds}
use Rattle.state_bins.specs.Bins.{has_value}
use borrow.Author.Rules.{rules}
use Rattle.stock.proofs.has_value.Statement.{statement}
use Rattle.stock.proofs.has_value.Tie as tie

returns : tie.Need-returns-then-variable-lt1
unfolding has_value
returns c = λ rows. sym (and-fails _ _ (and-fails _ _ (le-ltb 0 c.args.variable (omega arith))))

returns-2 : tie.Need-returns-then-head-variable
unfolding has_value
returns-2 c = λ rows. sym (and-fails _ _ (ap (and _) (lt-leb _ _ c.if-head-variable.true) ∙ and-false _))

returns-3 : tie.Need-returns
unfolding has_value
returns-3 c = λ rows.
    let n = c in
    let l : 0 < n.args.variable = omega arith in
    sym (and-holds _ _ (and_i _ _ (lt-ltb _ _ l) (le-leb _ _ n.if-head-variable.false)))

pub has_value_spec : {M : Type 1} → statement M
has_value_spec =
    tie.close
    (tie.spec
    returns
    returns-2
    (λ c. search rules)
    (λ c. search rules)
    returns-3)
