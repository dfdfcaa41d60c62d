-- Variables count from 1 in a record, and from 0 in a solution.
use lib.Dec.{eqb}
use lib.ListN.{get_or}
use mathlib.Core.Path.{sym, ap, ◌∙◌}
use Prim.Native.Nat.{ℕ, ◌-◌}
use native.Mathlib.Omega.{arith}
use borrow.Author.Tests.{le-ltb, lt-ltb}
use Rattle.bounded.proofs.Bool.{and-holds, and-fails}
use Rattle.bins.specs.Bins.{of_solution}
use borrow.Author.Rules.{rules}
use Rattle.bins.proofs.of_solution.Statement.{statement}
use Rattle.bins.proofs.of_solution.Tie as tie

returns : tie.Need-returns-then-variable-lt1
unfolding of_solution
returns c = sym (and-fails _ _ (le-ltb 0 c.args.b.variable (omega (arith, c.if-variable-lt1.true, c.from-variable.ensures))))

returns-2 : tie.Need-returns
unfolding of_solution
returns-2 c =
    let w = c in
    let a = w.args in
    ap (λ (k : ℕ). eqb k a.b.value) (c.byte.ensures ∙ ap (λ (k : ℕ). get_or a.values (k - 1) 0) w.from-variable.ensures)
    ∙ sym (and-holds _ _ (lt-ltb 0 a.b.variable (omega (arith, c.if-variable-lt1.false, w.from-variable.ensures))))

pub of_solution_spec : {M : Type 1} → statement M
of_solution_spec = tie.close (tie.spec (λ c κs. search rules) returns (λ c κs. search rules) returns-2)
