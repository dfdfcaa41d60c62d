-- A free variable is its own leader, and another's number is counted from 1.
use mathlib.Core.Path.{sym, ap, ◌∙◌}
use Prim.Native.Nat.{pred}
use native.Mathlib.Numerals.{sub-one}
use borrow.Author.Rules.{rules}
use borrow.Author.Tests.{eq-eqb, ne_eqb}
use Rattle.bounded.proofs.Bool.{if-true, if-false}
use Rattle.step_sides.proofs.sides.traced.Statement.{statement}
use Rattle.step_sides.proofs.sides.traced.Tie as tie

returns : tie.Need-returns-then-leader-eq0
returns c = sym (if-true _ _ _ (eq-eqb _ _ c.if-leader-eq0.true))

returns-2 : tie.Need-returns
returns-2 c = sub-one _ ∙ ap pred c.wide.ensures ∙ sym (if-false _ _ _ (ne_eqb _ _ c.if-leader-eq0.false))

pub traced_spec : {M : Type 1} → statement M
traced_spec = tie.close (tie.spec returns (λ c κs. search rules) (λ c. search rules) returns-2)
