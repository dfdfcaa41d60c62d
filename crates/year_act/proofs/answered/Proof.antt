-- A fault is no answer of a call.
use mathlib.Core.Path.{sym}
use borrow.Author.Tests.{eq-eqb, ne_eqb}
use Rattle.bounded.proofs.Bool.{and-fails, and-holds}
use Rattle.year_act.specs.Kept.{answered_by}
use Rattle.year_act.proofs.answered.Statement.{statement}
use Rattle.year_act.proofs.answered.Tie as tie

returns : tie.Need-returns-then-a-ne0
unfolding answered_by
returns c = sym (and-fails _ _ (ne_eqb _ 0 c.if-a-ne0.true))

returns-2 : tie.Need-returns
unfolding answered_by
returns-2 c = sym (and-holds _ _ (eq-eqb _ 0 c.if-a-ne0.false))

pub answered_spec : {M : Type 1} → statement M
answered_spec =
    tie.close
    (tie.spec
    returns
    returns-2)
