-- The first stays the first.
use mathlib.Core.Path.{sym, ap, ◌∙◌}
use borrow.Author.Tests.{eq-eqb, ne_eqb}
use Rattle.bounded.specs.Bool.{and}
use Rattle.bounded.proofs.Bool.{and_i, and-fails, and-false, if-true, if-false}
use Rattle.year_act.specs.Kept.{noted_of}
use borrow.Author.Rules.{rules}
use Rattle.year_act.proofs.first.Statement.{statement}
use Rattle.year_act.proofs.first.Tie as tie

returns : tie.Need-returns-then-not-answered
unfolding noted_of
returns c = sym (if-false _ _ _ (and-fails _ _ (sym c.answered.ensures ∙ c.if-not-answered.true)))

returns-2 : tie.Need-returns-then-e-ne0
unfolding noted_of
returns-2 c = sym (if-false _ _ _ (ap (and _) (ne_eqb _ 0 c.if-e-ne0.true) ∙ and-false _))

returns-3 : tie.Need-returns
unfolding noted_of
returns-3 c =
    let k = c in
    sym (if-true _ _ _ (and_i _ _ (sym k.answered.ensures ∙ k.if-not-answered.false) (eq-eqb _ 0 c.if-e-ne0.false)))

pub first_spec : {M : Type 1} → statement M
first_spec =
    tie.close
    (tie.spec
    (λ c κs. search rules)
    returns
    returns-2
    returns-3)
