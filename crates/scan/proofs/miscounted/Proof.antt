-- Its cases.
use mathlib.Core.Path.{sym, ◌∙◌, ap}
use borrow.Author.Tests.{eq-eqb, ne_eqb}
use Rattle.bounded.proofs.Bool.{if-true, if-false, or_l, not-false-i}
use Rattle.bounded.specs.Bool.{not}
use Rattle.scan.specs.Line.{miscounted}
use Rattle.scan.proofs.Laws.{or-second}
use Rattle.scan.proofs.miscounted.Statement.{statement}
use Rattle.scan.proofs.miscounted.Tie as tie

returns : tie.Need-returns-then-kind-eq1
unfolding miscounted not
returns c = sym (if-true _ _ _ (eq-eqb _ _ c.if-kind-eq1.true))

returns-2 : tie.Need-returns-then-kind-eq2
unfolding miscounted
returns-2 c = sym (if-false _ _ _ (ne_eqb _ _ c.if-kind-eq1.false) ∙ if-true _ _ _ (eq-eqb _ _ c.if-kind-eq2.true))

returns-3 : tie.Need-returns-then-kind-ne3
unfolding miscounted
returns-3 c = sym (if-false _ _ _ (ne_eqb _ _ c.if-kind-eq1.false) ∙ if-false _ _ _ (ne_eqb _ _ c.if-kind-eq2.false) ∙ if-false _ _ _ (ne_eqb _ _ c.if-kind-ne3.true))

returns-4 : tie.Need-returns-then-count-eq0
unfolding miscounted
returns-4 c = let e = c in sym (if-false _ _ _ (ne_eqb _ _ e.if-kind-eq1.false) ∙ if-false _ _ _ (ne_eqb _ _ e.if-kind-eq2.false) ∙ if-true _ _ _ (eq-eqb _ _ e.if-kind-ne3.false) ∙ not-false-i _ (or_l _ _ (eq-eqb _ _ c.if-count-eq0.true)))

returns-5 : tie.Need-returns
unfolding miscounted not
returns-5 c = let e = c in sym (if-false _ _ _ (ne_eqb _ _ e.if-kind-eq1.false) ∙ if-false _ _ _ (ne_eqb _ _ e.if-kind-eq2.false) ∙ if-true _ _ _ (eq-eqb _ _ e.if-kind-ne3.false) ∙ ap not (or-second _ _ (ne_eqb _ _ c.if-count-eq0.false)))

pub miscounted_spec : {M : Type 1} → statement M
miscounted_spec = tie.close (tie.spec returns returns-2 returns-3 returns-4 returns-5)
