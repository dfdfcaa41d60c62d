-- By what comes before it.
use mathlib.Core.Path.{sym, ◌∙◌}
use borrow.Author.Tests.{eq-eqb, ne_eqb}
use borrow.Author.Rules.{rules}
use Rattle.bounded.proofs.Bool.{if-true, if-false}
use Rattle.scan.specs.Scan.{separator, separated}
use Rattle.scan.proofs.separator.Statement.{statement}
use Rattle.scan.proofs.separator.Tie as tie

returns : tie.Need-returns-then-t-eq3
unfolding separator separated
returns c = let t = c in rw (← t.close-t.ensures) (c.phased.ensures ∙ sym (if-true _ _ _ (eq-eqb _ _ t.if-t-eq3.true)))

returns-2 : tie.Need-returns-then-t-eq4
unfolding separator separated
returns-2 c = let e = c in rw (← e.close-t.ensures) (sym (if-false _ _ _ (ne_eqb _ _ e.if-t-eq3.false) ∙ if-true _ _ _ (eq-eqb _ _ c.if-t-eq4.true)))

returns-3 : tie.Need-returns
unfolding separator separated
returns-3 c = let u = c in let e = u in rw (← e.close-t.ensures) (c.faulted.ensures ∙ sym (if-false _ _ _ (ne_eqb _ _ e.if-t-eq3.false) ∙ if-false _ _ _ (ne_eqb _ _ u.if-t-eq4.false)))

pub separator_spec : {M : Type 1} → statement M
separator_spec = tie.close (tie.spec (λ c κs. search rules) (λ c κs. search rules) returns returns-2 (λ c κs. search rules) returns-3)
