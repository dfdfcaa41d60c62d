-- Its four cases.
use mathlib.Core.Path.{sym, ◌∙◌}
use borrow.Author.Tests.{eq-eqb, ne_eqb}
use borrow.Author.Rules.{rules}
use Rattle.bounded.proofs.Bool.{if-true, if-false}
use Rattle.scan.specs.Scan.{step}
use Rattle.scan.proofs.step.Statement.{statement}
use Rattle.scan.proofs.step.Tie as tie

returns : tie.Need-returns-then-s-eq4
unfolding step
returns c = sym (if-true _ _ _ (eq-eqb _ _ c.if-s-eq4.true))

returns-2 : tie.Need-returns-then-s-ne0
unfolding step
returns-2 c = let e = c in c.faulted.ensures ∙ sym (if-false _ _ _ (ne_eqb _ _ e.if-s-eq4.false) ∙ if-false _ _ _ (ne_eqb _ _ e.if-s-ne0.true))

returns-3 : tie.Need-returns-then-byte-eq13
unfolding step
returns-3 c = let t = c in let e = t in c.returned.ensures ∙ sym (if-false _ _ _ (ne_eqb _ _ e.if-s-eq4.false) ∙ if-true _ _ _ (eq-eqb _ _ e.if-s-ne0.false) ∙ if-true _ _ _ (eq-eqb _ _ t.if-byte-eq13.true))

returns-4 : tie.Need-returns
unfolding step
returns-4 c = let t = c in let e = t in c.ticked.ensures ∙ rw c.taken.ensures (sym (if-false _ _ _ (ne_eqb _ _ e.if-s-eq4.false) ∙ if-true _ _ _ (eq-eqb _ _ e.if-s-ne0.false) ∙ if-false _ _ _ (ne_eqb _ _ t.if-byte-eq13.false)))

pub step_spec : {M : Type 1} → statement M
step_spec = tie.close (tie.spec returns (λ c κs. search rules) returns-2 (λ c κs. search rules) returns-3 (λ c κs. search rules) (λ c κs. search rules) returns-4)
