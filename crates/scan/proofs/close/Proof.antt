-- Its three cases.
use mathlib.Core.Path.{sym, ◌∙◌}
use borrow.Author.Tests.{eq-eqb, ne_eqb}
use borrow.Author.Rules.{rules}
use Rattle.bounded.proofs.Bool.{if-true, if-false}
use Rattle.scan.specs.Scan.{close}
use Rattle.scan.proofs.close.Statement.{statement}
use Rattle.scan.proofs.close.Tie as tie

returns : tie.Need-returns-then-s-eq1
unfolding close
returns c = c.stored.ensures ∙ sym (if-true _ _ _ (eq-eqb _ _ c.if-s-eq1.true))

returns-2 : tie.Need-returns-then-s-eq5
unfolding close
returns-2 c = let t = c in c.phased.ensures ∙ sym (if-false _ _ _ (ne_eqb _ _ t.if-s-eq1.false) ∙ if-true _ _ _ (eq-eqb _ _ t.if-s-eq5.true))

returns-3 : tie.Need-returns
unfolding close
returns-3 c = sym (if-false _ _ _ (ne_eqb _ _ c.if-s-eq1.false) ∙ if-false _ _ _ (ne_eqb _ _ c.if-s-eq5.false))

pub close_spec : {M : Type 1} → statement M
close_spec = tie.close (tie.spec (λ c κs. search rules) returns (λ c κs. search rules) returns-2 returns-3)
