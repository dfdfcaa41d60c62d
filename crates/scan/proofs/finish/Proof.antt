-- Its three cases.
use mathlib.Core.Path.{sym, ◌∙◌}
use borrow.Author.Tests.{eq-eqb, ne_eqb}
use borrow.Author.Rules.{rules}
use Rattle.bounded.proofs.Bool.{if-true, if-false}
use Rattle.scan.specs.Line.{finish, judged}
use Rattle.scan.proofs.finish.Statement.{statement}
use Rattle.scan.proofs.finish.Tie as tie

returns : tie.Need-returns-then-t-ne0
unfolding finish judged
returns c = let t = c in rw (← t.ended-t.ensures) (c.told.ensures ∙ sym (if-false _ _ _ (ne_eqb _ _ t.if-t-ne0.true)))

returns-2 : tie.Need-returns-then-miscounted
unfolding finish judged
returns-2 c = let t = c in let m = t in let e = m in rw (← e.ended-t.ensures) (c.told-then-miscounted.ensures ∙ sym (if-true _ _ _ (eq-eqb _ _ e.if-t-ne0.false) ∙ if-true _ _ _ (sym m.miscounted.ensures ∙ t.if-miscounted.true)))

returns-3 : tie.Need-returns
unfolding finish judged
returns-3 c = let t = c in let m = t in let e = m in rw (← e.ended-t.ensures) (c.told-2.ensures ∙ sym (if-true _ _ _ (eq-eqb _ _ e.if-t-ne0.false) ∙ if-false _ _ _ (sym m.miscounted.ensures ∙ t.if-miscounted.false)))

pub finish_spec : {M : Type 1} → statement M
finish_spec = tie.close (tie.spec (λ c κs. search rules) (λ c κs. search rules) returns (λ c κs. search rules) (λ c κs. search rules) returns-2 (λ c κs. search rules) returns-3)
