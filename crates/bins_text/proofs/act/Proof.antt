-- Its five cases.
use mathlib.Core.Path.{sym, ◌∙◌}
use borrow.Author.Tests.{eq-eqb, ne_eqb}
use borrow.Author.Rules.{rules}
use Rattle.bounded.proofs.Bool.{if-true, if-false}
use Rattle.bins_text.specs.Machine.{read_on, read_case}
use Rattle.bins_text.proofs.Laws.{in-order-room}
use Rattle.bins_text.proofs.act.Statement.{statement}
use Rattle.bins_text.proofs.act.Tie as tie

returns : tie.Need-returns-then-r-ne0
unfolding read_case
returns c = sym (if-false _ _ _ (ne_eqb _ _ c.if-r-ne0.true))

returns-2 : tie.Need-returns-then-line-ne0
unfolding read_case read_on
returns-2 c = let t = c in let e = t in rw c.refused_at.ensures (sym (if-true _ _ _ (eq-eqb _ _ e.if-r-ne0.false) ∙ if-false _ _ _ (ne_eqb _ _ t.if-line-ne0.true)))

returns-3 : tie.Need-returns-then-line-eq0
unfolding read_case read_on
returns-3 c = let t = c in let f = t in let e = f in rw c.passed.ensures (sym (if-true _ _ _ (eq-eqb _ _ e.if-r-ne0.false) ∙ if-true _ _ _ (eq-eqb _ _ f.if-line-ne0.false) ∙ if-true _ _ _ (eq-eqb _ _ t.if-line-eq0.true)))

returns-4 : tie.Need-returns-then-in_order
unfolding read_case read_on
returns-4 c = let t = c in let o = t in let g = o in let f = g in let e = f in c.take.ensures ∙ sym (if-true _ _ _ (eq-eqb _ _ e.if-r-ne0.false) ∙ if-true _ _ _ (eq-eqb _ _ f.if-line-ne0.false) ∙ if-false _ _ _ (ne_eqb _ _ g.if-line-eq0.false) ∙ if-true _ _ _ (sym o.in_order.ensures ∙ t.if-in_order.true))

returns-5 : tie.Need-returns
unfolding read_case read_on
returns-5 c = let t = c in let o = t in let g = o in let f = g in let e = f in rw c.refused_at-2.ensures (sym (if-true _ _ _ (eq-eqb _ _ e.if-r-ne0.false) ∙ if-true _ _ _ (eq-eqb _ _ f.if-line-ne0.false) ∙ if-false _ _ _ (ne_eqb _ _ g.if-line-eq0.false) ∙ if-false _ _ _ (sym o.in_order.ensures ∙ t.if-in_order.false)))

pub act_spec : {M : Type 1} → statement M
act_spec = tie.close (tie.spec returns (λ c κs. search rules) returns-2 (λ c κs. search rules) returns-3 (λ c. search rules) (λ c. search rules) (λ c κs. search rules) (λ c. search rules) (λ c κs. let t = c in let o = t in in-order-room _ _ _ _ _ (sym o.in_order.ensures ∙ t.if-in_order.true)) returns-4 (λ c κs. search rules) returns-5)
