-- Its four cases.
use mathlib.Core.Path.{sym, ◌∙◌}
use borrow.Author.Tests.{lt-ltb, le-ltb, eq-eqb, ne_eqb}
use borrow.Author.Rules.{rules}
use Rattle.bounded.proofs.Bool.{if-true, if-false}
use Rattle.scan.specs.Scan.{first_digit}
use Rattle.scan.proofs.first_digit.Statement.{statement}
use Rattle.scan.proofs.first_digit.Tie as tie

returns : tie.Need-returns-then-s-eq5
unfolding first_digit
returns c = c.faulted.ensures ∙ sym (if-true _ _ _ (eq-eqb _ _ c.if-s-eq5.true))

returns-2 : tie.Need-returns-then-s-eq0
unfolding first_digit
returns-2 c = let t = c in let e = t in c.faulted-then-s-eq0.ensures ∙ sym (if-false _ _ _ (ne_eqb _ _ e.if-s-eq5.false) ∙ if-true _ _ _ (eq-eqb _ _ t.if-s-eq0.true))

returns-3 : tie.Need-returns-then-s-lt-CELLS
unfolding first_digit
returns-3 c = let u = c in let t = u in let e = t in c.going.ensures ∙ sym (if-false _ _ _ (ne_eqb _ _ e.if-s-eq5.false) ∙ if-false _ _ _ (ne_eqb _ _ t.if-s-eq0.false) ∙ if-true _ _ _ (lt-ltb _ _ u.if-s-lt-CELLS.true))

returns-4 : tie.Need-returns
unfolding first_digit
returns-4 c = let u = c in let t = u in let e = t in c.faulted-2.ensures ∙ sym (if-false _ _ _ (ne_eqb _ _ e.if-s-eq5.false) ∙ if-false _ _ _ (ne_eqb _ _ t.if-s-eq0.false) ∙ if-false _ _ _ (le-ltb _ _ u.if-s-lt-CELLS.false))

pub first_digit_spec : {M : Type 1} → statement M
first_digit_spec = tie.close (tie.spec (λ c κs. search rules) returns (λ c κs. search rules) returns-2 (λ c κs. search rules) returns-3 (λ c κs. search rules) returns-4)
