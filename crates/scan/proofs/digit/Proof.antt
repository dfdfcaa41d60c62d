-- Its two cases.
use mathlib.Core.Path.{sym, ◌∙◌}
use borrow.Author.Tests.{eq-eqb, ne_eqb}
use borrow.Author.Rules.{rules}
use Rattle.bounded.proofs.Bool.{if-true, if-false}
use Rattle.scan.specs.Scan.{digit}
use Rattle.scan.proofs.digit.Statement.{statement}
use Rattle.scan.proofs.digit.Tie as tie

returns : tie.Need-returns-then-s-eq1
unfolding digit
returns c = c.digit_on.ensures ∙ sym (if-true _ _ _ (eq-eqb _ _ c.if-s-eq1.true))

returns-2 : tie.Need-returns
unfolding digit
returns-2 c = c.first_digit.ensures ∙ sym (if-false _ _ _ (ne_eqb _ _ c.if-s-eq1.false))

pub digit_spec : {M : Type 1} → statement M
digit_spec = tie.close (tie.spec (λ c κs. search rules) returns (λ c κs. search rules) returns-2)
