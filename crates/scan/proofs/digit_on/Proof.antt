-- Its two cases.
use mathlib.Core.Path.{sym, ◌∙◌}
use borrow.Author.Tests.{lt-ltb, le-ltb}
use borrow.Author.Rules.{rules}
use Rattle.bounded.proofs.Bool.{if-true, if-false}
use Rattle.scan.specs.Scan.{digit_on}
use Rattle.scan.proofs.digit_on.Statement.{statement}
use Rattle.scan.proofs.digit_on.Tie as tie

returns : tie.Need-returns-then-value-gt4294967295
unfolding digit_on
returns c = c.faulted.ensures ∙ sym (if-true _ _ _ (lt-ltb _ _ c.if-value-gt4294967295.true))

returns-2 : tie.Need-returns
unfolding digit_on
returns-2 c = c.going.ensures ∙ sym (if-false _ _ _ (le-ltb _ _ c.if-value-gt4294967295.false))

pub digit_on_spec : {M : Type 1} → statement M
digit_on_spec = tie.close (tie.spec (λ c. search rules) (λ c. search rules) (λ c. search rules) (λ c κs. search rules) returns (λ c. search rules) (λ c κs. search rules) returns-2)
