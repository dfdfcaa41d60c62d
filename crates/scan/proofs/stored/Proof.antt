-- Its two cases.
use mathlib.Core.Path.{sym, ◌∙◌}
use borrow.Author.Tests.{lt-ltb, le-ltb}
use borrow.Author.Rules.{rules}
use Rattle.bounded.proofs.Bool.{if-true, if-false}
use Rattle.scan.specs.Scan.{stored, kept}
use Rattle.scan.proofs.stored.Statement.{statement}
use Rattle.scan.proofs.stored.Tie as tie

returns : tie.Need-returns-then-count-lt-CELLS
unfolding stored kept
returns c = sym (if-true _ _ _ (lt-ltb _ _ c.if-count-lt-CELLS.true))

returns-2 : tie.Need-returns
unfolding stored
returns-2 c = c.faulted.ensures ∙ sym (if-false _ _ _ (le-ltb _ _ c.if-count-lt-CELLS.false))

pub stored_spec : {M : Type 1} → statement M
stored_spec = tie.close (tie.spec (λ c. search rules) (λ c. search rules) (λ c. search rules) returns (λ c κs. search rules) returns-2)
