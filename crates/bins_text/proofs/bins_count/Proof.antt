-- Its two cases.
use mathlib.Core.Path.{sym, ◌∙◌}
use borrow.Author.Tests.{lt-ltb, le-ltb}
use borrow.Author.Rules.{rules}
use Rattle.bounded.proofs.Bool.{if-true, if-false}
use Rattle.bins_text.specs.Machine.{bins_count}
use Rattle.bins_text.proofs.bins_count.Statement.{statement}
use Rattle.bins_text.proofs.bins_count.Tie as tie

returns : tie.Need-returns-then-n-lt16
unfolding bins_count
returns c = c.spot.ensures ∙ sym (if-true _ _ _ (lt-ltb _ _ c.if-n-lt16.true))

returns-2 : tie.Need-returns
unfolding bins_count
returns-2 c = c.spot-2.ensures ∙ sym (if-false _ _ _ (le-ltb _ _ c.if-n-lt16.false))

pub bins_count_spec : {M : Type 1} → statement M
bins_count_spec = tie.close (tie.spec (λ c κs. search rules) returns (λ c κs. search rules) returns-2)
