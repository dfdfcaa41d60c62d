-- The one bin of a delivery, or the bins of a solution's values.
use mathlib.Core.Path.{sym, ◌∙◌}
use Rattle.bounded.proofs.Bool.{if-true, if-false}
use Rattle.bins.specs.Plans.{named}
use borrow.Author.Rules.{rules}
use Rattle.bins.proofs.is_named.Statement.{statement}
use Rattle.bins.proofs.is_named.Tie as tie

returns : tie.Need-returns-then-p
unfolding named
returns c = c.is_of.ensures ∙ sym (if-true _ _ _ c.if-p.true)

returns-2 : tie.Need-returns
unfolding named
returns-2 c = c.of_solution.ensures ∙ sym (if-false _ _ _ c.if-p.false)

pub is_named_spec : {M : Type 1} → statement M
is_named_spec = tie.close (tie.spec (λ c κs. search rules) returns (λ c κs. search rules) returns-2)
