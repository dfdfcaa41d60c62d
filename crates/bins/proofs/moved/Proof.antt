-- A bin that is named gets its new count, and another stays.
use mathlib.Core.Path.{sym, ap, ◌∙◌}
use Rattle.bounded.proofs.Bool.{if-true, if-false}
use Rattle.bins.specs.Bins.{with_count}
use Rattle.bins.specs.Plans.{moved_of}
use borrow.Author.Rules.{rules}
use Rattle.bins.proofs.moved.Statement.{statement}
use Rattle.bins.proofs.moved.Tie as tie

returns : tie.Need-returns-then-is_named
unfolding moved_of
returns c = ap (with_count c.args.b) c.counted.ensures ∙ sym (if-true _ _ _ (sym c.is_named.ensures ∙ c.if-is_named.true))

returns-2 : tie.Need-returns
unfolding moved_of
returns-2 c = sym (if-false _ _ _ (sym c.is_named.ensures ∙ c.if-is_named.false))

pub moved_spec : {M : Type 1} → statement M
moved_spec = tie.close (tie.spec (λ c κs. search rules) (λ c κs. search rules) returns returns-2)
