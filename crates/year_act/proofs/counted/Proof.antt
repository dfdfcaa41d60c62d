-- One more, or as many.
use mathlib.Core.Path.{sym, ◌∙◌}
use Rattle.bounded.proofs.Bool.{if-true, if-false}
use Rattle.year_act.specs.Kept.{counted_if}
use borrow.Author.Rules.{rules}
use Rattle.year_act.proofs.counted.Statement.{statement}
use Rattle.year_act.proofs.counted.Tie as tie

returns : tie.Need-returns-then-more
unfolding counted_if
returns c = c.plus.ensures ∙ sym (if-true _ _ _ c.if-more.true)

returns-2 : tie.Need-returns
unfolding counted_if
returns-2 c = sym (if-false _ _ _ c.if-more.false)

pub counted_spec : {M : Type 1} → statement M
counted_spec =
    tie.close
    (tie.spec
    (λ c κs. search rules)
    returns
    returns-2)
