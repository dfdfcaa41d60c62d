use Rattle.std.proofs.Common.{sym, ◌∙◌}
use Rattle.bounded.proofs.Bool.{if-true, if-false}
use Rattle.plan_asked.specs.Asked.{with_number}
use Rattle.plan_asked.proofs.with_number.Goals as goal

pub returns-then-not-is_number : goal.returns-then-not-is_number
unfolding with_number
returns-then-not-is_number c = c.fault.ensures ∙ sym (if-false _ _ _ (sym c.is_number.ensures ∙ c.if-not-is_number.true))

pub returns : goal.returns
unfolding with_number
returns c = rw c.number.ensures (sym (if-true _ _ _ (sym c.is_number.ensures ∙ c.if-not-is_number.false)))
