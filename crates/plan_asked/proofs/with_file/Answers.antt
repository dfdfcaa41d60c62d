use Rattle.std.proofs.Common.{sym, ◌∙◌}
use Rattle.bounded.proofs.Bool.{if-true, if-false}
use Rattle.plan_asked.specs.Asked.{with_file}
use Rattle.plan_asked.proofs.with_file.Goals as goal

pub returns-then-is_some : goal.returns-then-is_some
unfolding with_file
returns-then-is_some c = c.fault.ensures ∙ sym (if-true _ _ _ (sym c.is_some.ensures ∙ c.if-is_some.true))

pub returns : goal.returns
unfolding with_file
returns c = sym (if-false _ _ _ (sym c.is_some.ensures ∙ c.if-is_some.false))
