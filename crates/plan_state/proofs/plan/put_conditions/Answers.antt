use mathlib.Core.Path.{sym, ◌∙◌}
use Rattle.text_put.proofs.Laws.{put-none}
use Rattle.plan_state.proofs.Laws.{no_conditions}
use Rattle.plan_state.proofs.plan.put_conditions.Goals as goal

pub returns-then-no_build : goal.returns-then-no_build
returns-then-no_build c = rw (no_conditions _ _ (sym c.no_build.ensures ∙ c.if-no_build.true)) (put-none _ _)
