use native.Mathlib.Omega.{arith}
use Rattle.answers.specs.Answers.{verdict_told}
use Rattle.text_put.proofs.Laws.{put-none}
use Rattle.plan_state.specs.Plan.{search_line}
use Rattle.plan_state.proofs.rulings.put_search.Goals as goal

pub returns-in-None : goal.returns-in-None
unfolding verdict_told search_line
returns-in-None c = rw c.in-None.is (put-none _ _, omega arith)

pub returns-in-Built : goal.returns-in-Built
unfolding verdict_told search_line
returns-in-Built c = rw c.in-Built.is (put-none _ _, omega arith)
