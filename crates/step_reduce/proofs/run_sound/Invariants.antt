-- The whole run is the steps taken and the run of the present head and rows. Each step takes a free variable.
use Rattle.head.specs.Held.{held}
use Rattle.network.specs.Reduction.{free_count}
use Rattle.step_choice.specs.Judging.{who_leads}
use Rattle.step_reduce.proofs.Reducing.{Running}
use Rattle.step_reduce.proofs.run_sound.Given as goal

abbrev pub invariant-loop-i : goal.invariant-loop-i
invariant-loop-i l = Running (who_leads l.leader) l.fn.head l.fn.rows l.cut l.rows l.steps

abbrev pub decreases-loop-i : goal.decreases-loop-i
decreases-loop-i l = free_count (held l.cut l.rows)
