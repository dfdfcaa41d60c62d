-- The number decides, or whether the variable is free.
use mathlib.Core.Path.{sym}
use borrow.Author.Rules.{rules}
use Rattle.answers.specs.Answers.{outcome_number}
use Rattle.step_choice.proofs.Judging.{zero-leads, above-leads, led-leads, free-leads}
use Rattle.step_choice.proofs.judge_leader.Statement.{statement}
use Rattle.step_choice.proofs.judge_leader.Tie as tie

returns : tie.Need-returns-then-leader-eq0
unfolding outcome_number
returns c = λ rows. sym (zero-leads _ rows _ c.if-leader-eq0.true)

returns-2 : tie.Need-returns-then-head-leader
unfolding outcome_number
returns-2 c = λ rows. sym (above-leads _ rows _ c.if-head-leader.true)

returns-3 : tie.Need-returns-then-leaders-leader-ne0
unfolding outcome_number
returns-3 c = λ rows. sym (led-leads _ rows _ (search rules) (search rules) c.if-leaders-leader-ne0.true)

returns-4 : tie.Need-returns
unfolding outcome_number
returns-4 c = λ rows. sym (free-leads _ rows _ (search rules) (search rules) c.if-leaders-leader-ne0.false)

pub judge_leader_spec : {M : Type 1} → statement M
judge_leader_spec = tie.close (tie.spec returns returns-2 (λ c. search rules) (λ c. search rules) returns-3 returns-4)
