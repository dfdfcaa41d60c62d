-- Each test that comes first decides its number.
use mathlib.Core.Path.{sym}
use borrow.Author.Rules.{rules}
use Rattle.bounded.proofs.Bool.{not-i, not-false-i, if-true, if-false}
use Rattle.answers.specs.Answers.{outcome_number}
use Rattle.step_add_judge.proofs.decided.Goals as goal

pub returns-then-same : goal.returns-then-same
unfolding outcome_number
returns-then-same c = sym (if-true _ _ _ c.if-same.true)

pub returns-then-not-fits : goal.returns-then-not-fits
unfolding outcome_number
returns-then-not-fits c = search (not-i, not-false-i, if-true, if-false, rules)

pub returns : goal.returns
unfolding outcome_number
returns c = search (not-i, not-false-i, if-true, if-false, rules)
