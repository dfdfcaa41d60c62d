-- A factor of 0, one that passes the cap, and one that does not.
use Rattle.survey.proofs.Spreading.{times_none, times-past, times_more}
use Rattle.survey.proofs.spread.times.Goals as goal

pub returns-then-values-eq0 : goal.returns-then-values-eq0
returns-then-values-eq0 c = λ x C. times_none c.args.counted _ c.if-values-eq0.true x

pub returns-in-Some : goal.returns-in-Some
returns-in-Some c = times_more c.args.counted _ c.if-values-eq0.false c.in-Some.ensures.0 c.in-Some.ensures.1

pub returns-in-None : goal.returns-in-None
returns-in-None c = times-past c.args.counted _ c.in-None.ensures
