use Rattle.std.proofs.Common.{rules}
use Rattle.network.specs.Survey.{count_limit}
use Rattle.survey.proofs.tally.capped.Goals as goal

pub returns : goal.returns
unfolding count_limit
returns c = search rules
