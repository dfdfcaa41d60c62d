-- The number and the bins are those of the plan (`post`), which are those of the call-off.
use Rattle.std.proofs.Common.{ap, ◌∙◌}
use Rattle.state_bins.specs.Numbers.{one_of}
use Rattle.state_bins.proofs.Numbers.{one-of-number}
use Rattle.state_bins.proofs.call_off.Goals as goal

pub returns : goal.returns
returns c =
    let e = c.plan_call_off-p.ensures c.args.bins.now in
    (c.outcome_of.ensures ∙ ap one_of c.post-code.ensures.0 ∙ one-of-number c.plan_call_off-p.result c.args.bins.now ∙ e.0, c.post-code.ensures.1 ∙ e.1)
