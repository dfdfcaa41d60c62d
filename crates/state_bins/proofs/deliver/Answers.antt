-- The number and the bins are those of the plan (`post`), which are those of the delivery.
use Rattle.std.proofs.Common.{ap, ◌∙◌}
use Rattle.state_bins.specs.Numbers.{one_of}
use Rattle.state_bins.proofs.Numbers.{one-of-number}
use Rattle.state_bins.proofs.deliver.Goals as goal

pub returns : goal.returns
returns c =
    let e = c.plan_delivery-p.ensures c.args.bins.now in
    (c.outcome_of.ensures ∙ ap one_of c.post-code.ensures.0 ∙ one-of-number c.plan_delivery-p.result c.args.bins.now ∙ e.0, c.post-code.ensures.1 ∙ e.1)
