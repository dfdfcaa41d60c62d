-- What is planned comes to the definitions (`calls-off`).
use Rattle.head.proofs.Held.{HeadShaped, shape}
use Rattle.state_bins.proofs.Asked.{calls-off}
use borrow.Author.Rules.{rules}
use Rattle.state_bins.proofs.plan_call_off_parts.Statement.{statement}
use Rattle.state_bins.proofs.plan_call_off_parts.Tie as tie

shaped : (c : tie.Start) → HeadShaped c.args.head
shaped c = search shape

returns : tie.Need-returns
returns c = calls-off _ (shaped c.before.before.before.before) _ _ _ _ c.refuse_call_off-refusal.ensures c.sixteen-values.ensures

pub plan_call_off_parts_spec : {M : Type 1} → statement M
plan_call_off_parts_spec = tie.close (tie.spec (λ c κs. search rules) (λ c κs. search rules) returns)
