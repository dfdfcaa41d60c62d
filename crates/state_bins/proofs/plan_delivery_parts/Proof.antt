-- What is planned comes to the definitions (`delivers`).
use Rattle.head.proofs.Held.{HeadShaped, shape}
use Rattle.state_bins.proofs.Asked.{delivers}
use borrow.Author.Rules.{rules}
use Rattle.state_bins.proofs.plan_delivery_parts.Statement.{statement}
use Rattle.state_bins.proofs.plan_delivery_parts.Tie as tie

shaped : (c : tie.Start) → HeadShaped c.args.head
shaped c = search shape

returns : tie.Need-returns
returns c = delivers _ (shaped c.before.before) _ _ _ _ _ c.refuse_delivery-refusal.ensures

pub plan_delivery_parts_spec : {M : Type 1} → statement M
plan_delivery_parts_spec = tie.close (tie.spec (λ c κs. search rules) returns)
