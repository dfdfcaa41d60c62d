-- The state is its head and its rows.
use borrow.Author.Rules.{rules}
use Rattle.state_bins.proofs.plan_call_off.Statement.{statement}
use Rattle.state_bins.proofs.plan_call_off.Tie as tie

returns : tie.Need-returns
returns c = rw c.head_in-head.ensures at c.plan_call_off_parts.ensures

pub plan_call_off_spec : {M : Type 1} → statement M
plan_call_off_spec = tie.close (tie.spec (λ c κs. search rules) (λ c κs. search rules) returns)
