-- The head and the rows are those of the state.
use borrow.Author.Rules.{rules}
use Rattle.state.proofs.View.{state-whole}
use Rattle.sheet.proofs.states.find_order.Statement.{statement}
use Rattle.sheet.proofs.states.find_order.Tie as tie

returns : tie.Need-returns
returns c =
    let p = c in
    let d = p in
    rw (state-whole d.args.state _ d.head_in.ensures) at p.find_order_parts.ensures

pub find_order_spec : {M : Type 1} → statement M
find_order_spec = tie.close (tie.spec (λ c κs. search rules) (λ c κs. search rules) (λ c. search rules) returns)
