-- The head and the rows are those of the state.
use borrow.Author.Rules.{rules}
use Rattle.state.proofs.View.{state-whole}
use Rattle.sheet.proofs.states.complete.Statement.{statement}
use Rattle.sheet.proofs.states.complete.Tie as tie

returns : tie.Need-returns
returns c =
    let p = c in
    let d = p in
    rw (state-whole d.args.state _ d.head_in.ensures) at p.complete_parts.ensures

pub complete_spec : {M : Type 1} → statement M
complete_spec = tie.close (tie.spec (λ c κs. search rules) (λ c κs. search rules) (λ c. search rules) returns)
