-- The head and the rows are those of the state.
use borrow.Author.Rules.{rules}
use Rattle.state.proofs.View.{state-whole}
use Rattle.sheet.proofs.states.verdict.Statement.{statement}
use Rattle.sheet.proofs.states.verdict.Tie as tie

returns : tie.Need-returns
returns c =
    let d = c in
    rw (state-whole d.args.state _ d.head_in.ensures) at c.verdict_parts.ensures

pub verdict_spec : {M : Type 1} → statement M
verdict_spec = tie.close (tie.spec (λ c κs. search rules) (λ c κs. search rules) returns)
