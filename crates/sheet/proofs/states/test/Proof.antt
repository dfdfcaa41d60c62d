-- The head and the rows are those of the state.
use borrow.Author.Rules.{rules}
use Rattle.state.proofs.View.{state-whole}
use Rattle.sheet.proofs.states.test.Statement.{statement}
use Rattle.sheet.proofs.states.test.Tie as tie

returns : tie.Need-returns
returns c =
    let d = c in
    rw (state-whole d.args.state _ d.head_in.ensures) at c.test_parts.ensures

pub test_spec : {M : Type 1} → statement M
test_spec = tie.close (tie.spec (λ c κs. search rules) (λ c κs. search rules) returns)
