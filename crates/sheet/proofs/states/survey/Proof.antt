-- The head and the rows are those of the state.
use borrow.Author.Rules.{rules}
use Rattle.state.proofs.View.{state-whole}
use Rattle.sheet.proofs.states.survey.Statement.{statement}
use Rattle.sheet.proofs.states.survey.Tie as tie

returns : tie.Need-returns
returns c =
    let d = c in
    rw (state-whole d.args.state _ d.head_in.ensures) at c.survey_parts.ensures

pub survey_spec : {M : Type 1} → statement M
survey_spec = tie.close (tie.spec (λ c κs. search rules) (λ c κs. search rules) returns)
