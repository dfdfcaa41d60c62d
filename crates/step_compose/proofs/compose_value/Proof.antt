-- What rule 2 says for one value is stored as the row of that value: `composing-more`.
use borrow.Author.Rules.{rules}
use Rattle.step_compose.proofs.Composition.{composing-more}
use Rattle.step_compose.proofs.compose_value.Statement.{statement}
use Rattle.step_compose.proofs.compose_value.Tie as tie

returns : tie.Need-returns
returns c =
    let r = c in
    ((λ given before s u. composing-more r.requires.0 u s r.composed_row-members.ensures c.put.ensures), c.put.ensures.size)

pub compose_value_spec : {M : Type 1} → statement M
compose_value_spec = tie.close (tie.spec (λ c κs. search rules) (λ c κs. search rules) returns)
