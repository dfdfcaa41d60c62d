-- What is open, and the rest.
use borrow.Author.Rules.{rules}
use Rattle.text_lines.specs.Text.{ascii}
use Rattle.plan_state.proofs.Laws.{maybe-put}
use Rattle.plan_state.proofs.surveys.put_maybe.Statement.{statement}
use Rattle.plan_state.proofs.surveys.put_maybe.Tie as tie

returns : tie.Need-returns
unfolding ascii
returns c = maybe-put _ _ _ c.put_stock-open.ensures c.put_idle.ensures

pub put_maybe_spec : {M : Type 1} → statement M
put_maybe_spec =
    tie.close
    (tie.spec
    (λ c κs. search rules)
    (λ c κs. search rules)
    (λ c. search rules)
    returns)
