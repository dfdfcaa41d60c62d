-- The refusal and the end.
use borrow.Author.Rules.{rules}
use Rattle.text_lines.specs.Text.{ascii}
use Rattle.plan_text.proofs.Laws.{refused-put, refused-le}
use Rattle.plan_text.proofs.put_refused.Statement.{statement}
use Rattle.plan_text.proofs.put_refused.Tie as tie

returns : tie.Need-returns
unfolding ascii
returns c = (refused-put _ c.put_refusal-said.ensures c.put_text.ensures, refused-le c.args.cause)

pub put_refused_spec : {M : Type 1} → statement M
put_refused_spec =
    tie.close
    (tie.spec
    (λ c κs. search rules)
    (λ c κs. search rules)
    (λ c. search rules)
    returns)
