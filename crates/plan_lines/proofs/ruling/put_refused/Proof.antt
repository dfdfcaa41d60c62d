-- The blank and the refusal.
use borrow.Author.Rules.{rules}
use Rattle.text_lines.specs.Text.{ascii}
use Rattle.text_put.proofs.Laws.{put_then}
use Rattle.plan_lines.specs.Lines.{refused_text}
use Rattle.plan_lines.proofs.ruling.put_refused.Statement.{statement}
use Rattle.plan_lines.proofs.ruling.put_refused.Tie as tie

returns : tie.Need-returns
unfolding refused_text ascii
returns c = put_then c.put_text-spaced.ensures c.put_refusal.ensures

pub put_refused_spec : {M : Type 1} → statement M
put_refused_spec =
    tie.close
    (tie.spec
    (λ c κs. search rules)
    (λ c κs. search rules)
    (λ c. search rules)
    returns)
