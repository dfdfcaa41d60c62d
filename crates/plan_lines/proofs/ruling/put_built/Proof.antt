-- The title, the values and the line feed.
use borrow.Author.Rules.{rules}
use Rattle.text_put.proofs.Laws.{put_then}
use Rattle.plan_lines.specs.Lines.{built_text}
use Rattle.text_lines.specs.Text.{ascii}
use Rattle.plan_lines.proofs.ruling.put_built.Statement.{statement}
use Rattle.plan_lines.proofs.ruling.put_built.Tie as tie

returns : tie.Need-returns
unfolding built_text ascii
returns c = put_then c.put_text-titled.ensures (put_then c.put_build-built.ensures c.put_text.ensures)

pub put_built_spec : {M : Type 1} → statement M
put_built_spec =
    tie.close
    (tie.spec
    (λ c κs. search rules)
    (λ c κs. search rules)
    (λ c κs. search rules)
    (λ c. search rules)
    returns)
