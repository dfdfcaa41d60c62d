-- The four parts of the line.
use borrow.Author.Rules.{rules}
use Rattle.text_put.proofs.Laws.{put_then}
use Rattle.plan_lines.specs.Lines.{values_line}
use Rattle.text_lines.specs.Text.{ascii}
use Rattle.plan_lines.proofs.values.put_values_line.Statement.{statement}
use Rattle.plan_lines.proofs.values.put_values_line.Tie as tie

returns : tie.Need-returns
unfolding values_line ascii
returns c = put_then c.put_titled-named.ensures (put_then c.put_text-titled.ensures (put_then c.put_values-listed.ensures c.put_text.ensures))

pub put_values_line_spec : {M : Type 1} → statement M
put_values_line_spec =
    tie.close
    (tie.spec
    (λ c. search rules)
    (λ c κs. search rules)
    (λ c κs. search rules)
    (λ c κs. search rules)
    (λ c κs. search rules)
    (λ c. search rules)
    returns)
