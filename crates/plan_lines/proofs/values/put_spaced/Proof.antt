-- The blank and the number.
use borrow.Author.Rules.{rules}
use Rattle.plan_lines.specs.Lines.{spaced}
use Rattle.text_lines.specs.Text.{ascii}
use Rattle.plan_lines.proofs.values.put_spaced.Statement.{statement}
use Rattle.plan_lines.proofs.values.put_spaced.Tie as tie

returns : tie.Need-returns
unfolding spaced ascii
returns c = c.put_titled.ensures

pub put_spaced_spec : {M : Type 1} → statement M
put_spaced_spec =
    tie.close
    (tie.spec
    (λ c κs. search rules)
    (λ c. search rules)
    returns)
