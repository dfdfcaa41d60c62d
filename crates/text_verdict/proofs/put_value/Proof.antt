-- A space, and the number.
use borrow.Author.Rules.{rules}
use Rattle.text_lines.specs.Text.{ascii}
use Rattle.text_verdict.specs.Text.{value_text}
use Rattle.text_verdict.proofs.put_value.Statement.{statement}
use Rattle.text_verdict.proofs.put_value.Tie as tie

put-titled-requires : tie.Need-put_titled-requires
unfolding value_text ascii
put-titled-requires c κs = search rules

returns : tie.Need-returns
unfolding value_text ascii
returns c = c.put_titled.ensures

pub put_value_spec : {M : Type 1} → statement M
put_value_spec =
    tie.close (tie.spec put-titled-requires
    (λ c. search rules)
    returns)
