-- The word of idle values, in a line.
use mathlib.Core.Path.{ap}
use borrow.Author.Rules.{rules}
use Rattle.text_put.proofs.Laws.{put-text}
use Rattle.plan_lines.specs.Lines.{stock_line, idle_line}
use Rattle.text_lines.specs.Text.{ascii}
use Rattle.plan_lines.proofs.stock.put_idle_line.Statement.{statement}
use Rattle.plan_lines.proofs.stock.put_idle_line.Tie as tie

returns : tie.Need-returns
unfolding idle_line ascii
returns c = put-text (ap (stock_line (ascii "IDLE ") _) c.idle_word.ensures) c.put_stock_line.ensures

pub put_idle_line_spec : {M : Type 1} → statement M
put_idle_line_spec =
    tie.close
    (tie.spec
    (λ c κs. search rules)
    (λ c κs. search rules)
    (λ c. search rules)
    returns)
