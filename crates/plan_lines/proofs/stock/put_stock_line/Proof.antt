-- No line, or one.
use borrow.Author.Rules.{rules}
use Rattle.plan_lines.proofs.Laws.{stock-none, stock-some}
use Rattle.text_put.proofs.Laws.{put-none}
use Rattle.plan_lines.proofs.stock.put_stock_line.Statement.{statement}
use Rattle.plan_lines.proofs.stock.put_stock_line.Tie as tie

returns : tie.Need-returns-then-x-eq0
returns c = rw (stock-none _ _ _ c.if-x-eq0.true) (put-none _ _)

returns-2 : tie.Need-returns
returns-2 c = rw (stock-some _ _ _ c.if-x-eq0.false) c.put_values_line.ensures

pub put_stock_line_spec : {M : Type 1} → statement M
put_stock_line_spec =
    tie.close
    (tie.spec
    returns
    (λ c κs. search rules)
    (λ c. search rules)
    returns-2)
