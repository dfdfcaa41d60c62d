-- Its parts one after the other.
use Rattle.text_lines.specs.Text.{ascii}
use Rattle.year_text.specs.Lines.{refused_line}
use Rattle.text_put.proofs.Laws.{put_then}
use borrow.Author.Rules.{rules}
use Rattle.year_text.proofs.put_not_in_stock.Statement.{statement}
use Rattle.year_text.proofs.put_not_in_stock.Tie as tie

returns : tie.Need-returns
unfolding refused_line ascii
returns c =
    let p3 = c in
    let p2 = p3 in
    let p1 = p2 in
    put_then p1.put_titled-refused.ensures (put_then p2.put_titled-numbered.ensures p3.put_phrase_end.ensures)

pub put_not_in_stock_spec : {M : Type 1} → statement M
put_not_in_stock_spec =
    tie.close
    (tie.spec
    (λ c κs. search rules)
    (λ c κs. search rules)
    (λ c κs. search rules)
    (λ c. search rules)
    returns)
