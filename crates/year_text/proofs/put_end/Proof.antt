-- Its parts one after the other.
use Rattle.text_lines.specs.Text.{ascii}
use Rattle.year_text.specs.Lines.{end_line}
use Rattle.text_put.proofs.Laws.{put_then}
use borrow.Author.Rules.{rules}
use Rattle.year_text.proofs.put_end.Statement.{statement}
use Rattle.year_text.proofs.put_end.Tie as tie

returns : tie.Need-returns
unfolding end_line ascii
returns c =
    let p2 = c in
    let p1 = p2 in
    put_then p1.put_titled-counted.ensures p2.put_text.ensures

pub put_end_spec : {M : Type 1} → statement M
put_end_spec =
    tie.close
    (tie.spec
    (λ c κs. search rules)
    (λ c κs. search rules)
    (λ c. search rules)
    returns)
