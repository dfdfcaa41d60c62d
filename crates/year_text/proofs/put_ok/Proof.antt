-- Its parts one after the other.
use Rattle.text_lines.specs.Text.{ascii}
use Rattle.year_text.specs.Lines.{ok_line}
use Rattle.text_put.proofs.Laws.{put_then}
use borrow.Author.Rules.{rules}
use Rattle.year_text.proofs.put_ok.Statement.{statement}
use Rattle.year_text.proofs.put_ok.Tie as tie

returns : tie.Need-returns
unfolding ok_line ascii
returns c =
    let p2 = c in
    let p1 = p2 in
    put_then p1.put_titled-numbered.ensures p2.put_text.ensures

pub put_ok_spec : {M : Type 1} → statement M
put_ok_spec =
    tie.close
    (tie.spec
    (λ c κs. search rules)
    (λ c κs. search rules)
    (λ c. search rules)
    returns)
