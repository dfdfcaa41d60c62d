-- Its parts one after the other.
use Rattle.text_lines.specs.Text.{ascii}
use Rattle.year_text.specs.Lines.{short_line}
use Rattle.text_put.proofs.Laws.{put_then}
use borrow.Author.Rules.{rules}
use Rattle.year_text.proofs.put_too_low.Statement.{statement}
use Rattle.year_text.proofs.put_too_low.Tie as tie

returns : tie.Need-returns
unfolding short_line ascii
returns c =
    let p5 = c in
    let p4 = p5 in
    let p3 = p4 in
    let p2 = p3 in
    let p1 = p2 in
    put_then p1.put_titled-numbered.ensures (put_then p2.put_titled-binned.ensures (put_then p3.put_titled-valued.ensures (put_then p4.put_titled-counted.ensures p5.put_phrase_end.ensures)))

pub put_too_low_spec : {M : Type 1} → statement M
put_too_low_spec =
    tie.close
    (tie.spec
    (λ c κs. search rules)
    (λ c. search rules)
    (λ c κs. search rules)
    (λ c. search rules)
    (λ c κs. search rules)
    (λ c. search rules)
    (λ c κs. search rules)
    (λ c κs. search rules)
    (λ c. search rules)
    returns)
