-- Its parts one after the other.
use Rattle.text_lines.specs.Text.{ascii}
use Rattle.year_text.specs.Lines.{entries_line}
use Rattle.text_put.proofs.Laws.{put_then}
use borrow.Author.Rules.{rules}
use Rattle.year_text.proofs.put_entries.Statement.{statement}
use Rattle.year_text.proofs.put_entries.Tie as tie

returns : tie.Need-returns
unfolding entries_line ascii
returns c =
    let p6 = c in
    let p5 = p6 in
    let p4 = p5 in
    let p3 = p4 in
    let p2 = p3 in
    let p1 = p2 in
    put_then p1.put_titled-all.ensures (put_then p2.put_titled-ok.ensures (put_then p3.put_titled-r28.ensures (put_then p4.put_titled-r29.ensures (put_then p5.put_titled-text.ensures p6.put_text.ensures))))

pub put_entries_spec : {M : Type 1} → statement M
put_entries_spec =
    tie.close
    (tie.spec
    (λ c κs. search rules)
    (λ c κs. search rules)
    (λ c κs. search rules)
    (λ c κs. search rules)
    (λ c κs. search rules)
    (λ c κs. search rules)
    (λ c. search rules)
    returns)
