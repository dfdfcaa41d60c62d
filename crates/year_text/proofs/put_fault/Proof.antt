-- Its parts one after the other.
use Rattle.text_lines.specs.Text.{ascii}
use Rattle.year_text.specs.Lines.{fault_line}
use Rattle.text_put.proofs.Laws.{put_then}
use borrow.Author.Rules.{rules}
use Rattle.year_text.proofs.put_fault.Statement.{statement}
use Rattle.year_text.proofs.put_fault.Tie as tie

returns : tie.Need-returns
unfolding fault_line ascii
returns c =
    let p4 = c in
    let p3 = p4 in
    let p2 = p3 in
    let p1 = p2 in
    put_then p1.put_titled-refused.ensures (put_then p2.put_titled-numbered.ensures (put_then p3.put_titled-placed.ensures p4.put_fault_end.ensures))

pub put_fault_spec : {M : Type 1} → statement M
put_fault_spec =
    tie.close
    (tie.spec
    (λ c κs. search rules)
    (λ c κs. search rules)
    (λ c κs. search rules)
    (λ c κs. search rules)
    (λ c. search rules)
    returns)
