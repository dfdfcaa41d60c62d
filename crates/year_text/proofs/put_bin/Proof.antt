-- Its parts one after the other.
use Rattle.text_lines.specs.Text.{ascii}
use Rattle.year_text.specs.Lines.{line_of_bin}
use native.Mathlib.Omega.{arith}
use Rattle.text_put.proofs.Laws.{put_then}
use borrow.Author.Rules.{rules}
use Rattle.year_text.proofs.put_bin.Statement.{statement}
use Rattle.year_text.proofs.put_bin.Tie as tie

returns : tie.Need-returns
unfolding line_of_bin ascii
returns c =
    let p7 = c in
    let p6 = p7 in
    let p5 = p6 in
    let p4 = p5 in
    let p3 = p4 in
    let p2 = p3 in
    let p1 = p2 in
    put_then p1.put_titled-binned.ensures (put_then p2.put_titled-valued.ensures (put_then p3.put_titled-opened.ensures (put_then p4.put_titled-brought.ensures (put_then p5.put_titled-taken.ensures (put_then p6.put_titled-held.ensures p7.put_text.ensures)))))

same_length : tie.Need-shape_of-buffer
same_length c =
    let p7 = c in
    let p6 = p7 in
    let p5 = p6 in
    let p4 = p5 in
    let p3 = p4 in
    let p2 = p3 in
    let p1 = p2 in
    omega (arith, p1.put_titled-binned.ensures.keeps, p2.put_titled-valued.ensures.keeps, p3.put_titled-opened.ensures.keeps, p4.put_titled-brought.ensures.keeps, p5.put_titled-taken.ensures.keeps, p6.put_titled-held.ensures.keeps, p7.put_text.ensures.keeps)

pub put_bin_spec : {M : Type 1} → statement M
put_bin_spec =
    tie.close
    (tie.spec
    (λ c κs. search rules)
    (λ c κs. search rules)
    (λ c κs. search rules)
    (λ c κs. search rules)
    (λ c κs. search rules)
    (λ c κs. search rules)
    (λ c κs. search rules)
    same_length
    returns)
