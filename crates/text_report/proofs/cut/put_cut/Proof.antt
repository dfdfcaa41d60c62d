-- The six parts, one after the other.
use borrow.Author.Rules.{rules}
use native.Mathlib.Omega.{arith}
use lib.ListN.{length-append}
use Rattle.buffers.proofs.Laws.{wrote_then}
use Rattle.text_lines.specs.Text.{ascii}
use Rattle.text_report.specs.Text.{cut_text}
use Rattle.text_report.proofs.cut.put_cut.Statement.{statement}
use Rattle.text_report.proofs.cut.put_cut.Tie as tie

put-titled-requires : tie.Need-put_titled-counted-requires
unfolding cut_text ascii
put-titled-requires c κs = omega (arith, simp length-append at c.requires.1)

put-text-requires : tie.Need-put_text-begun-requires
unfolding cut_text ascii
put-text-requires c κs = omega (arith, simp length-append at c.requires.1)

put-options-requires : tie.Need-put_options-listed-requires
unfolding cut_text ascii
put-options-requires c κs = (search rules, omega (arith, simp length-append at c.requires.1))

put-titled-requires-2 : tie.Need-put_titled-stepped-requires
unfolding cut_text ascii
put-titled-requires-2 c κs = omega (arith, simp length-append at c.requires.1)

put-text-requires-2 : tie.Need-put_text-ended-requires
unfolding cut_text ascii
put-text-requires-2 c κs = omega (arith, simp length-append at c.requires.1)

put-verdict-requires : tie.Need-put_verdict-requires
unfolding cut_text ascii
put-verdict-requires c κs = (search rules, omega (arith, simp length-append at c.requires.1))

returns : tie.Need-returns
unfolding cut_text ascii
returns c =
    let v = c in
    let e = v in
    let s = e in
    let l = s in
    let b = l in
    let n = b in
    wrote_then n.put_titled-counted.ensures
    (wrote_then b.put_text-begun.ensures
    (wrote_then l.put_options-listed.ensures
    (wrote_then s.put_titled-stepped.ensures (wrote_then e.put_text-ended.ensures v.put_verdict.ensures))))

pub put_cut_spec : {M : Type 1} → statement M
put_cut_spec =
    tie.close
    (tie.spec
    put-titled-requires
    put-text-requires
    put-options-requires
    put-titled-requires-2
    put-text-requires-2
    put-verdict-requires
    (λ c. search rules)
    returns)
