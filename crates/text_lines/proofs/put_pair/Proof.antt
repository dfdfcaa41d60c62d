-- The two titled numbers and the line feed.
use borrow.Author.Rules.{rules}
use native.Mathlib.Omega.{arith}
use lib.ListN.{length-append}
use Rattle.text_lines.specs.Text.{ascii, pair_line}
use Rattle.text_lines.proofs.Laws.{wrote-pair}
use Rattle.text_lines.proofs.put_pair.Statement.{statement}
use Rattle.text_lines.proofs.put_pair.Tie as tie

put-titled-requires : tie.Need-put_titled-middle-requires
unfolding pair_line ascii
put-titled-requires c κs = simp length-append (omega (arith, simp length-append at c.requires))

put-titled-requires-2 : tie.Need-put_titled-last-requires
unfolding pair_line ascii
put-titled-requires-2 c κs =
    let f = c in
    simp length-append (omega (arith, simp length-append at f.requires, simp length-append at f.put_titled-middle.ensures.ends))

put-text-requires : tie.Need-put_text-requires
unfolding pair_line ascii
put-text-requires c κs =
    let s = c in
    let f = s in
    omega
    (arith, simp length-append at f.requires, simp length-append at f.put_titled-middle.ensures.ends, simp length-append at s.put_titled-last.ensures.ends)

returns : tie.Need-returns
unfolding ascii
returns c =
    let n = c in
    let s = n in
    let f = s in
    let a = f.args in
    wrote-pair _ a.one _ a.two f.put_titled-middle.ensures s.put_titled-last.ensures n.put_text.ensures

pub put_pair_spec : {M : Type 1} → statement M
put_pair_spec =
    tie.close
    (tie.spec
    put-titled-requires
    put-titled-requires-2
    put-text-requires
    (λ c. search rules)
    returns)
