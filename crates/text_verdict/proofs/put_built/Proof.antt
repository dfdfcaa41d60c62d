-- The titles, the values and the line feed.
use borrow.Author.Rules.{rules}
use native.Mathlib.Omega.{arith}
use lib.ListN.{length-append}
use Rattle.buffers.proofs.Laws.{wrote_then}
use Rattle.text_lines.specs.Text.{ascii}
use Rattle.text_verdict.specs.Text.{built_text}
use Rattle.text_verdict.proofs.put_built.Statement.{statement}
use Rattle.text_verdict.proofs.put_built.Tie as tie

put-text-requires : tie.Need-put_text-titled-requires
unfolding built_text ascii
put-text-requires c κs = omega (arith, simp length-append at c.requires.1)

put-values-requires : tie.Need-put_values-built-requires
unfolding built_text ascii
put-values-requires c κs = omega (arith, simp length-append at c.requires.1)

put-text-requires-2 : tie.Need-put_text-requires
unfolding built_text ascii
put-text-requires-2 c κs = omega (arith, simp length-append at c.requires.1)

returns : tie.Need-returns
unfolding built_text ascii
returns c =
    let n = c in
    let v = n in
    let t = v in
    wrote_then t.put_text-titled.ensures (wrote_then v.put_values-built.ensures n.put_text.ensures)

pub put_built_spec : {M : Type 1} → statement M
put_built_spec =
    tie.close
    (tie.spec
    put-text-requires
    put-values-requires
    put-text-requires-2
    (λ c. search rules)
    returns)
