-- The four parts of the line, one after the other.
use borrow.Author.Rules.{rules}
use native.Mathlib.Omega.{arith}
use lib.ListN.{length-append}
use Rattle.buffers.proofs.Laws.{wrote_then}
use Rattle.buffers.proofs.Digits.{length-hex}
use Rattle.text_lines.specs.Text.{ascii, live_line}
use Rattle.text_lines.proofs.put_live.Statement.{statement}
use Rattle.text_lines.proofs.put_live.Tie as tie

put-titled-requires : tie.Need-put_titled-named-requires
unfolding live_line ascii
put-titled-requires c κs = omega (arith, simp length-append at c.requires)

put-text-requires : tie.Need-put_text-titled-requires
unfolding live_line ascii
put-text-requires c κs = omega (arith, simp length-append at c.requires)

put-hex-requires : tie.Need-put_hex-listed-requires
unfolding live_line ascii
put-hex-requires c κs = omega (arith, simp (length-append, length-hex) at c.requires)

put-text-requires-2 : tie.Need-put_text-requires
unfolding live_line ascii
put-text-requires-2 c κs =
    let h = c in
    omega
    (arith, simp (length-append, length-hex) at h.requires, simp length-hex at h.put_hex-listed.ensures.ends)

returns : tie.Need-returns
unfolding live_line ascii
returns c =
    let n = c in
    let h = n in
    let l = h in
    let f = l in
    wrote_then f.put_titled-named.ensures (wrote_then l.put_text-titled.ensures (wrote_then h.put_hex-listed.ensures n.put_text.ensures))

pub put_live_spec : {M : Type 1} → statement M
put_live_spec =
    tie.close
    (tie.spec
    put-titled-requires
    put-text-requires
    put-hex-requires
    put-text-requires-2
    (λ c. search rules)
    returns)
