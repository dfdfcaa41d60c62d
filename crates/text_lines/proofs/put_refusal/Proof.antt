-- A line of two numbers.
use borrow.Author.Rules.{rules}
use native.Mathlib.Omega.{arith}
use lib.ListN.{length-append}
use Rattle.text_lines.specs.Text.{ascii, refused_text, pair_line}
use Rattle.text_lines.proofs.put_refusal.Statement.{statement}
use Rattle.text_lines.proofs.put_refusal.Tie as tie

put-pair-requires : tie.Need-put_pair-requires
unfolding refused_text pair_line ascii
put-pair-requires c κs = simp length-append (omega (arith, simp length-append at c.requires))

returns : tie.Need-returns
unfolding refused_text pair_line ascii
returns c = c.put_pair.ensures

pub put_refusal_spec : {M : Type 1} → statement M
put_refusal_spec =
    tie.close
    (tie.spec
    put-pair-requires
    (λ c. search rules)
    returns)
