-- The title and then the number.
use native.Mathlib.Omega.{arith}
use lib.ListN.{length-append}
use borrow.Author.Rules.{rules}
use Rattle.buffers.proofs.Laws.{wrote_then}
use Rattle.buffers.proofs.put_titled.Statement.{statement}
use Rattle.buffers.proofs.put_titled.Tie as tie

put-text-requires : tie.Need-put_text-next-requires
put-text-requires c κs = omega (arith, simp length-append at c.requires)

put-decimal-requires : tie.Need-put_decimal-requires
put-decimal-requires c κs = omega (arith, simp length-append at c.requires)

returns : tie.Need-returns
returns c = wrote_then c.put_text-next.ensures c.put_decimal.ensures

pub put_titled_spec : {M : Type 1} → statement M
put_titled_spec = tie.close (tie.spec put-text-requires put-decimal-requires (λ c. search rules) returns)
