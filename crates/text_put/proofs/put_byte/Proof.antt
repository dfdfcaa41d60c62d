-- A byte that has no room, and one that has.
use native.Mathlib.Omega.{arith}
use borrow.Author.Rules.{rules}
use Rattle.text_put.proofs.Laws.{put_one, put-out}
use Rattle.text_put.proofs.put_byte.Statement.{statement}
use Rattle.text_put.proofs.put_byte.Tie as tie

returns : tie.Need-returns-then-at-buffer
returns c = put-out _ _ _ (omega arith)

returns-2 : tie.Need-returns
returns-2 c = put_one _ _ _ (omega arith)

pub put_byte_spec : {M : Type 1} → statement M
put_byte_spec = tie.close (tie.spec returns (λ c. search rules) (λ c. search rules) (λ c. search rules) returns-2)
