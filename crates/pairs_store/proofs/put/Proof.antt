-- The lower variable has rows, and the higher one columns of them.
use borrow.Author.Rules.{rules}
use Rattle.pairs.proofs.Laws.{higher}
use Rattle.pairs_store.proofs.put.Statement.{statement}
use Rattle.pairs_store.proofs.put.Tie as tie

pub put_spec : {M : Type 1} → statement M
put_spec = tie.close (tie.spec (λ c κs. search rules) (λ c. search rules) (λ c κs. let p = c.requires in let l = higher c.if-i-j.false p.2 in search rules) (λ c. search rules))
