-- The member is taken out and put in again where it is to be: `marked-is`.
use borrow.Author.Rules.{rules}
use Rattle.pairs.proofs.Runs.{marked-is}
use Rattle.pairs_store.proofs.marked.Statement.{statement}
use Rattle.pairs_store.proofs.marked.Tie as tie

returns : tie.Need-returns
returns c =
    let m = c in
    marked-is 32 _ _ _ m.single.ensures m.without.ensures m.moved.ensures c.either.ensures

pub marked_spec : {M : Type 1} → statement M
marked_spec = tie.close (tie.spec (λ c κs. search rules) (λ c κs. search rules) (λ c κs. search rules) (λ c κs. search rules) returns)
