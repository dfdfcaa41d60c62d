-- What is stored is the word with one member more: `mark-stores`.
use borrow.Author.Rules.{rules}
use Rattle.read_tables.proofs.Held.{mark-stores}
use Rattle.read_tables.proofs.mark.Statement.{statement}
use Rattle.read_tables.proofs.mark.Tie as tie

returns : tie.Need-returns
returns c = mark-stores _ _ _ c.single.ensures c.either.ensures

pub mark_spec : {M : Type 1} → statement M
mark_spec =
    tie.close
    (tie.spec
    (λ c. search rules)
    (λ c. search rules)
    (λ c κs. search rules)
    (λ c κs. search rules)
    (λ c. search rules)
    (λ c. search rules)
    returns)
