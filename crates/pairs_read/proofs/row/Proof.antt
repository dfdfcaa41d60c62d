-- From the lower side it is a row of the array, from the higher side the partners of one value: `partners-one`.
use borrow.Author.Rules.{rules}
use Rattle.pairs.proofs.Laws.{higher}
use Rattle.pairs.proofs.Runs.{partners-down, partners-one}
use Rattle.pairs_read.proofs.row.Statement.{statement}
use Rattle.pairs_read.proofs.row.Tie as tie

returns-2 : tie.Need-returns
returns-2 c =
    let p = c in
    let s = p in
    partners-one 32 _ _ _ s.requires.3 c.single.ensures
    (partners-down 32 _ _ (higher p.if-i-j.false s.requires.2) s.requires.0 p.place.ensures.0 c.hits.ensures)

pub row_spec : {M : Type 1} → statement M
row_spec =
    tie.close
    (tie.spec
    (λ c κs. search rules)
    (λ c. search rules)
    (λ c κs. search rules)
    (λ c κs. search rules)
    (λ c κs. search rules)
    returns-2)
