-- From the lower side the rows are joined, from the higher side they are searched: `partners-up`, `partners-down`.
use native.Mathlib.Omega.{arith}
use borrow.Author.Rules.{rules}
use Rattle.pairs.proofs.Laws.{higher}
use Rattle.pairs.proofs.Runs.{partners-up, partners-down}
use Rattle.pairs_read.proofs.partners.Statement.{statement}
use Rattle.pairs_read.proofs.partners.Tie as tie

returns : tie.Need-returns-then-i-j
returns c = partners-up 32 _ _ (omega arith) (omega arith) c.place.ensures.0 (search rules)

returns-2 : tie.Need-returns
returns-2 c =
    let s = c in
    partners-down 32 _ _ (higher c.if-i-j.false s.requires.2) s.requires.0 c.place-2.ensures.0 (search rules)

pub partners_spec : {M : Type 1} → statement M
partners_spec =
    tie.close
    (tie.spec (λ c κs. search rules) (λ c κs. search rules) returns (λ c κs. search rules) (λ c κs. search rules) returns-2)
