-- The value itself, or the lowest of row AND domain: `partner-own`, `partner-led`.
use borrow.Author.Rules.{rules}
use Rattle.step_sides.proofs.Cut.{partner-own, partner-led}
use Rattle.step_sides.proofs.sides.partner.Statement.{statement}
use Rattle.step_sides.proofs.sides.partner.Tie as tie

returns : tie.Need-returns-then-p-x
returns c = partner-own 32 _ _ _ c.if-p-x.true

returns-2 : tie.Need-returns
returns-2 c =
    let r = c in
    partner-led 32 _ r.args.side _ r.if-p-x.false r.row.ensures c.both.ensures c.lowest.ensures

pub partner_spec : {M : Type 1} → statement M
partner_spec = tie.close (tie.spec returns (λ c κs. search rules) (λ c κs. search rules) (λ c κs. search rules) returns-2)
