-- The row itself, or the partners of its members: `told-own`, `told-led`.
use borrow.Author.Rules.{rules}
use Rattle.step_sides.proofs.Cut.{told-own, told-led}
use Rattle.step_sides.proofs.sides.told.Statement.{statement}
use Rattle.step_sides.proofs.sides.told.Tie as tie

returns : tie.Need-returns-then-p-x
returns c = told-own 32 _ _ _ c.ranges.row.fits c.if-p-x.true

returns-2 : tie.Need-returns
returns-2 c =
    let e = c in
    told-led 32 _ e.args.side _ e.if-p-x.false c.both.ensures c.partners.ensures

pub told_spec : {M : Type 1} → statement M
told_spec = tie.close (tie.spec returns (λ c κs. search rules) (λ c κs. search rules) returns-2)
