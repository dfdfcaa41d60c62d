-- The row of the partner, told to the second leader: `reach-is`.
use borrow.Author.Rules.{rules}
use Rattle.step_sides.proofs.Cut.{reach-is}
use Rattle.step_sides.proofs.sides.reach.Statement.{statement}
use Rattle.step_sides.proofs.sides.reach.Tie as tie

returns : tie.Need-returns
returns c = let a = c.args in reach-is 32 _ _ a.first a.second _ c.partner-c.ensures c.told.ensures

pub reach_spec : {M : Type 1} → statement M
reach_spec =
    tie.close
    (tie.spec
    (λ c κs. search rules)
    (λ c. search rules)
    (λ c. search rules)
    (λ c κs. search rules)
    returns)
