-- One value more, or none: `joined-one`, `joined-not`.
use borrow.Author.Rules.{rules}
use Rattle.order_paths.proofs.Members.{joined-not, joined-one}
use Rattle.order_paths.proofs.reach.joined_if.Statement.{statement}
use Rattle.order_paths.proofs.reach.joined_if.Tie as tie

returns : tie.Need-returns-then-not-also
returns c = joined-not 32 _ _ c.ranges.x.fits (c.if-not-also.true)

returns-2 : tie.Need-returns
returns-2 c = joined-one 32 _ _ (c.if-not-also.false) c.single.ensures c.either.ensures

pub joined_if_spec : {M : Type 1} → statement M
joined_if_spec = tie.close (tie.spec returns (λ c κs. search rules) (λ c κs. search rules) returns-2)
