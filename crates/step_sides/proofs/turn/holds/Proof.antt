-- A common member with the word of `d` alone: `holds-is`.
use borrow.Author.Rules.{rules}
use Rattle.step_sides.proofs.Turning.{holds-is}
use Rattle.step_sides.proofs.turn.holds.Statement.{statement}
use Rattle.step_sides.proofs.turn.holds.Tie as tie

returns : tie.Need-returns
returns c = holds-is 32 _ c.requires c.single.ensures c.both.ensures

pub holds_spec : {M : Type 1} → statement M
holds_spec = tie.close (tie.spec (λ c κs. search rules) (λ c κs. search rules) returns)
