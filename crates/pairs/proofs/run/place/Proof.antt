-- The product does not overflow, and the rows of every pair lie within the array: `product_lt`, `room`.
use native.Mathlib.Omega.{arith}
use borrow.Author.Rules.{rules}
use Rattle.pairs.specs.Pairs.{slot}
use Rattle.pairs.proofs.Places.{product_lt, room}
use Rattle.pairs.proofs.run.place.Statement.{statement}
use Rattle.pairs.proofs.run.place.Tie as tie

returns : tie.Need-returns
unfolding slot
returns c = let h = room 32 _ _ c.requires.0 c.requires.1 in (omega arith, omega (arith, h))

pub place_spec : {M : Type 1} → statement M
place_spec =
    tie.close
    (tie.spec
    (λ c. search rules)
    (λ c. let h = product_lt c.requires.1 in search rules)
    (λ c. let h = product_lt c.requires.1 in search rules)
    (λ c. let h = product_lt c.requires.1 in search rules)
    returns)
