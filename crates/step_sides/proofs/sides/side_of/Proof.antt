-- The leader is one of the 16 variables, so that its domain can be read.
use Prim.Native.Nat.{◌<◌}
use native.Mathlib.Omega.{arith}
use borrow.Author.Rules.{rules}
use Rattle.pairs.specs.Pairs.{variables}
use Rattle.step_sides.specs.Sides.{leader_of, side_of}
use Rattle.step_sides.proofs.sides.side_of.Statement.{statement}
use Rattle.step_sides.proofs.sides.side_of.Tie as tie

leader_in : (c : tie.After-traced-p) → c.traced-p.result < variables
unfolding leader_of
leader_in c = rw c.traced-p.ensures c.requires.1

returns : tie.Need-returns
unfolding side_of leader_of
returns c = (rw c.traced-p.ensures, record { named_in = c.requires.0; leader_in = leader_in c })

pub side_of_spec : {M : Type 1} → statement M
side_of_spec =
    tie.close
    (tie.spec
    (λ c. search rules)
    (λ c κs. search rules)
    (λ c. search rules)
    (λ c. search rules)
    (λ c. omega (arith, leader_in c))
    (λ c. omega (arith, leader_in c))
    returns)
