-- A variable that has a value to come is one of the first sixteen, and so the number after it fits.
use lib.ListN.{get_or}
use mathlib.Core.Path.{sym, ◌∙◌}
use Prim.Native.Nat.{◌^◌}
use native.Mathlib.Omega.{arith}
use borrow.Author.Tests.{le-ltb, lt-ltb}
use Rattle.bounded.proofs.Bool.{and-holds, and-fails}
use Rattle.bounded.specs.Array.{Array}
use Rattle.bounded.proofs.Array.{array-past}
use Rattle.bins.proofs.Shape.{shape}
use Rattle.bins.specs.Plans.{is_next}
use borrow.Author.Rules.{rules}
use Rattle.bins.proofs.is_next.Statement.{statement}
use Rattle.bins.proofs.is_next.Tie as tie

returns : tie.Need-returns-then-s-lt16
unfolding is_next
returns c =
    let t = c in
    c.is_of.ensures ∙ sym (and-holds _ _ (lt-ltb _ _ (rw t.size-n.ensures at t.if-s-n.true)))

returns-2 : tie.Need-returns-else-s-lt16
unfolding is_next
returns-2 c =
    let a = c.args in
    let A : Array 16 (2 ^ 8) a.p.sizes = search shape in
    let z = array-past 16 (2 ^ 8) _ A _ c.if-s-lt16.false in
    sym (and-fails _ _ (le-ltb a.s.value (get_or a.p.sizes a.s.variable 0) (omega (arith, z))))

returns-3 : tie.Need-returns-else-s-n
unfolding is_next
returns-3 c = sym (and-fails _ _ (le-ltb _ _ (rw c.size-n.ensures at c.if-s-n.false)))

pub is_next_spec : {M : Type 1} → statement M
is_next_spec = tie.close (tie.spec (λ c κs. search rules) (λ c. search rules) (λ c κs. search rules) returns returns-2 returns-3)
