-- After the last value comes the next variable, which is at most the sixteenth.
use mathlib.Core.Path.{sym}
use Prim.Native.Nat.{◌^◌}
use native.Mathlib.Omega.{arith}
use borrow.Author.Tests.{le-ltb, lt-ltb}
use Rattle.bounded.proofs.Bool.{if-true, if-false}
use Rattle.bounded.specs.Array.{Array}
use Rattle.bins.proofs.Shape.{shape, sized}
use Rattle.bins.specs.Plans.{next_variable}
use borrow.Author.Rules.{rules}
use Rattle.bins.proofs.next_variable.Statement.{statement}
use Rattle.bins.proofs.next_variable.Tie as tie

returns : tie.Need-returns-then-v-n
unfolding next_variable
returns c = sym (if-true _ _ _ (lt-ltb _ _ (rw c.size-n.ensures at c.if-v-n.true)))

add-result : tie.Need-overflow_add-result
add-result c =
    let a = c.args in
    let A : Array 16 (2 ^ 8) a.p.sizes = search shape in
    record { fits = omega (arith, sized a.p.sizes a.o a.v A (search rules)) }

returns-2 : tie.Need-returns
unfolding next_variable
returns-2 c = sym (if-false _ _ _ (le-ltb _ _ (rw c.size-n.ensures at c.if-v-n.false)))

pub next_variable_spec : {M : Type 1} → statement M
next_variable_spec = tie.close (tie.spec (λ c κs. search rules) (λ c. search rules) returns add-result returns-2)
