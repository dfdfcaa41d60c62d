-- Past the sixteen there is nothing to read.
use mathlib.Core.Path.{sym}
use Prim.Native.Nat.{◌^◌}
use Rattle.bounded.specs.Array.{Array}
use Rattle.bounded.proofs.Array.{array-past}
use Rattle.bins.proofs.Shape.{shape}
use borrow.Author.Rules.{rules}
use Rattle.bins.proofs.byte.Statement.{statement}
use Rattle.bins.proofs.byte.Tie as tie

returns-2 : tie.Need-returns
returns-2 c = let A : Array 16 (2 ^ 8) c.args.bytes = search shape in sym (array-past 16 (2 ^ 8) _ A _ c.if-i-lt16.false)

pub byte_spec : {M : Type 1} → statement M
byte_spec = tie.close (tie.spec (λ c. search rules) (λ c. search rules) returns-2)
