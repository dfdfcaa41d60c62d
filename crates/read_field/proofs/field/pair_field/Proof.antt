-- Cut off, then the causes of a pair in their order, then fine.
use borrow.Author.Rules.{rules}
use native.Mathlib.Omega.{arith}
use Rattle.read_field.proofs.Fields.{field_cut, field-fault, field-fine, pair-range, pair-order, pair-repeated, pair-fine}
use Rattle.read_field.proofs.field.pair_field.Statement.{statement}
use Rattle.read_field.proofs.field.pair_field.Tie as tie

returns : tie.Need-returns-then-bytes-second
returns c = field_cut 2 _ _ _ (omega arith)

returns-2 : tie.Need-returns-then-a-b
returns-2 c = field-fault 2 _ _ _ c.number-pair.ensures (omega arith) (pair-range _ _ _ c.if-a-b.true)

returns-3 : tie.Need-returns-then-b-a
returns-3 c = field-fault 2 _ _ _ c.number-pair.ensures (omega arith) (pair-order _ _ _ c.if-a-b.false (omega arith))

returns-4 : tie.Need-returns-then-pair-previous
returns-4 c =
    field-fault 2 _ _ _ c.number-pair.ensures (omega arith)
    (pair-repeated _ _ _ c.if-a-b.false (omega arith) (omega arith))

returns-5 : tie.Need-returns
returns-5 c =
    field-fine 2 _ _ _ c.number-pair.ensures (omega arith) (omega arith)
    (pair-fine _ _ _ c.if-a-b.false (omega arith) (omega arith))

pub pair_field_spec : {M : Type 1} → statement M
pair_field_spec =
    tie.close
    (tie.spec (λ c. search rules) returns (λ c κs. search rules) (λ c. search rules) returns-2 returns-3 returns-4 (λ c. search rules) returns-5)
