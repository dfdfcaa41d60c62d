-- Cut off, then out of range, then fine: one law for each way that a field goes.
use mathlib.Core.Path.{refl}
use borrow.Author.Rules.{rules}
use native.Mathlib.Omega.{arith}
use Rattle.read_field.proofs.Fields.{field_cut, field-fault, field-fine, range-fault, range-fine}
use Rattle.read_number.proofs.Numbers.{byte_fits, number-one}
use Rattle.read_field.proofs.field.byte_field.Statement.{statement}
use Rattle.read_field.proofs.field.byte_field.Tie as tie

returns : tie.Need-returns-then-bytes-at
returns c = field_cut 1 _ _ _ (omega arith)

cast-value : tie.Need-overflow_cast-value
cast-value c = search (byte_fits, rules)

returns-2 : tie.Need-returns-then-value-least
returns-2 c = field-fault 1 _ _ _ (number-one _ _) (omega arith) (range-fault _ _ _ c.if-value-least.true)

returns-3 : tie.Need-returns
returns-3 c = field-fine 1 _ _ _ (number-one _ _) refl (omega arith) (range-fine _ _ _ c.args.cause c.if-value-least.false)

pub byte_field_spec : {M : Type 1} → statement M
byte_field_spec =
    tie.close (tie.spec returns (λ c. search rules) cast-value returns-2 (λ c. search rules) returns-3)
