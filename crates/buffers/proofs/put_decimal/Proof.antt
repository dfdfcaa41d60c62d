-- One digit, or all of them.
use native.Mathlib.Omega.{arith}
use borrow.Author.Rules.{rules}
use Rattle.buffers.proofs.Digits.{decimal-one, length-decimal-one}
use Rattle.buffers.proofs.put_decimal.Statement.{statement}
use Rattle.buffers.proofs.put_decimal.Tie as tie

put-byte-requires : tie.Need-put_byte-requires
put-byte-requires c κs = omega (arith, length-decimal-one c.args.n (omega arith))

returns : tie.Need-returns-then-n-lt10
returns c = rw (decimal-one _ c.if-n-lt10.true) c.put_byte.ensures

pub put_decimal_spec : {M : Type 1} → statement M
put_decimal_spec =
    tie.close
    (tie.spec
    (λ c. search rules)
    (λ c. search rules)
    put-byte-requires
    (λ c. search rules)
    returns
    (λ c κs. search rules)
    (λ c. search rules)
    (λ c. search rules))
