-- Each byte of the result is one of the number: `turned-bytes`.
use native.Mathlib.Omega.{arith}
use borrow.Author.Rules.{rules}
use Rattle.write_tables.proofs.OtherOrder.{turn, turned-bytes, turned-fits}
use Rattle.write_tables.proofs.turned.Statement.{statement}
use Rattle.write_tables.proofs.turned.Tie as tie

cast-result : tie.Need-overflow_cast-result-2
unfolding turn
cast-result c = omega (arith, turned-fits c.args.number (omega (arith, c.ranges.number)) c.args.bytes)

returns : tie.Need-returns
unfolding turn
returns c i = turned-bytes c.args.number (omega (arith, c.ranges.number)) c.args.bytes i (omega (arith, c.requires))

pub turned_spec : {M : Type 1} → statement M
turned_spec =
    tie.close
    (tie.spec
    (λ c. search rules)
    (λ c. search rules)
    (λ c. search rules)
    (λ c. search rules)
    (λ c. search rules)
    (λ c. search rules)
    (λ c. search rules)
    (λ c. search rules)
    (λ c. search rules)
    (λ c. search rules)
    cast-result
    returns)
