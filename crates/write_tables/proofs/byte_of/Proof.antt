-- The shift is a division by 256 ^ k: `shift-digits`.
use mathlib.Core.Path.{refl}
use borrow.Author.Rules.{rules}
use Rattle.buffers.proofs.Digits.{shift-digits}
use Rattle.write_tables.proofs.byte_of.Statement.{statement}
use Rattle.write_tables.proofs.byte_of.Tie as tie

returns : tie.Need-returns
returns c = rw (← shift-digits 8 c.args.k c.args.number) refl

pub byte_of_spec : {M : Type 1} → statement M
byte_of_spec =
    tie.close (tie.spec (λ c. search rules) (λ c. search rules) (λ c. search rules) (λ c. search rules) returns)
