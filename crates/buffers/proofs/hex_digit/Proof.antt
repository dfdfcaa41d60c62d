-- The shift is a division by 16 ^ k: `shift-digits`. Then the two cases of a digit.
use mathlib.Core.Path.{sym}
use borrow.Author.Rules.{rules}
use Rattle.buffers.proofs.Digits.{shift-digits, hex-digit-low, hex-digit-high}
use Rattle.buffers.proofs.hex_digit.Statement.{statement}
use Rattle.buffers.proofs.hex_digit.Tie as tie

returns : tie.Need-returns-then-digit-lt10
returns c = let s = c in rw (← shift-digits 4 s.args.k s.args.word) (sym (hex-digit-low _ c.if-digit-lt10.true))

returns-2 : tie.Need-returns
returns-2 c = let s = c in rw (← shift-digits 4 s.args.k s.args.word) (sym (hex-digit-high _ c.if-digit-lt10.false))

pub hex_digit_spec : {M : Type 1} → statement M
hex_digit_spec =
    tie.close
    (tie.spec
    (λ c. search rules)
    (λ c. search rules)
    (λ c. search rules)
    (λ c. search rules)
    (λ c. search rules)
    returns
    (λ c. search rules)
    returns-2)
