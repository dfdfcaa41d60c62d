-- A byte is below 256, so two of them make a number below 65536.
use borrow.Author.Rules.{rules}
use Rattle.read_number.proofs.Numbers.{low_fits, high_fits, two_fits}
use Rattle.read_number.proofs.Numbers.{standing-two}
use Rattle.read_number.proofs.two.Statement.{statement}
use Rattle.read_number.proofs.two.Tie as tie

returns : tie.Need-returns
returns c = standing-two _ _

pub two_spec : {M : Type 1} → statement M
two_spec =
    tie.close
    (tie.spec
    (λ c. search rules)
    (λ c. search rules)
    (λ c. search (low_fits, rules))
    (λ c. search (high_fits, rules))
    (λ c. search rules)
    (λ c. search (low_fits, rules))
    (λ c. search (two_fits, rules))
    returns)
