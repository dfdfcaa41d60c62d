-- A byte is below 256, so four of them make a number below 2 to the 32.
use Prim.Native.Nat.{◌+◌}
use native.Mathlib.Omega.{arith}
use borrow.Author.Rules.{rules}
use Rattle.read_number.proofs.Numbers.{first_fits, second_fits, third-fits, fourth-fits, four-fit}
use Rattle.read_number.proofs.Numbers.{standing-four}
use Rattle.read_number.proofs.four.Statement.{statement}
use Rattle.read_number.proofs.four.Tie as tie

add-result-3 : tie.Need-overflow_add-result-3
add-result-3 c =
    let args = c.args in
    omega (arith, four-fit args.bytes.now c.shared_slice_known-2-1.given (args.at + 3) (args.at + 2) 0 0)

add-result-5 : tie.Need-overflow_add-result-5
add-result-5 c =
    let args = c.args in
    omega (arith, four-fit args.bytes.now c.shared_slice_known-3-1.given (args.at + 3) (args.at + 2) (args.at + 1) 0)

add-result-6 : tie.Need-overflow_add-result-6
add-result-6 c =
    let args = c.args in
    omega (arith, four-fit args.bytes.now c.shared_slice_known-4-1.given (args.at + 3) (args.at + 2) (args.at + 1) args.at)

returns : tie.Need-returns
returns c = standing-four _ _

pub four_spec : {M : Type 1} → statement M
four_spec =
    tie.close
    (tie.spec
    (λ c. search rules)
    (λ c. search rules)
    (λ c. search (fourth-fits, rules))
    (λ c. search (first_fits, rules))
    (λ c. search rules)
    (λ c. search rules)
    (λ c. search (fourth-fits, rules))
    (λ c. search (second_fits, rules))
    add-result-3
    (λ c. search rules)
    (λ c. search rules)
    (λ c. search (fourth-fits, rules))
    (λ c. search (third-fits, rules))
    add-result-5
    (λ c. search rules)
    (λ c. search (fourth-fits, rules))
    add-result-6
    returns)
