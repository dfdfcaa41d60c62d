-- Trailing zeros count at most the bits of a word.
use native.Mathlib.Omega.{arith}
use Rattle.bounded.proofs.Fold.{first-le}
use Rattle.words.specs.Word.{width, has}
use borrow.Author.Rules.{rules}
use Rattle.solutions.proofs.values.lowest_value.Statement.{statement}
use Rattle.solutions.proofs.values.lowest_value.Tie as tie

cast-result : tie.Need-overflow_cast-result
cast-result c = omega (arith, c.lowest.ensures, first-le width (has c.args.domain))

pub lowest_value_spec : {M : Type 1} → statement M
lowest_value_spec = tie.close (tie.spec (λ c κs. search rules) cast-result (λ c. search rules))
