-- The row is the sum of its bits.
use native.Mathlib.Omega.{arith}
use borrow.Author.Rules.{rules}
use Rattle.bounded.specs.Fold.{sum}
use Rattle.words.specs.Word.{word}
use Rattle.meter_rule.specs.PageNine.{draws, row_of}
use Rattle.meter_rule.proofs.row.Statement.{statement}
use Rattle.meter_rule.proofs.row.Tie as tie

add-result : tie.Need-overflow_add-result
add-result c = omega arith

add-result-2 : tie.Need-overflow_add-result-2
add-result-2 c = omega arith

add-result-3 : tie.Need-overflow_add-result-3
add-result-3 c = omega arith

returns : tie.Need-returns
unfolding row_of word sum draws
returns c = search rules

pub row_spec : {M : Type 1} → statement M
row_spec =
    tie.close
    (tie.spec
    (λ c κs. search rules)
    (λ c κs. search rules)
    add-result
    (λ c κs. search rules)
    add-result-2
    (λ c κs. search rules)
    add-result-3
    returns)
