-- The lowest values, completed.
use borrow.Author.Rules.{rules}
use Rattle.solutions_head.proofs.lowest_solution.Statement.{statement}
use Rattle.solutions_head.proofs.lowest_solution.Tie as tie

complete-values-requires : tie.Need-complete_values-requires
complete-values-requires c κs = rw c.lowest_values-values.ensures c.requires

returns : tie.Need-returns
returns c = rw c.lowest_values-values.ensures at c.complete_values.ensures

pub lowest_solution_spec : {M : Type 1} → statement M
lowest_solution_spec =
    tie.close
    (tie.spec
    (λ c κs. search rules)
    (λ c. search rules)
    complete-values-requires
    returns)
