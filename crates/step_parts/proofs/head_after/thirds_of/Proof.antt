-- Two members are taken out: `thirds-found`.
use borrow.Author.Rules.{rules}
use Rattle.step_parts.proofs.StepArrays.{thirds-found}
use Rattle.step_parts.proofs.head_after.thirds_of.Statement.{statement}
use Rattle.step_parts.proofs.head_after.thirds_of.Tie as tie

returns : tie.Need-returns
returns c =
    thirds-found 32 _ _ _ c.single.ensures c.single-2.ensures c.without.ensures c.without-2.ensures

pub thirds_of_spec : {M : Type 1} → statement M
thirds_of_spec =
    tie.close
    (tie.spec (λ c κs. search rules) (λ c κs. search rules) (λ c κs. search rules) (λ c κs. search rules) returns)
