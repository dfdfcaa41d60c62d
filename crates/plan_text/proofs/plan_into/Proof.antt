-- The text fits, and is put at the start of zeros.
use borrow.Author.Rules.{rules}
use Rattle.plan_text.proofs.Laws.{text-printed}
use Rattle.plan_text.proofs.plan_into.Statement.{statement}
use Rattle.plan_text.proofs.plan_into.Tie as tie

returns : tie.Need-returns
returns c = text-printed c.put_text_of.ensures.1 c.put_text_of.ensures.0

pub plan_into_spec : {M : Type 1} → statement M
plan_into_spec =
    tie.close
    (tie.spec
    (λ c κs. search rules)
    returns)
