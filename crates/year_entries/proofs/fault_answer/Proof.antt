-- The bin of nothing.
use borrow.Author.Rules.{rules}
use Rattle.year_entries.proofs.fault_answer.Statement.{statement}
use Rattle.year_entries.proofs.fault_answer.Tie as tie

returns : tie.Need-returns
returns c = let a = c.args in λ i. record { fault = a.fault; place = a.place; number = 0; low = c.no_bin.ensures i }

pub fault_answer_spec : {M : Type 1} → statement M
fault_answer_spec =
    tie.close
    (tie.spec
    (λ c κs. search rules)
    returns)
