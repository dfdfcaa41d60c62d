-- The five parts.
use borrow.Author.Rules.{rules}
use Rattle.plan_state.proofs.Laws.{begin-put}
use Rattle.text_lines.specs.Text.{ascii}
use Rattle.plan_state.proofs.rulings.put_begin.Statement.{statement}
use Rattle.plan_state.proofs.rulings.put_begin.Tie as tie

returns : tie.Need-returns
unfolding ascii
returns c = begin-put _ _ _ c.steps.ensures c.put_titled-counted.ensures c.put_text-begun.ensures c.put_options-listed.ensures c.put_titled-stepped.ensures c.put_text.ensures

pub put_begin_spec : {M : Type 1} → statement M
put_begin_spec =
    tie.close
    (tie.spec
    (λ c κs. search rules)
    (λ c κs. search rules)
    (λ c κs. search rules)
    (λ c κs. search rules)
    (λ c κs. search rules)
    (λ c κs. search rules)
    (λ c. search rules)
    returns)
