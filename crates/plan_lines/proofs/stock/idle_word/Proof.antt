-- The full list, without what is used.
use borrow.Author.Rules.{rules}
use Rattle.plan_lines.proofs.Laws.{idle-is}
use Rattle.plan_lines.proofs.stock.idle_word.Statement.{statement}
use Rattle.plan_lines.proofs.stock.idle_word.Tie as tie

returns : tie.Need-returns
returns c = idle-is _ _ c.wide.ensures c.full.ensures c.without.ensures

pub idle_word_spec : {M : Type 1} → statement M
idle_word_spec =
    tie.close
    (tie.spec
    (λ c κs. search rules)
    (λ c κs. search rules)
    (λ c κs. search rules)
    returns)
