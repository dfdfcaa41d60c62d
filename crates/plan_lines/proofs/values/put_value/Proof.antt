-- The word has the value, or not.
use mathlib.Core.Path.{sym, ◌∙◌}
use borrow.Author.Rules.{rules}
use Rattle.text_put.proofs.Laws.{put-none}
use Rattle.plan_lines.proofs.Laws.{value_in, value_out}
use Rattle.plan_lines.proofs.values.put_value.Statement.{statement}
use Rattle.plan_lines.proofs.values.put_value.Tie as tie

returns : tie.Need-returns-then-not-member
returns c = rw (value_out _ _ (sym c.member.ensures ∙ c.if-not-member.true)) (put-none _ _)

returns-2 : tie.Need-returns
returns-2 c = rw (value_in _ _ (sym c.member.ensures ∙ c.if-not-member.false)) c.put_spaced.ensures

pub put_value_spec : {M : Type 1} → statement M
put_value_spec =
    tie.close
    (tie.spec
    (λ c κs. search rules)
    returns
    (λ c κs. search rules)
    (λ c. search rules)
    returns-2)
