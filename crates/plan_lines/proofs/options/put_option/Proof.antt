-- A live option, or a follower.
use borrow.Author.Rules.{rules}
use Rattle.plan_lines.proofs.Laws.{option-live, option-follows}
use Rattle.text_put.proofs.Laws.{put_then}
use Rattle.text_lines.specs.Text.{ascii}
use Rattle.plan_lines.proofs.options.put_option.Statement.{statement}
use Rattle.plan_lines.proofs.options.put_option.Tie as tie

returns : tie.Need-returns-then-leader-eq0
unfolding ascii
returns c = rw (option-live _ _ _ c.if-leader-eq0.true) c.put_values_line.ensures

returns-2 : tie.Need-returns
unfolding ascii
returns-2 c = rw (option-follows _ _ _ c.if-leader-eq0.false) (put_then c.put_titled-named.ensures (put_then c.put_titled-led.ensures c.put_text.ensures))

pub put_option_spec : {M : Type 1} → statement M
put_option_spec =
    tie.close
    (tie.spec
    (λ c κs. search rules)
    (λ c. search rules)
    returns
    (λ c. search rules)
    (λ c κs. search rules)
    (λ c κs. search rules)
    (λ c κs. search rules)
    (λ c. search rules)
    returns-2)
