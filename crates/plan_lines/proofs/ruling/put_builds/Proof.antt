-- More than are counted, or their number.
use borrow.Author.Rules.{rules}
use Rattle.text_lines.specs.Text.{ascii}
use Rattle.text_put.proofs.Laws.{put_then}
use Rattle.plan_lines.proofs.Laws.{builds-over, builds-told}
use Rattle.plan_lines.proofs.ruling.put_builds.Statement.{statement}
use Rattle.plan_lines.proofs.ruling.put_builds.Tie as tie

returns : tie.Need-returns-then-more
unfolding ascii
returns c = rw (builds-over _ _ c.if-more.true) c.put_text.ensures

returns-2 : tie.Need-returns
unfolding ascii
returns-2 c = rw (builds-told _ _ c.if-more.false) (put_then c.put_titled-counted.ensures c.put_text-2.ensures)

pub put_builds_spec : {M : Type 1} → statement M
put_builds_spec =
    tie.close
    (tie.spec
    (λ c κs. search rules)
    (λ c. search rules)
    returns
    (λ c κs. search rules)
    (λ c κs. search rules)
    (λ c. search rules)
    returns-2)
