-- No lines, or those of all values.
use mathlib.Core.Path.{sym, ◌∙◌}
use native.Mathlib.Omega.{arith}
use borrow.Author.Rules.{rules}
use Rattle.text_put.proofs.Laws.{put-none}
use Rattle.head.proofs.Held.{held-n}
use Rattle.plan_ifs.proofs.Laws.{ifs-none, ifs-some}
use Rattle.plan_ifs.proofs.put_ifs_of.Statement.{statement}
use Rattle.plan_ifs.proofs.put_ifs_of.Tie as tie

is-leader-requires : tie.Need-is_leader-requires
is-leader-requires c κs = let s = c in let most = held-n _ _ s.requires.0 in (omega arith, s.requires.1)

returns : tie.Need-returns-then-not-is_leader
returns c = rw (ifs-none c.args.head _ _ (sym c.is_leader.ensures ∙ c.if-not-is_leader.true)) (put-none _ _)

returns-2 : tie.Need-returns
returns-2 c = rw (ifs-some c.args.head _ _ (sym c.is_leader.ensures ∙ c.if-not-is_leader.false)) c.put_if_values.ensures

pub put_ifs_of_spec : {M : Type 1} → statement M
put_ifs_of_spec =
    tie.close
    (tie.spec
    is-leader-requires
    returns
    (λ c κs. search rules)
    (λ c. search rules)
    returns-2)
