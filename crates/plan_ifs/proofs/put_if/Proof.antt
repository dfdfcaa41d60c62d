-- No line, or one.
use mathlib.Core.Path.{sym, ◌∙◌}
use borrow.Author.Rules.{rules}
use Rattle.plan_ifs.proofs.Laws.{if-out, if-in, if-put}
use Rattle.text_put.proofs.Laws.{put-none}
use Rattle.text_lines.specs.Text.{ascii}
use Rattle.head.specs.Held.{held}
use Rattle.plan_ifs.proofs.put_if.Statement.{statement}
use Rattle.plan_ifs.proofs.put_if.Tie as tie

returns : tie.Need-returns-then-not-member
returns c = rw (if-out c.args.head _ _ _ (sym c.member.ensures ∙ c.if-not-member.true)) (put-none _ _)

put-thens-requires : tie.Need-put_thens-followed-requires
put-thens-requires c κs = let s = c in (s.requires.0, s.requires.1, sym c.member.ensures ∙ c.if-not-member.false)

returns-2 : tie.Need-returns
unfolding ascii held
returns-2 c = rw (if-in c.args.head _ _ _ (sym c.member.ensures ∙ c.if-not-member.false)) (if-put _ _ _ c.put_titled-named.ensures c.put_spaced-valued.ensures c.put_text-titled.ensures c.put_thens-followed.ensures c.put_text.ensures)

pub put_if_spec : {M : Type 1} → statement M
put_if_spec =
    tie.close
    (tie.spec
    (λ c. search rules)
    (λ c. search rules)
    (λ c κs. search rules)
    returns
    (λ c. search rules)
    (λ c κs. search rules)
    (λ c κs. search rules)
    (λ c κs. search rules)
    put-thens-requires
    (λ c κs. search rules)
    (λ c. search rules)
    returns-2)
