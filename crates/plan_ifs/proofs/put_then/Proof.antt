-- No follower of this option, or one: its value is the lowest of both words.
use mathlib.Core.Path.{sym, ap, ◌∙◌}
use borrow.Author.Rules.{rules}
use Rattle.text_put.proofs.Laws.{put-none}
use Rattle.plan_ifs.proofs.Laws.{then-none, then_some, other, value-width, partner-is}
use Rattle.plan_lines.specs.Lines.{spaced}
use Rattle.text_put.proofs.Laws.{put_then}
use Rattle.head.proofs.Held.{HeadShaped, shape}
use Rattle.text_put.proofs.Laws.{put-text}
use Rattle.plan_ifs.proofs.put_then.Statement.{statement}
use Rattle.plan_ifs.proofs.put_then.Tie as tie

returns : tie.Need-returns-then-not-follows
returns c = rw (then-none _ _ _ _ _ (sym c.follows.ensures ∙ c.if-not-follows.true)) (put-none _ _)

row-requires : tie.Need-row-requires
row-requires c κs = let s = c in let S : HeadShaped s.args.head = search shape in let e = sym c.follows.ensures ∙ c.if-not-follows.false in (s.requires.1, s.requires.2, other _ _ S s.requires.0 _ _ e, value-width _ s.args.rows.now S s.requires.0 _ _ s.requires.3)

returns-2 : tie.Need-returns
returns-2 c = let s = c in let S : HeadShaped s.args.head = search shape in let e = sym c.follows.ensures ∙ c.if-not-follows.false in rw (then_some _ _ _ _ _ e) (put_then c.put_spaced-named.ensures (put-text (ap spaced (partner-is _ _ S s.requires.0 _ _ _ e s.requires.3 c.row.ensures c.both-partners.ensures c.lowest.ensures)) c.put_spaced.ensures))

pub put_then_spec : {M : Type 1} → statement M
put_then_spec =
    tie.close
    (tie.spec
    (λ c. search rules)
    (λ c κs. search rules)
    returns
    (λ c. search rules)
    (λ c. search rules)
    row-requires
    (λ c κs. search rules)
    (λ c. search rules)
    (λ c κs. search rules)
    (λ c κs. search rules)
    (λ c κs. search rules)
    (λ c. search rules)
    returns-2)
