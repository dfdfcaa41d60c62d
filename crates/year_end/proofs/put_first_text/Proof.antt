-- Its two cases.
use mathlib.Core.Path.{sym}
use borrow.Author.Rules.{rules}
use borrow.Author.Tests.{eq-eqb, ne_eqb}
use Rattle.bounded.proofs.Bool.{if-true, if-false}
use Rattle.text_put.proofs.Laws.{put-text, put-none}
use Rattle.year_end.specs.End.{first_text}
use Rattle.year_end.proofs.put_first_text.Statement.{statement}
use Rattle.year_end.proofs.put_first_text.Tie as tie

returns : tie.Need-returns-then-r29-eq0
unfolding first_text
returns c = put-text (sym (if-true _ _ _ (eq-eqb _ _ c.if-r29-eq0.true))) (put-none _ _)

returns-2 : tie.Need-returns
unfolding first_text
returns-2 c =
    let p = c in
    put-text (sym (if-false _ _ _ (ne_eqb _ _ p.if-r29-eq0.false))) p.put_first.ensures

pub put_first_text_spec : {M : Type 1} → statement M
put_first_text_spec = tie.close (tie.spec returns (λ c κs. search rules) (λ c. search rules) returns-2)
