-- Its two cases.
use mathlib.Core.Path.{sym}
use borrow.Author.Rules.{rules}
use borrow.Author.Tests.{eq-eqb, ne_eqb}
use Rattle.bounded.proofs.Bool.{if-true, if-false}
use Rattle.text_lines.specs.Text.{ascii}
use Rattle.text_put.proofs.Laws.{put_then, put-text}
use Rattle.year_end.specs.End.{bins_refusal}
use Rattle.year_end.proofs.put_bins_refusal.Statement.{statement}
use Rattle.year_end.proofs.put_bins_refusal.Tie as tie

returns : tie.Need-returns-then-number-eq27
unfolding ascii bins_refusal
returns c =
    let e = c in
    let q = e in
    let p = q in
    put-text (sym (if-true _ _ _ (eq-eqb _ _ p.if-number-eq27.true))) (put_then p.put_titled-numbered.ensures (put_then q.put_titled-lined.ensures e.put_phrase_end.ensures))

returns-2 : tie.Need-returns
unfolding ascii bins_refusal
returns-2 c =
    let e = c in
    let s = e in
    let q = s in
    let p = q in
    put-text (sym (if-false _ _ _ (ne_eqb _ _ p.if-number-eq27.false)))
    (put_then p.put_titled-numbered-2.ensures (put_then q.put_titled-lined-2.ensures (put_then s.put_titled-placed.ensures e.put_fault_end.ensures)))

pub put_bins_refusal_spec : {M : Type 1} → statement M
put_bins_refusal_spec =
    tie.close
    (tie.spec
    (λ c κs. search rules)
    (λ c κs. search rules)
    (λ c κs. search rules)
    (λ c. search rules)
    returns
    (λ c κs. search rules)
    (λ c κs. search rules)
    (λ c κs. search rules)
    (λ c κs. search rules)
    (λ c. search rules)
    returns-2)
