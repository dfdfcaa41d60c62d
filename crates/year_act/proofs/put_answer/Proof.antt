-- By the fault, and then by the number.
use mathlib.Core.Path.{◌≡◌, sym, ◌∙◌}
use native.Mathlib.Omega.{arith}
use Prim.Native.Nat.{ℕ}
use borrow.Author.Tests.{eq-eqb, ne_eqb}
use Rattle.bounded.proofs.Bool.{if-true, if-false}
use Rattle.text_put.proofs.Laws.{put-text, put-none}
use Rattle.year_act.specs.Answers.{answer_text}
use borrow.Author.Rules.{rules}
use Rattle.year_act.proofs.put_answer.Statement.{statement}
use Rattle.year_act.proofs.put_answer.Tie as tie

not-0 : {k : ℕ} → k ≡ 29 → k ≡ 0 → ⊥
not-0 e z = omega (arith, e, z)

returns : tie.Need-returns-then-a-ne0
unfolding answer_text
returns c = put-text (sym (if-false _ _ _ (ne_eqb _ 0 c.if-a-ne0.true))) c.put_fault.ensures

returns-2 : tie.Need-returns-then-a-eq29
unfolding answer_text
returns-2 c =
    let k = c in
    put-text
    (sym (if-true _ _ _ (eq-eqb _ 0 k.if-a-ne0.false) ∙ if-false _ _ _ (ne_eqb _ 0 (not-0 k.if-a-eq29.true)) ∙ if-true _ _ _ (eq-eqb _ 29 k.if-a-eq29.true)))
    c.put_too_low.ensures

returns-3 : tie.Need-returns-then-a-ne0-2
unfolding answer_text
returns-3 c =
    let k = c in
    let j = k in
    put-text
    (sym (if-true _ _ _ (eq-eqb _ 0 j.if-a-ne0.false) ∙ if-false _ _ _ (ne_eqb _ 0 k.if-a-ne0-2.true) ∙ if-false _ _ _ (ne_eqb _ 29 j.if-a-eq29.false)))
    c.put_not_in_stock.ensures

returns-4 : tie.Need-returns-then-quiet
unfolding answer_text
returns-4 c =
    let k = c in
    let f = k in
    put-text
    (sym (if-true _ _ _ (eq-eqb _ 0 f.if-a-ne0.false) ∙ if-true _ _ _ (eq-eqb _ 0 k.if-a-ne0-2.false) ∙ if-true _ _ _ c.if-quiet.true))
    (put-none _ _)

returns-5 : tie.Need-returns
unfolding answer_text
returns-5 c =
    let q = c in
    let k = q in
    let f = k in
    put-text
    (sym (if-true _ _ _ (eq-eqb _ 0 f.if-a-ne0.false) ∙ if-true _ _ _ (eq-eqb _ 0 k.if-a-ne0-2.false) ∙ if-false _ _ _ q.if-quiet.false))
    c.put_ok.ensures

pub put_answer_spec : {M : Type 1} → statement M
put_answer_spec =
    tie.close
    (tie.spec
    (λ c κs. search rules)
    (λ c. search rules)
    returns
    (λ c κs. search rules)
    (λ c. search rules)
    returns-2
    (λ c κs. search rules)
    (λ c. search rules)
    returns-3
    returns-4
    (λ c κs. search rules)
    (λ c. search rules)
    returns-5)
