-- Soundness is tested once, by the tester: 9 is read off its answer.
use mathlib.Core.Bool.{false}
use mathlib.Core.Path.{◌≡◌, sym, ap, ◌∙◌}
use lib.Dec.{eqb}
use borrow.Author.Tests.{eq-eqb, ne_eqb}
use Rattle.bounded.proofs.Bool.{if-true, if-false}
use Rattle.answers.specs.Answers.{test_number, test_agrees}
use Rattle.state.specs.View.{state_of}
use Rattle.state.specs.Solutions.{tested}
use Rattle.state_bins.specs.Asked.{call_off_refusal}
use borrow.Author.Rules.{rules}
use Rattle.state_bins.proofs.refuse_call_off.Statement.{statement}
use Rattle.state_bins.proofs.refuse_call_off.Tie as tie

returns : tie.Need-returns-then-test_number-eq9
unfolding call_off_refusal
returns c = sym (if-true _ _ _ (eq-eqb _ _ (ap test_number (sym c.test_parts-answer.ensures) ∙ sym c.test_number.ensures ∙ c.if-test_number-eq9.true)))

-- Past the first test the tester did not say 9.
not-nine : (c : tie.Else-test_number-eq9) → let s = c.args in
    eqb (test_number (tested (state_of s.head s.rows.now) s.solution.now)) 9 ≡ false
not-nine c = ne_eqb _ _ (λ n. c.if-test_number-eq9.false (c.test_number.ensures ∙ ap test_number c.test_parts-answer.ensures ∙ n))

returns-2 : tie.Need-returns-then-test_agrees
unfolding call_off_refusal
returns-2 c =
    let t = c in
    sym (if-false _ _ _ (not-nine c.before.before)
    ∙ if-true _ _ _ (ap test_agrees (sym t.test_parts-answer.ensures) ∙ sym c.test_agrees.ensures ∙ c.if-test_agrees.true))

returns-3 : tie.Need-returns
unfolding call_off_refusal
returns-3 c =
    let t = c in
    sym (if-false _ _ _ (not-nine c.before.before)
    ∙ if-false _ _ _ (ap test_agrees (sym t.test_parts-answer.ensures) ∙ sym c.test_agrees.ensures ∙ c.if-test_agrees.false))

pub refuse_call_off_spec : {M : Type 1} → statement M
refuse_call_off_spec =
    tie.close
    (tie.spec
    (λ c κs. search rules)
    (λ c κs. search rules)
    returns
    (λ c κs. search rules)
    returns-2
    returns-3)
