-- Its three cases.
use mathlib.Core.Path.{sym, ◌∙◌}
use borrow.Author.Tests.{eq-eqb, ne_eqb}
use borrow.Author.Rules.{rules}
use Rattle.bounded.proofs.Bool.{if-true, if-false}
use Rattle.scan.specs.Scan.{letter}
use Rattle.scan.proofs.letter.Statement.{statement}
use Rattle.scan.proofs.letter.Tie as tie

returns : tie.Need-returns-then-s-eq5
unfolding letter
returns c = c.faulted.ensures ∙ sym (if-true _ _ _ (eq-eqb _ _ c.if-s-eq5.true))

returns-2 : tie.Need-returns-then-s-eq0
unfolding letter
returns-2 c = let t = c in c.lettered.ensures ∙ rw c.kind_of.ensures (sym (if-false _ _ _ (ne_eqb _ _ t.if-s-eq5.false) ∙ if-true _ _ _ (eq-eqb _ _ t.if-s-eq0.true)))

returns-3 : tie.Need-returns
unfolding letter
returns-3 c = let e = c in c.faulted-2.ensures ∙ sym (if-false _ _ _ (ne_eqb _ _ e.if-s-eq5.false) ∙ if-false _ _ _ (ne_eqb _ _ e.if-s-eq0.false))

pub letter_spec : {M : Type 1} → statement M
letter_spec = tie.close (tie.spec (λ c κs. search rules) returns (λ c κs. search rules) (λ c κs. search rules) returns-2 (λ c κs. search rules) returns-3)
