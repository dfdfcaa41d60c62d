-- After a separator, or not.
use mathlib.Core.Path.{sym, ◌∙◌}
use borrow.Author.Tests.{eq-eqb, ne_eqb}
use borrow.Author.Rules.{rules}
use Rattle.bounded.proofs.Bool.{if-true, if-false}
use Rattle.scan.specs.Scan.{ended, ended_after}
use Rattle.scan.proofs.ended.Statement.{statement}
use Rattle.scan.proofs.ended.Tie as tie

returns : tie.Need-returns-then-t-eq2
unfolding ended ended_after
returns c = let t = c in rw (← t.close-t.ensures) (c.faulted.ensures ∙ rw c.end_place.ensures (sym (if-true _ _ _ (eq-eqb _ _ t.if-t-eq2.true))))

returns-2 : tie.Need-returns
unfolding ended ended_after
returns-2 c = rw (← c.close-t.ensures) (sym (if-false _ _ _ (ne_eqb _ _ c.if-t-eq2.false)))

pub ended_spec : {M : Type 1} → statement M
ended_spec = tie.close (tie.spec (λ c κs. search rules) (λ c κs. search rules) (λ c κs. search rules) returns returns-2)
