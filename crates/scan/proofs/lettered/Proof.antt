-- A kind, or none.
use mathlib.Core.Path.{sym, ◌∙◌}
use borrow.Author.Tests.{eq-eqb, ne_eqb}
use borrow.Author.Rules.{rules}
use Rattle.bounded.proofs.Bool.{if-true, if-false}
use Rattle.scan.specs.Scan.{lettered, kinded}
use Rattle.scan.proofs.lettered.Statement.{statement}
use Rattle.scan.proofs.lettered.Tie as tie

returns : tie.Need-returns-then-kind-eq0
unfolding lettered
returns c = c.faulted.ensures ∙ sym (if-true _ _ _ (eq-eqb _ _ c.if-kind-eq0.true))

returns-2 : tie.Need-returns
unfolding lettered kinded
returns-2 c = sym (if-false _ _ _ (ne_eqb _ _ c.if-kind-eq0.false))

pub lettered_spec : {M : Type 1} → statement M
lettered_spec = tie.close (tie.spec (λ c κs. search rules) returns returns-2)
