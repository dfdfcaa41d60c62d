-- Its two cases.
use mathlib.Core.Path.{sym}
use borrow.Author.Tests.{eq-eqb, ne_eqb}
use Rattle.bounded.proofs.Bool.{if-true, if-false}
use Rattle.scan.specs.Line.{line_kind}
use Rattle.scan.proofs.line_kind.Statement.{statement}
use Rattle.scan.proofs.line_kind.Tie as tie

returns : tie.Need-returns-then-kind-eq3
unfolding line_kind
returns c = sym (if-true _ _ _ (eq-eqb _ _ c.if-kind-eq3.true))

returns-2 : tie.Need-returns
unfolding line_kind
returns-2 c = sym (if-false _ _ _ (ne_eqb _ _ c.if-kind-eq3.false))

pub line_kind_spec : {M : Type 1} → statement M
line_kind_spec = tie.close (tie.spec returns returns-2)
