-- Its two cases.
use mathlib.Core.Path.{sym}
use borrow.Author.Tests.{eq-eqb, ne_eqb}
use Rattle.bounded.proofs.Bool.{if-true, if-false}
use Rattle.scan.specs.Scan.{begin_after}
use Rattle.scan.proofs.begin_after.Statement.{statement}
use Rattle.scan.proofs.begin_after.Tie as tie

returns : tie.Need-returns-then-phase-eq0
unfolding begin_after
returns c = sym (if-true _ _ _ (eq-eqb _ _ c.if-phase-eq0.true))

returns-2 : tie.Need-returns
unfolding begin_after
returns-2 c = sym (if-false _ _ _ (ne_eqb _ _ c.if-phase-eq0.false))

pub begin_after_spec : {M : Type 1} → statement M
begin_after_spec = tie.close (tie.spec returns returns-2)
