-- Its two cases.
use mathlib.Core.Path.{sym}
use borrow.Author.Tests.{eq-eqb, ne_eqb}
use Rattle.bounded.proofs.Bool.{if-true, if-false}
use Rattle.scan.specs.Scan.{end_place}
use Rattle.scan.proofs.end_place.Statement.{statement}
use Rattle.scan.proofs.end_place.Tie as tie

returns : tie.Need-returns-then-s-eq0
unfolding end_place
returns c = sym (if-true _ _ _ (eq-eqb _ _ c.if-s-eq0.true))

returns-2 : tie.Need-returns
unfolding end_place
returns-2 c = sym (if-false _ _ _ (ne_eqb _ _ c.if-s-eq0.false))

pub end_place_spec : {M : Type 1} → statement M
end_place_spec = tie.close (tie.spec returns returns-2)
