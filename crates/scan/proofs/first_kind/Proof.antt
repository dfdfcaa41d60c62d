-- Its two cases.
use mathlib.Core.Path.{sym}
use Rattle.bounded.proofs.Bool.{if-true, if-false}
use Rattle.scan.specs.Scan.{first_kind}
use Rattle.scan.proofs.first_kind.Statement.{statement}
use Rattle.scan.proofs.first_kind.Tie as tie

returns : tie.Need-returns-then-numbers
unfolding first_kind
returns c = sym (if-true _ _ _ c.if-numbers.true)

returns-2 : tie.Need-returns
unfolding first_kind
returns-2 c = sym (if-false _ _ _ c.if-numbers.false)

pub first_kind_spec : {M : Type 1} → statement M
first_kind_spec = tie.close (tie.spec returns returns-2)
