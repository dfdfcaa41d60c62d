-- Its two cases.
use mathlib.Core.Path.{sym}
use borrow.Author.Tests.{lt-ltb, le-ltb}
use borrow.Author.Rules.{rules}
use Rattle.bounded.proofs.Bool.{if-true, if-false}
use Rattle.scan.specs.Scan.{up}
use Rattle.scan.proofs.up.Statement.{statement}
use Rattle.scan.proofs.up.Tie as tie

returns : tie.Need-returns-then-x-lt4294967295
unfolding up
returns c = sym (if-true _ _ _ (lt-ltb _ _ c.if-x-lt4294967295.true))

returns-2 : tie.Need-returns
unfolding up
returns-2 c = sym (if-false _ _ _ (le-ltb _ _ c.if-x-lt4294967295.false))

pub up_spec : {M : Type 1} → statement M
up_spec = tie.close (tie.spec (λ c. search rules) returns returns-2)
