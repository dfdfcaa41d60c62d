-- Either case of the rule.
use mathlib.Core.Path.{sym, ap, ◌∙◌}
use native.Mathlib.Omega.{arith}
use borrow.Author.Rules.{rules}
use Rattle.bounded.proofs.Bool.{bit-true, bit-false}
use Rattle.meter_rule.proofs.weighed.Statement.{statement}
use Rattle.meter_rule.proofs.weighed.Tie as tie
use Rattle.meter_rule.proofs.weighed.Reads as reads
use Rattle.meter_rule.proofs.weighed.Lts as lts

returns : tie.Need-returns-then-fits
returns c = let b = bit-true _ (sym c.fits.ensures ∙ c.if-fits.true) in (rw b (omega arith), omega arith)

returns-2 : tie.Need-returns
returns-2 c = let b = bit-false _ (sym c.fits.ensures ∙ c.if-fits.false) in (rw b (omega arith), omega arith)

pub weighed_spec : {M : Type 1} → statement M
weighed_spec = tie.close (tie.spec (λ c κs. search rules) returns returns-2)
