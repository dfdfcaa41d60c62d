-- Each test in its turn.
use mathlib.Core.Path.{sym}
use borrow.Author.Rules.{rules}
use Rattle.meter.proofs.Fitted.{few-options, other-cell, flat-by-interval}
use Rattle.meter.proofs.is_flat_meter.Statement.{statement}
use Rattle.meter.proofs.is_flat_meter.Tie as tie
use Rattle.meter.proofs.is_flat_meter.Reads as reads
use Rattle.meter.proofs.is_flat_meter.Lts as lts

returns : tie.Need-returns-then-n-lt2
returns c = sym (few-options _ _ (search rules))

returns-2 : tie.Need-returns-then-sizes-ne4
returns-2 c = sym (other-cell _ _ (search rules))

returns-3 : tie.Need-returns
returns-3 c = sym (flat-by-interval _ _ (search rules) (search rules))

pub is_flat_meter_spec : {M : Type 1} → statement M
is_flat_meter_spec = tie.close (tie.spec returns (λ c. search rules) returns-2 (λ c. search rules) returns-3)
