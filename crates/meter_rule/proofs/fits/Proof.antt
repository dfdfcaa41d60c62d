-- The rule itself.
use borrow.Author.Rules.{rules}
use Rattle.meter_rule.specs.PageNine.{goes_with}
use Rattle.meter_rule.proofs.fits.Statement.{statement}
use Rattle.meter_rule.proofs.fits.Tie as tie

returns : tie.Need-returns
unfolding goes_with
returns c = search rules

pub fits_spec : {M : Type 1} → statement M
fits_spec = tie.close (tie.spec (λ c. search rules) (λ c. search rules) returns)
