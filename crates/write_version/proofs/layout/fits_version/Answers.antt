use Rattle.std.proofs.Common.{rules}
use mathlib.Core.Path.{sym, ◌∙◌}
use Rattle.write_version.proofs.Version.{none-fits, limit-fits}
use Rattle.write_version.proofs.layout.fits_version.Goals as goal

pub returns-then-most-eq0 : goal.returns-then-most-eq0
returns-then-most-eq0 c = λ h rows n sizes. sym (none-fits _ _ c.fixed_by-most.ensures h rows c.if-most-eq0.true)

pub returns : goal.returns
returns c = λ h rows n sizes.
    rw (← n, ← sizes) at c.every.ensures _ (λ i r l m. search rules) ∙ limit-fits _ _ c.fixed_by-most.ensures h rows c.if-most-eq0.false
