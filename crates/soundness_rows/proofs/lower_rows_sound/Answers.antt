use Rattle.std.proofs.Common.{rules}
use Rattle.soundness_rows.specs.Fits.{lower_rows_fit}
use Rattle.soundness_rows.proofs.lower_rows_sound.Goals as goal

pub returns : goal.returns
unfolding lower_rows_fit
returns c = c.every.ensures _ (λ i r l m. search rules)
