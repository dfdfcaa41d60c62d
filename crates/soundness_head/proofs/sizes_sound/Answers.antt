use Rattle.std.proofs.Common.{rules}
use Rattle.soundness_head.specs.Fits.{sizes_all_fit}
use Rattle.soundness_head.proofs.sizes_sound.Goals as goal

pub returns : goal.returns
unfolding sizes_all_fit
returns c = c.every.ensures _ (λ i r l m. search rules)
