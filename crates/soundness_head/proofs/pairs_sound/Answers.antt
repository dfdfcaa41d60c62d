use Rattle.std.proofs.Common.{rules}
use Rattle.soundness_head.specs.Fits.{pairs_fit}
use Rattle.soundness_head.proofs.pairs_sound.Goals as goal

pub returns : goal.returns
unfolding pairs_fit
returns c = c.every.ensures _ (λ i r l m. search rules)
