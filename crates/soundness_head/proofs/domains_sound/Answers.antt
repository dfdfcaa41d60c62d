use Rattle.std.proofs.Common.{rules}
use Rattle.soundness_head.specs.Fits.{domains_fit, within}
use Rattle.soundness_head.proofs.domains_sound.Goals as goal

pub returns : goal.returns
unfolding domains_fit within
returns c = c.every.ensures _ (λ i r l m. search rules)
