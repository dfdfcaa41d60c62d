use Rattle.std.proofs.Common.{rules}
use Rattle.soundness.specs.Parts.{followers_fit}
use Rattle.soundness.proofs.followers_sound.Goals as goal

pub returns : goal.returns
unfolding followers_fit
returns c = c.every.ensures _ (λ i r l m. search rules)
