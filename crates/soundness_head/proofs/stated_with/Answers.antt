use Rattle.std.proofs.Common.{rules}
use Rattle.soundness_head.specs.Fits.{stated_with}
use Rattle.soundness_head.proofs.stated_with.Goals as goal

pub returns : goal.returns
unfolding stated_with
returns c = c.gather.ensures _ (λ i r l m. search rules)
