use Rattle.std.proofs.Common.{rules}
use Rattle.write_version.specs.Filled.{all_filled}
use Rattle.write_version.proofs.blank.all_filled.Goals as goal

pub returns : goal.returns
unfolding all_filled
returns c = c.every.ensures _ (λ i r l m. search rules)
