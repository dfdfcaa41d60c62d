use Rattle.std.proofs.Common.{rules}
use Rattle.write_version.specs.Filled.{earlier_filled}
use Rattle.write_version.proofs.blank.earlier_filled.Goals as goal

pub every-requires : goal.every-requires
every-requires c = let small = c.requires.1 in search rules

pub returns : goal.returns
unfolding earlier_filled
returns c = c.every.ensures _ (λ i r l m. search rules)
