-- Each case of the version.
use Rattle.std.proofs.Common.{rules}
use Rattle.bounded.specs.Bool.{if}
use Rattle.read_paired.proofs.row_bytes.Goals as goal

pub returns-then-version-eq1 : goal.returns-then-version-eq1
unfolding if
returns-then-version-eq1 c = search rules

pub returns-else-version-eq1 : goal.returns-else-version-eq1
unfolding if
returns-else-version-eq1 c = search rules
