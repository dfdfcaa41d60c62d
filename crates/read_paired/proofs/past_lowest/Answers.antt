use Rattle.read_paired.proofs.OnePass.{none-past}
use Rattle.read_paired.proofs.past_lowest.Goals as goal

pub returns : goal.returns
returns c = none-past c.ranges.row.fits
