use Rattle.state_read.proofs.Reading.{refused-told}
use Rattle.state_read.proofs.refused.Goals as goal

pub returns : goal.returns
returns c = refused-told _
