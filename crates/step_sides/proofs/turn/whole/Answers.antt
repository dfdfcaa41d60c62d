use Rattle.words.specs.Word.{width}
use Rattle.step_sides.proofs.Turning.{padded}
use Rattle.step_sides.proofs.turn.whole.Goals as goal

pub returns : goal.returns
returns c = rw c.copy_from_slice.ensures.after (padded width c.args.table.now c.requires)
